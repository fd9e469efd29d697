-- Kayles keeps the laws of games and of sets.
pub mod Counting
pub mod Digits
pub mod Moves
pub mod Rebuilding
pub mod Splitting
pub mod Words
use Rattle.std.specs.Prelude.{◌≡◌, ℕ, suc, ◌+◌, ◌*◌, ◌<◌, ◌≤◌, min, not, T, List, [], ◌∷◌, length, ◌==◌, refl}
use Rattle.std.proofs.Common.{sym, ap, ap₂, ◌∙◌, mod-eq_of_lt, arith}
use Rattle.std.specs.Bool.{beq}
use Rattle.std.specs.Cmp.{booleans_Decides}
use Rattle.std.proofs.lemmas.Bool.Decides.{nat_tests}
use Rattle.std.proofs.lemmas.Bool.{and_parts, eqb-true}
use Rattle.kayles.specs.declared.board.Pin.{Pin}
use Rattle.kayles.specs.declared.position.Position.{Position}
use Rattle.kayles.specs.declared.tally.RunSet.{RunSet}
use Rattle.kayles.specs.Boards.{row_few}
use Rattle.kayles.specs.Kayles.{kayles_rules, kayles_sets, knock_of, knocks_of, pins_of, played, set_of}
use Rattle.kayles.specs.Limits.{most_pins}
use Rattle.kayles.specs.Play.{fallen_after, knocks, knocks_from, left_by, offered, taking}
use Rattle.kayles.specs.Rows.{upright}
use Rattle.kayles.specs.Laws.Moves.{takes, taken}
use Rattle.kayles.specs.Laws.Rebuilding.{pins_mask, same_board, same_position}
use Rattle.kayles.specs.Laws.Splitting.{Same, counted, lower, matched, up_after, upright_le}
use Rattle.kayles.specs.Laws.Words.{same_word, word, word_same}
use Rattle.search.specs.Games.{GameLaws}
use Rattle.search.specs.Sets.{In, SetLaws}
use Rattle.search.proofs.SetsByKey.{laws_by_key}

-- ---- the moves of a position

-- no pin begins more than two moves
few_from : (i : ℕ) (ps : List Pin) → length (knocks_from i ps) ≤ 2 * length ps
unfolding knocks_from offered
few_from i [] = omega arith
few_from i (p ∷ ps) = grind (arith, nat_tests, few_from (suc i) ps)

pub few_knocks : (p : Position) → length (knocks_of p) ≤ 64
unfolding knocks
few_knocks p = omega (arith, few_from 1 (pins_of p), row_few p.board)

-- the position after move m
abbrev pub after : Position → ℕ → Position
after p m = played p (knock_of p m)

row_left : (p : Position) (j c : ℕ) → pins_of (played p (taking (1 + j) c)) ≡ fallen_after j c (pins_of p)
unfolding left_by
row_left p j c = pins_mask _ ∙ ap (λ i. fallen_after i c (pins_of p)) (omega arith)

-- its row is the row with one or two pins down
row_after : (p : Position) (m : ℕ) → m < length (knocks_of p) → (j : ℕ) × (c : ℕ) × (c < 2) × T (up_after j (suc c) (pins_of p)) × (pins_of (after p m) ≡ fallen_after j (suc c) (pins_of p))
unfolding knocks
row_after p m h =
    let s = takes 1 (pins_of p) m h in
    (s.0, s.1, s.2, s.4, ap (λ k. pins_of (played p k)) s.3 ∙ row_left p s.0 (suc s.1))

-- and where one or two pins stand, some move takes them
row_move : (q : Position) (j c : ℕ) → c < 2 → T (up_after j (suc c) (pins_of q)) → (n : ℕ) × (n < length (knocks_of q)) × (pins_of (after q n) ≡ fallen_after j (suc c) (pins_of q))
unfolding knocks
row_move q j c h t =
    let a = taken 1 j c (1 + j) (pins_of q) h refl t in
    (a.0, a.1, ap (λ k. pins_of (played q k)) a.2 ∙ row_left q j (suc c))

-- ---- the game

falls : (p : Position) (m : ℕ) → m < length (knocks_of p) → upright (pins_of (after p m)) < upright (pins_of p)
falls p m h = let r = row_after p m h in omega (arith, ap upright r.4, lower r.0 (suc r.1) (pins_of p) r.3)

pub words_back : (p : Position) → kayles_rules.position (kayles_rules.row p) ≡ p
words_back p =
    let n : min p.board.count most_pins ≡ p.board.count = omega (arith, p.board.few) in
    same_position _ p (same_board _ p.board n (rw n (mod-eq_of_lt p.board.within))) (grind (arith, nat_tests))

pub game_laws : GameLaws kayles_rules
game_laws = record {
  falls = falls;
  score_top = λ p e. grind (arith, nat_tests);
  gain_top = λ p m h. omega arith;
  no_score = λ p l. grind (arith, nat_tests);
  few_moves = λ p. omega (arith, few_knocks p);
  low_top = λ p. omega arith;
  low_height = λ p. omega (arith, upright_le (pins_of p), row_few p.board);
  row_back = words_back;
}

-- ---- the sets

-- what a set names is what each of its members has
pub has_key : (s : RunSet) (p : Position) → In kayles_sets s p → s ≡ set_of p
has_key s p i =
    let b = and_parts (s.word == word (pins_of p)) (beq s.counting p.counting) i in
    ap₂ (λ w c. record { word = w; counting = c }) (eqb-true s.word (word (pins_of p)) b.0) ((booleans_Decides s.counting p.counting).0 b.1)

pub own : (p : Position) → In kayles_sets (set_of p) p
own p = grind (arith, nat_tests, (booleans_Decides p.counting p.counting).1 refl)

-- one set is one side to move and as many runs of each length
pub set_runs : (p q : Position) → set_of p ≡ set_of q → Same (pins_of p) (pins_of q)
set_runs p q e = same_word (pins_of p) (pins_of q) (row_few p.board) (row_few q.board) (ap (λ s. s.word) e)

pub runs_set : (p q : Position) → Same (pins_of p) (pins_of q) → p.counting ≡ q.counting → set_of p ≡ set_of q
runs_set p q s c = ap₂ (λ w c. record { word = w; counting = c }) (word_same (pins_of p) (pins_of q) (row_few p.board) (row_few q.board) s) c

-- each move of p has one of q that leads to a position with the set of that after it
follows : (p q : Position) → set_of p ≡ set_of q → (m : ℕ) → m < length (knocks_of p) → (n : ℕ) × (n < length (knocks_of q)) × (set_of (after p m) ≡ set_of (after q n))
follows p q e m h =
    let r = row_after p m h in
    let f = matched r.0 r.1 (pins_of p) (pins_of q) (set_runs p q e) r.3 in
    let n = row_move q f.0 r.1 r.2 f.1 in
    (n.0, n.1, runs_set (after p m) (after q n.0) (λ x g. ap (counted x 0) r.4 ∙ f.2 x g ∙ sym (ap (counted x 0) n.2)) (ap (λ s. not s.counting) e))

pub set_laws : SetLaws kayles_rules kayles_sets
set_laws = laws_by_key {key = set_of} (record {
  own = own;
  is_key = has_key;
  broad = λ p. refl;
  pull = λ p m t. refl;
  narrow = λ p s t. refl;
  low_weight = λ s. omega arith;
  side = λ p q e. ap (λ s. s.counting) (sym e);
  top = λ p q e. refl;
  score = λ p q e h k. grind (arith, nat_tests, ap (λ s. s.counting) e);
  follow = λ p q e m h. let f = follows p q e m h in (f.0, f.1, refl, f.2);
})

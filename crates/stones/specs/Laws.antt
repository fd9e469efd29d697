-- The game of stones keeps the laws of games and of sets.
use Rattle.std.specs.Prelude.{◌≡◌, ℕ, ◌-◌, ◌≤◌, Bool, if◌then◌else◌, not, ◌==◌, refl}
use Rattle.std.proofs.Common.{sym, ap, ap₂, arith}
use Rattle.std.specs.Bool.{beq}
use Rattle.std.specs.Cmp.{booleans_Decides}
use Rattle.std.proofs.lemmas.Bool.Decides.{nat_tests}
use Rattle.std.proofs.lemmas.Bool.{and_parts, eqb-true}
use mathlib.Core.HLevel.{is_prop→PathP}
use Rattle.std.proofs.Math.Bridge.{le_prop}
use Rattle.stones.specs.declared.pile.PileSet.{PileSet}
use Rattle.stones.specs.declared.pile.Pile.{Pile}
use Rattle.stones.specs.Limits.{most_stones}
use Rattle.stones.specs.Piles.{alike, rules_of_play, sets_of_piles, taken}
use Rattle.search.specs.Games.{GameLaws}
use Rattle.search.specs.Sets.{In, SetLaws}
use Rattle.search.proofs.SetsByKey.{laws_by_key}

-- Piles are the same where what they hold is.
pub same_pile : (p q : Pile) → p.stones ≡ q.stones → p.counting ≡ q.counting → p.red ≡ q.red → p ≡ q
same_pile p q es ec er = λ i. record { stones = es i; counting = ec i; red = er i; few = is_prop→PathP (λ i. es i ≤ most_stones) (λ i. le_prop) p.few q.few i }

pub game_laws : GameLaws rules_of_play
game_laws = record {
  falls = λ p m h. omega arith;
  score_top = λ p e. omega arith;
  gain_top = λ p m h. grind (arith, nat_tests);
  no_score = λ p l. refl;
  few_moves = λ p. omega arith;
  low_top = λ p. let h = p.few in omega arith;
  low_height = λ p. let h = p.few in omega arith;
  row_back = λ p. same_pile _ p (let h = p.few in omega arith) (grind (arith, nat_tests)) (grind (arith, nat_tests));
}

-- A set is told by its size and its side to move.
same_set : {n m : ℕ} {c d : Bool} → n ≡ m → c ≡ d → ◌≡◌ {A = PileSet} (record { stones = n; counting = c }) (record { stones = m; counting = d })
same_set en ec = ap₂ (λ n c. record { stones = n; counting = c }) en ec

has_key : (s : PileSet) (q : Pile) → In sets_of_piles s q → s ≡ alike q
has_key s q i =
    let b = and_parts (s.stones == q.stones) (beq s.counting q.counting) i in
    same_set (eqb-true s.stones q.stones b.0) ((booleans_Decides s.counting q.counting).0 b.1)

-- After the same move, piles of one size and side to move are again of one size and side to move.
pub set_laws : SetLaws rules_of_play sets_of_piles
set_laws = laws_by_key {key = alike} (record {
  own = λ p. grind (arith, nat_tests, (booleans_Decides p.counting p.counting).1 refl);
  is_key = has_key;
  broad = λ p. refl;
  pull = λ p m t. refl;
  narrow = λ p s t. refl;
  low_weight = λ s. omega arith;
  side = λ p q e. ap (λ s. s.counting) (sym e);
  top = λ p q e. ap (λ s. s.stones) (sym e);
  score = λ p q e h k. refl;
  follow = λ p q e m h.
      let n : p.stones ≡ q.stones = ap (λ s. s.stones) e in
      let c : p.counting ≡ q.counting = ap (λ s. s.counting) e in
      (m, omega arith, ap (λ c. if c then taken m else 0) (sym c), same_set (ap (λ n. n - taken m) n) (ap not c));
})

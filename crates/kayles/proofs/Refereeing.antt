-- The rules are those of the game.
use Rattle.std.proofs.Common.{ℕ, List, length, sym, refl, ◌∙◌, subst, arith, inl, inr}
use Rattle.std.proofs.lemmas.Bool.Decides.{nat_tests}
use Rattle.std.proofs.lemmas.Bool.{cases_eq}
use Rattle.kayles.specs.declared.board.Pin.{Pin}
use Rattle.kayles.specs.declared.position.Knock.{Knock}
use Rattle.kayles.specs.declared.position.Position.{Position}
use Rattle.kayles.specs.Boards.{row_few}
use Rattle.kayles.specs.Kayles.{kayles_rules, knock_of, knocks_of, pins_of, played}
use Rattle.kayles.specs.Play.{IsKnock, Leaves, left_by, taking}
use Rattle.kayles.specs.Promises.{LeadsTo, RulesRight, SetsRight}
use Rattle.kayles.specs.Rows.{Stands}
use Rattle.kayles.specs.Laws.{game_laws}
use Rattle.kayles.proofs.Naming.{described, has_many}
use Rattle.kayles.proofs.Numbering.{knock_up, leaves, listed}
use Rattle.kayles.specs.Laws.Rebuilding.{board_is, pins_mask, same_position}
use Rattle.kayles.proofs.Sorting.{same_knocks}
use Rattle.search.specs.Games.{Ended}

pub leads : (p : Position) (k : Knock) → IsKnock (pins_of p) k → LeadsTo p k (played p k)
leads p k is = record {
  row = subst (Leaves (pins_of p) k) (sym (pins_mask (left_by k (pins_of p)))) (leaves (pins_of p) k (knock_up (pins_of p) k is).0);
  turn = refl;
}

-- a standing pin is a move
standing_knock : (ps : List Pin) (i : ℕ) → Stands ps i → IsKnock ps (taking i 1)
standing_knock ps i s = record { some = omega arith; few = omega arith; stand = λ j h. subst (Stands ps) (omega (arith, h.0, h.1)) s }

none_stands : (p : Position) → Ended kayles_rules p → (i : ℕ) → Stands (pins_of p) i → ⊥
none_stands p e i s = let m = (listed (pins_of p)).all (taking i 1) (standing_knock (pins_of p) i s) in omega (arith, m.1)

no_move : (p : Position) → ((i : ℕ) → Stands (pins_of p) i → ⊥) → Ended kayles_rules p
no_move p none = elim (cases_eq (length (knocks_of p)) 0) [
  | inl e ↦ e
  | inr n ↦ let k = (listed (pins_of p)).each 0 (omega arith) in absurd (none (knock_of p 0).pin (k.stand (knock_of p 0).pin (omega arith, omega (arith, k.some))))
]

pub rules_right : RulesRight
rules_right = record {
  one_list = same_knocks;
  one_position = λ p q e c. same_position p q (board_is p.board (pins_of q) (row_few q.board) e ∙ sym (board_is q.board (pins_of q) (row_few q.board) refl)) c;
  side = λ p. refl;
  numbered = λ p m h. (knocks_of p, listed (pins_of p), h, refl);
  no_more = λ p. (knocks_of p, listed (pins_of p), omega arith);
  leads = λ p m h. leads p (knock_of p m) ((listed (pins_of p)).each m h);
  ended = λ p. (none_stands p, no_move p);
  won = λ p e c. grind (arith, nat_tests);
  lost = λ p e c. grind (arith, nat_tests);
  not_yet = game_laws.no_score;
  gain = λ p m. refl;
  top = λ p. refl;
  height = λ p. refl;
}

pub sets_right : SetsRight
sets_right = record {
  one_number = λ ps x m n h k. sym (has_many ps x m h) ∙ has_many ps x n k;
  broad = described;
  pull = λ p m t. described p;
  narrow = λ p s t. described p;
}

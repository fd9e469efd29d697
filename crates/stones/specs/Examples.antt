-- Small piles: what they are worth, their moves, and the visits of the bare search.
use Rattle.std.specs.Prelude.{◌≡◌, ℕ, ◌^◌, Bool, true, false, if◌then◌else◌, [], ◌∷◌, Some, None}
use Rattle.stones.specs.declared.pile.Pile.{Pile}
use Rattle.stones.specs.Piles.{rules_of_play}
use Rattle.search.specs.declared.call.Call.TheVariants.{Query, Solve, Best}
use Rattle.search.specs.declared.call.CallError.TheVariants.{ShortTrail, GameOver}
use Rattle.search.specs.Bare.{bare, bare_best, bare_solve}
use Rattle.search.specs.Calls.{refusal}
use Rattle.search.specs.Minimax.{move, worth}
use Rattle.search.specs.Visits.{capped}

-- A red pile of n stones, where the counting side (true) or the other is to move.
abbrev pub pile : ℕ → Bool → Pile
pile n c = rules_of_play.position (n ∷ (if c then 1 else 0) ∷ 1 ∷ 0 ∷ 0 ∷ [])

pub record Examples : Type 0 where
  -- one stone is the taker's; of four the counting side gets two, of six four, and of five it gets two when the other side begins
  pub worth_0 : worth rules_of_play (pile 0 true) ≡ 0
  pub worth_1 : worth rules_of_play (pile 1 true) ≡ 1
  pub worth_4 : worth rules_of_play (pile 4 true) ≡ 2
  pub worth_6 : worth rules_of_play (pile 6 true) ≡ 4
  pub worth_5 : worth rules_of_play (pile 5 false) ≡ 2
  -- of four it is as well to take one as two, and the first counts; of six only two will do
  pub move_4 : move rules_of_play (pile 4 true) ≡ 0
  pub move_6 : move rules_of_play (pile 6 true) ≡ 1
  pub move_5 : move rules_of_play (pile 5 false) ≡ 0
  -- the bare search, yes or no and its visits
  pub bare_0 : bare rules_of_play (pile 6 true) 0 ≡ (true, 1)
  pub bare_1 : bare rules_of_play (pile 6 true) 1 ≡ (true, 2)
  pub bare_4 : bare rules_of_play (pile 6 true) 4 ≡ (true, 24)
  pub bare_5 : bare rules_of_play (pile 6 true) 5 ≡ (false, 13)
  pub bare_6 : bare rules_of_play (pile 6 true) 6 ≡ (false, 5)
  pub bare_7 : bare rules_of_play (pile 6 true) 7 ≡ (false, 1)
  pub bare_other : bare rules_of_play (pile 5 false) 3 ≡ (false, 12)
  -- the visits of a solve and of a best over a table that holds nothing: one stone is worth its top, so that no query answers no
  pub solve_1 : bare_solve rules_of_play (pile 1 true) ≡ 2
  pub solve_4 : bare_solve rules_of_play (pile 4 true) ≡ 19
  pub solve_5 : bare_solve rules_of_play (pile 5 false) ≡ 30
  pub best_4 : bare_best rules_of_play (pile 4 true) ≡ 24
  pub best_6 : bare_best rules_of_play (pile 6 true) ≡ 82
  pub best_5 : bare_best rules_of_play (pile 5 false) ≡ 41
  -- a pile of four stones wants four trail cells, for each call that has a position
  pub three_cells : refusal rules_of_play (Query (pile 4 true) 1 3) ≡ Some ShortTrail
  pub four_cells : refusal rules_of_play (Query (pile 4 true) 1 4) ≡ None
  pub best_three : refusal rules_of_play (Best (pile 4 true) 3) ≡ Some ShortTrail
  pub best_ended : refusal rules_of_play (Best (pile 0 true) 0) ≡ Some GameOver
  pub solve_ended : refusal rules_of_play (Solve (pile 0 true) 0) ≡ None
  -- counts are told as they are up to the limit, and no higher
  pub count_held : capped (2 ^ 64) ≡ 18446744073709551615
  pub count_kept : capped 18446744073709551614 ≡ 18446744073709551614

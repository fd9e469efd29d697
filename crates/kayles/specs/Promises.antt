-- The rules of the game in the words of the game.
use Rattle.std.specs.Prelude.{◌≡◌, ℕ, true, false, not, ◌↔◌, List}
use Rattle.kayles.specs.declared.board.Pin.{Pin}
use Rattle.kayles.specs.declared.position.Knock.{Knock}
use Rattle.kayles.specs.declared.position.Position.{Position}
use Rattle.kayles.specs.declared.tally.RunSet.{RunSet}
use Rattle.kayles.specs.Kayles.{Describes, kayles_rules, kayles_sets, knock_of, pins_of}
use Rattle.kayles.specs.Play.{KnocksOf, Leaves, Numbered, Unnumbered}
use Rattle.kayles.specs.Rows.{Stands, upright}
use Rattle.kayles.specs.Tallies.{HasRuns}
use Rattle.search.specs.declared.game.Child.{Child}
use Rattle.search.specs.Games.{Ended, Legal, Live}

-- the move k leads from p to q: its pins go down, and the other side is to move
pub record LeadsTo (p : Position) (k : Knock) (q : Position) : Type 0 where
  pub row : Leaves (pins_of p) k (pins_of q)
  pub turn : q.counting ≡ not p.counting

-- what is answered for move m of p: the move of that number, and where it leads
pub record Plays (p : Position) (m : ℕ) (c : Child Position Knock) : Type 0 where
  pub numbered : Numbered (pins_of p) m c.played
  pub leads : LeadsTo p c.played c.position
  pub gains : c.gain ≡ 0

pub record RulesRight : Type 0 where
  -- a row has one list of its moves
  pub one_list : (ps : List Pin) (js ks : List Knock) → KnocksOf ps js → KnocksOf ps ks → js ≡ ks
  -- a position is its row and its side to move
  pub one_position : (p q : Position) → pins_of p ≡ pins_of q → p.counting ≡ q.counting → p ≡ q
  pub side : (p : Position) → kayles_rules.counting p ≡ p.counting
  -- it has the moves of its row, by their numbers and no more, and each leads where it should
  pub numbered : (p : Position) (m : ℕ) → Legal kayles_rules p m → Numbered (pins_of p) m (knock_of p m)
  pub no_more : (p : Position) → Unnumbered (pins_of p) (kayles_rules.moves p)
  pub leads : (p : Position) (m : ℕ) → Legal kayles_rules p m → LeadsTo p (knock_of p m) (kayles_rules.after p m)
  -- it is ended exactly if no pin stands
  pub ended : (p : Position) → Ended kayles_rules p ↔ ((i : ℕ) → Stands (pins_of p) i → ⊥)
  -- the end score is 1 if the other side is to move at the end, so that the counting side took the last pin; else it is 0
  pub won : (p : Position) → Ended kayles_rules p → p.counting ≡ false → kayles_rules.score p ≡ 1
  pub lost : (p : Position) → Ended kayles_rules p → p.counting ≡ true → kayles_rules.score p ≡ 0
  pub not_yet : (p : Position) → Live kayles_rules p → kayles_rules.score p ≡ 0
  -- nothing is gained on the way, the top is 1, and the height is the standing pins
  pub gain : (p : Position) (m : ℕ) → kayles_rules.gain p m ≡ 0
  pub top : (p : Position) → kayles_rules.top p ≡ 1
  pub height : (p : Position) → kayles_rules.height p ≡ upright (pins_of p)

pub record SetsRight : Type 0 where
  -- a row has one number of runs of each length
  pub one_number : (ps : List Pin) (x m n : ℕ) → HasRuns ps x m → HasRuns ps x n → m ≡ n
  -- broad, pull and narrow give the set of the position, whatever the sets given
  pub broad : (p : Position) → Describes p (kayles_sets.broad p)
  pub pull : (p : Position) (m : ℕ) (t : RunSet) → Describes p (kayles_sets.pull p m t)
  pub narrow : (p : Position) (s t : RunSet) → Describes p (kayles_sets.narrow p s t)

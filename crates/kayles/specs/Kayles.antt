-- Kayles as a game, and its sets.
use Rattle.std.specs.Prelude.{◌≡◌, ℕ, suc, ◌%◌, ◌^◌, ◌<◌, ◌≤◌, min, if◌then◌else◌, not, ◌&&◌, ◌↔◌, List, [], ◌∷◌, length, ◌==◌, slice_index, slice_index_or}
use Rattle.std.specs.Bool.{beq}
use Rattle.std.proofs.Common.{mod-lt, arith, pow_pos}
use Rattle.kayles.specs.declared.board.Board.{Board}
use Rattle.kayles.specs.declared.board.Pin.{Pin}
use Rattle.kayles.specs.declared.position.Knock.{Knock}
use Rattle.kayles.specs.declared.position.Position.{Position}
use Rattle.kayles.specs.declared.tally.RunSet.{RunSet}
use Rattle.kayles.specs.Boards.{board_of, row_few}
use Rattle.kayles.specs.Limits.{most_pins}
use Rattle.kayles.specs.Play.{knocks, left_by, length-left, no_knock}
use Rattle.kayles.specs.Rows.{row, upright}
use Rattle.kayles.specs.Tallies.{HasRuns, all_runs, named, pins_named, sum_to, word_of}
use Rattle.search.specs.Games.{Rules}
use Rattle.search.specs.Sets.{In, Sets}

-- the pins of a position
abbrev pub pins_of : Position → List Pin
pins_of p = row p.board

-- its moves
abbrev pub knocks_of : Position → List Knock
knocks_of p = knocks (pins_of p)

-- the move of a number, from 0
abbrev pub knock_of : Position → ℕ → Knock
knock_of p m = slice_index_or (knocks_of p) m no_knock

-- a move takes no pin off the board
pub left_few : (p : Position) (k : Knock) → length (left_by k (pins_of p)) ≤ most_pins
left_few p k = omega (arith, length-left k (pins_of p), row_few p.board)

-- the position after a move: its pins are down, and the other side is to move
abbrev pub played : Position → Knock → Position
played p k = record { board = board_of (left_by k (pins_of p)) (left_few p k); counting = not p.counting }

-- a position as plain words
abbrev pub words_of : Position → List ℕ
words_of p = p.board.count ∷ p.board.standing ∷ (if p.counting then 1 else 0) ∷ 0 ∷ 0 ∷ []

-- what a board's type asks of a count and a mask that are cut to fit
pub held : (n : ℕ) → min n most_pins ≤ most_pins
held n = omega arith

pub cut : (n m : ℕ) → m % 2 ^ n < 2 ^ n
cut n m = mod-lt m (pow_pos n)

-- a board for any count and mask: no more than 32 pins, and no bit past them
abbrev pub cut_to_fit : ℕ → ℕ → Board
cut_to_fit n m = record { count = min n most_pins; standing = m % 2 ^ min n most_pins; few = held n; within = cut (min n most_pins) m }

-- a position for any words
abbrev pub position_of : List ℕ → Position
position_of ws = record { board = cut_to_fit (slice_index ws 0) (slice_index ws 1); counting = (slice_index ws 2 == 1) }

-- The sides in turn knock down one standing pin or two standing neighbours. Who takes the last pin wins: at the end the
-- score is 1 if the other side is to move, and nothing is scored before.
abbrev pub kayles_rules : Rules Position
kayles_rules = record {
  counting = λ p. p.counting;
  moves = λ p. length (knocks_of p);
  gain = λ p m. 0;
  after = λ p m. played p (knock_of p m);
  score = λ p. if length (knocks_of p) == 0 && not p.counting then 1 else 0;
  top = λ p. 1;
  height = λ p. upright (pins_of p);
  row = words_of;
  position = position_of;
}

-- the set of a position: its side to move, and how many runs it has of each length
abbrev pub set_of : Position → RunSet
set_of p = record { word = word_of (all_runs (pins_of p)); counting = p.counting }

-- Positions share a set that have one side to move and as many runs of each length. A set weighs its standing pins.
abbrev pub kayles_sets : Sets Position RunSet
kayles_sets = record {
  member = λ s p. (s.word == word_of (all_runs (pins_of p))) && beq s.counting p.counting;
  broad = set_of;
  pull = λ p m t. set_of p;
  narrow = λ p s t. set_of p;
  weight = pins_named;
}

-- every number of runs that the one row has of some length the other has too; as a row has one number for each length,
-- they have as many runs of each
abbrev pub AsManyRuns : List Pin → List Pin → Type 0
AsManyRuns ps qs = (x n : ℕ) → HasRuns ps x n → HasRuns qs x n

-- one side to move, and as many runs of each length
abbrev pub Alike : Position → Position → Type 0
Alike p q = (q.counting ≡ p.counting) × AsManyRuns (pins_of p) (pins_of q)

-- s is the set of p
pub record Describes (p : Position) (s : RunSet) : Type 0 where
  -- it names the side to move
  pub side : s.counting ≡ p.counting
  -- and how many runs there are of each length
  pub runs : (x : ℕ) → HasRuns (pins_of p) x (named s x)
  -- a position belongs exactly if it has that side to move and as many runs of each length
  pub members : (q : Position) → In kayles_sets s q ↔ Alike p q
  -- its weight is the standing pins of p, which are those of the runs that it names
  pub weight : kayles_sets.weight s ≡ upright (pins_of p)
  pub weighed : kayles_sets.weight s ≡ sum_to suc (named s) most_pins

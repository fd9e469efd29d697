-- What reading a line answers.
use Rattle.std.specs.Prelude.{◌≡◌, ℕ, ◌↔◌, List, Ok, Err, Result, Some, None, Option}
use Rattle.kayles.specs.declared.board.Board.{Board}
use Rattle.kayles.specs.declared.board.Pin.{Pin}
use Rattle.kayles.specs.Rows.{row}
use Rattle.book.specs.declared.fault.Fault.{Fault}
use Rattle.book.specs.declared.fault.Refusal.{Refusal}
use Rattle.book.specs.BoardLines.{BoardLine, FirstFault, kayles_opening}
use Rattle.book.specs.Faults.{number}
use Rattle.book.specs.Tags.{Opened}

abbrev pub Reading : Type 0
Reading = Result (Option Board) Refusal

-- the line is passed over
abbrev pub Passes : Reading → Type 0
Passes r = r ≡ Ok None

-- the line is accepted with a board of that row
abbrev pub Accepts : Reading → List Pin → Type 0
Accepts r ps = (b : Board) × (r ≡ Ok (Some b)) × (row b ≡ ps)

-- the line is refused with that number and column
abbrev pub Refuses : Reading → ℕ → ℕ → Type 0
Refuses r n column = (e : Refusal) × (r ≡ Err e) × (number e.fault ≡ n) × (e.column ≡ column)

-- the number and the column of the first fault of a line
abbrev pub Faulted : List ℕ → ℕ → ℕ → Type 0
Faulted line n column = (f : Fault) × (number f ≡ n) × FirstFault line f column

-- every line is passed over, accepted or refused, each exactly as the rules say
pub record Reads (line : List ℕ) (r : Reading) : Type 0 where
  pub passed : Passes r ↔ (Opened kayles_opening line → ⊥)
  pub accepted : (ps : List Pin) → Accepts r ps ↔ BoardLine line ps
  pub refused : (n column : ℕ) → Refuses r n column ↔ Faulted line n column
  -- an opened line has the form exactly if it has no fault
  pub tied : Opened kayles_opening line → ((ps : List Pin) × BoardLine line ps) ↔ ((n column : ℕ) → Faulted line n column → ⊥)

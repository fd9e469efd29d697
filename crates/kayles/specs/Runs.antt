-- The runs of a row.
use Rattle.std.specs.Prelude.{ℕ, ◌+◌, ◌-◌, ◌<◌, ◌≤◌, List}
use Rattle.kayles.specs.declared.board.Pin.{Pin}
use Rattle.kayles.specs.declared.runs.Run.{Run}
use Rattle.kayles.specs.Lists.{ListOf}
use Rattle.kayles.specs.Rows.{Stands}

-- a run is a widest stretch of standing pins: all its pins stand, and neither the pin before nor the pin after
pub record IsRun (ps : List Pin) (r : Run) : Type 0 where
  pub some : 0 < r.len
  pub stand : (k : ℕ) → r.first ≤ k → k < r.first + r.len → Stands ps k
  pub before : Stands ps (r.first - 1) → ⊥
  pub after : Stands ps (r.first + r.len) → ⊥

-- r is the first of the runs that begin at pin `from` or later
pub record FirstRun (ps : List Pin) (from : ℕ) (r : Run) : Type 0 where
  pub is_run : IsRun ps r
  pub late : from ≤ r.first
  pub earliest : (q : Run) → IsRun ps q → from ≤ q.first → r.first ≤ q.first

-- no run begins at pin `from` or later
abbrev pub NoRun : List Pin → ℕ → Type 0
NoRun ps from = (r : Run) → IsRun ps r → r.first < from

-- what a list is read as past its end; it is no run
abbrev pub no_run : Run
no_run = record { first = 0; len = 0 }

-- rs lists the runs of the row from the left
abbrev pub RunsOf : List Pin → List Run → Type 0
RunsOf ps rs = ListOf (IsRun ps) (λ q r. q.first < r.first) no_run rs

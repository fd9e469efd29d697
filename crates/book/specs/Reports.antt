-- The report on a book, for the proofreader.
use Rattle.std.specs.Prelude.{◌≡◌, ℕ, suc, ◌<◌, ◌≤◌, List, [], ◌∷◌, ◌++◌, length, codes, decimal}
use Rattle.std.specs.List.{flat_map, concat}
use Rattle.kayles.specs.declared.board.Pin.{Pin}
use Rattle.kayles.specs.declared.runs.Run.{Run}
use Rattle.kayles.specs.Rows.{upright}
use Rattle.kayles.specs.Runs.{RunsOf}
use Rattle.book.specs.declared.fault.Fault.TheVariants.{BookTooLong}
use Rattle.book.specs.declared.line.Line.{Line}
use Rattle.book.specs.BoardLines.{BoardLine, kayles_opening}
use Rattle.book.specs.Faults.{number}
use Rattle.book.specs.Lines.{LinesOf}
use Rattle.book.specs.Readings.{Faulted}
use Rattle.book.specs.Tags.{Opened}

-- the lengths of the runs, from the left, each after a space
abbrev pub lengths_text : List Run → List ℕ
lengths_text rs = flat_map (λ r. codes " " ++ decimal r.len) rs

-- the same, or a word where there are none
abbrev pub runs_text : List Run → List ℕ
runs_text [] = codes " none"
runs_text (r ∷ rs) = lengths_text (r ∷ rs)

-- what is printed for a line with a fault, and for a board; n is the number of the line and k that of the fault
abbrev pub fault_text : ℕ → ℕ → ℕ → List ℕ
fault_text n k column = concat (codes "line " ∷ decimal n ∷ codes " fault " ∷ decimal k ∷ codes " column " ∷ decimal column ∷ codes "\n" ∷ [])

abbrev pub board_text : ℕ → List Pin → List Run → List ℕ
board_text n ps rs = concat (codes "kayles " ∷ decimal n ∷ codes "\npins " ∷ decimal (length ps) ∷ codes " standing " ∷ decimal (upright ps) ∷ codes "\nruns" ∷ runs_text rs ∷ codes "\n" ∷ [])

-- what is printed for the line with the number n: nothing, a board, or a fault
pub data Answered (n : ℕ) (line : List ℕ) : List ℕ → Type 0 where
  passed : (Opened kayles_opening line → ⊥) → Answered n line []
  board : (ps : List Pin) (rs : List Run) → BoardLine line ps → RunsOf ps rs → Answered n line (board_text n ps rs)
  fault : (k column : ℕ) → Faulted line k column → Answered n line (fault_text n k column)

-- what is printed for some lines, one after the other, numbered from n on
pub data AllAnswered : ℕ → List Line → List ℕ → Type 0 where
  none : {n : ℕ} → AllAnswered n [] []
  next : {n : ℕ} {l : Line} {ls : List Line} {out rest : List ℕ} → Answered n l.text.now out → AllAnswered (suc n) ls rest → AllAnswered n (l ∷ ls) (out ++ rest)

-- the most bytes that a book may have
abbrev pub limit : ℕ
limit = 8192

-- what is printed for a book: for all its lines, numbered from 1, or only that it is too long
pub data Report (book : List ℕ) : List ℕ → Type 0 where
  too_long : limit < length book → Report book (concat (codes "book fault " ∷ decimal (number BookTooLong) ∷ codes "\n" ∷ []))
  answered : {out : List ℕ} → length book ≤ limit → (ls : List Line) → LinesOf book ls → AllAnswered 1 ls out → Report book out

-- out is what is printed for the book, and nothing else is
abbrev pub TheReport : List ℕ → List ℕ → Type 0
TheReport book out = Report book out × ((other : List ℕ) → Report book other → other ≡ out)

-- Board lines: their form, and their first fault.
use Rattle.std.specs.Prelude.{◌≡◌, ℕ, ◌+◌, ◌<◌, ◌≤◌, ◌⊎◌, List, map, length, codes, ◌≢◌, slice_index}
use Rattle.kayles.specs.declared.board.Pin.{Pin}
use Rattle.kayles.specs.Limits.{most_pins}
use Rattle.book.specs.declared.fault.Fault.{Fault}
use Rattle.book.specs.declared.fault.Fault.TheVariants.{Unclosed, NotAPin, TooManyPins, BookTooLong}
use Rattle.book.specs.Tags.{Opened, Tagged}
use Rattle.book.specs.Letters.{letter}

-- a line that begins so is a board line
abbrev pub kayles_opening : List ℕ
kayles_opening = codes "[Kayles \""

-- the text shows the row, a letter for each pin
abbrev pub Shows : List ℕ → List Pin → Type 0
Shows text ps = text ≡ map letter ps

-- the form of a board line: between the opening and the closing there is a text that shows a row of at most 32 pins
abbrev pub BoardLine : List ℕ → List Pin → Type 0
BoardLine line ps = (text : List ℕ) × Tagged kayles_opening line text × Shows text ps × (length ps ≤ most_pins)

-- what is wrong with a byte c that has i bytes of the text before it: it is the 33rd or a later one, or else no pin
abbrev pub Wrong : ℕ → ℕ → Fault → Type 0
Wrong i c TooManyPins = most_pins ≤ i
Wrong i c NotAPin = (i < most_pins) × ((p : Pin) → c ≢ letter p)
Wrong i c Unclosed = ⊥
Wrong i c BookTooLong = ⊥

-- the first byte of the text with which something is wrong, by its column; `skipped` bytes stand before the text
pub record FirstWrong (text : List ℕ) (skipped : ℕ) (f : Fault) (column : ℕ) : Type 0 where
  pub at : ℕ
  pub within : at < length text
  pub here : Wrong at (slice_index text at) f
  pub before : (k : ℕ) (g : Fault) → k < at → Wrong k (slice_index text k) g → ⊥
  pub place : column ≡ skipped + at + 1

-- the line is opened and has no closing after that
pub record NoClosing (line : List ℕ) (f : Fault) (column : ℕ) : Type 0 where
  pub opened : Opened kayles_opening line
  pub unclosed : (text : List ℕ) → Tagged kayles_opening line text → ⊥
  pub fault : f ≡ Unclosed
  pub place : column ≡ length line

-- the line is opened and closed, and something is wrong with its text
pub record Misprint (line : List ℕ) (f : Fault) (column : ℕ) : Type 0 where
  pub text : List ℕ
  pub tagged : Tagged kayles_opening line text
  pub first : FirstWrong text (length kayles_opening) f column

-- the first fault of a board line
abbrev pub FirstFault : List ℕ → Fault → ℕ → Type 0
FirstFault line f column = NoClosing line f column ⊎ Misprint line f column

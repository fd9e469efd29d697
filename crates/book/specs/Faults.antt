-- The numbers of the faults, and what is printed for a fault and for a refusal.
use Rattle.std.specs.Prelude.{ℕ, List, ◌++◌, codes, decimal}
use Rattle.book.specs.declared.fault.Fault.{Fault}
use Rattle.book.specs.declared.fault.Fault.TheVariants.{Unclosed, NotAPin, TooManyPins, BookTooLong}
use Rattle.book.specs.declared.fault.Refusal.{Refusal}

abbrev pub number : Fault → ℕ
number Unclosed = 2
number NotAPin = 8
number TooManyPins = 9
number BookTooLong = 12

-- a fault by its number
abbrev pub fault_name : Fault → List ℕ
fault_name f = codes "fault " ++ decimal (number f)

-- a refusal by its fault and its column
abbrev pub refusal_text : Refusal → List ℕ
refusal_text e = fault_name e.fault ++ codes " column " ++ decimal e.column

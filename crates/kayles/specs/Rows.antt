-- A row of pins, and the row that a board stands for.
use Rattle.std.specs.Prelude.{◌≡◌, ℕ, zero, suc, ◌+◌, ◌/◌, ◌%◌, if◌then◌else◌, List, [], ◌∷◌, ◌==◌, slice_index_or}
use Rattle.kayles.specs.declared.board.Board.{Board}
use Rattle.kayles.specs.declared.board.Pin.{Pin}
use Rattle.kayles.specs.declared.board.Pin.TheVariants.{Standing, Down}

-- a pin stands where its bit is 1
abbrev pub pin_of : ℕ → Pin
pin_of bit = if bit == 1 then Standing else Down

-- and its bit is 1 where it stands
abbrev pub bit : Pin → ℕ
bit Standing = 1
bit Down = 0

-- the n pins of a mask, the first pin in the lowest bit
unfoldable pub pins : ℕ → ℕ → List Pin
pins zero m = []
pins (suc n) m = pin_of (m % 2) ∷ pins n (m / 2)

-- the row of a board, from the first pin
abbrev pub row : Board → List Pin
row b = pins b.count b.standing

-- how many pins of a row stand
unfoldable pub upright : List Pin → ℕ
upright [] = 0
upright (Standing ∷ ps) = 1 + upright ps
upright (Down ∷ ps) = upright ps

-- pin k, counted from 1; there is no pin 0 and none past the row's end, and there it reads as one that is down
abbrev pub nth_pin : List Pin → ℕ → Pin
nth_pin ps k = slice_index_or (Down ∷ ps) k Down

-- pin k stands
abbrev pub Stands : List Pin → ℕ → Type 0
Stands ps k = nth_pin ps k ≡ Standing

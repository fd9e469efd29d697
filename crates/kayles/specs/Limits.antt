-- The limits of a board.
use Rattle.std.specs.Prelude.{ℕ}

-- the most pins that a board can have
abbrev pub most_pins : ℕ
most_pins = 32

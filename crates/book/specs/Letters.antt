-- The letters of pins.
use Rattle.std.specs.Prelude.{ℕ}
use Rattle.kayles.specs.declared.board.Pin.{Pin}
use Rattle.kayles.specs.declared.board.Pin.TheVariants.{Standing, Down}

-- the byte X for a pin that stands, and a dot for one that is down
abbrev pub letter : Pin → ℕ
letter Standing = 88
letter Down = 46

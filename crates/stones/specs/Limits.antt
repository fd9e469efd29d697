-- Limits.
use Rattle.std.specs.Prelude.{ℕ}

-- A pile has at most this many stones.
abbrev pub most_stones : ℕ
most_stones = 60

-- The runs of a row listed, how many there are of each length, and the word that a set keeps of these numbers.
use Rattle.std.specs.Prelude.{◌≡◌, ℕ, zero, suc, ◌+◌, ◌-◌, ◌*◌, ◌/◌, ◌%◌, if◌then◌else◌, List, [], ◌∷◌, ◌==◌, nat_lt}
use Rattle.kayles.specs.declared.board.Pin.{Pin}
use Rattle.kayles.specs.declared.board.Pin.TheVariants.{Standing, Down}
use Rattle.kayles.specs.declared.runs.Run.{Run}
use Rattle.kayles.specs.declared.runs.Runs.{Runs}
use Rattle.kayles.specs.declared.tally.RunSet.{RunSet}
use Rattle.kayles.specs.Limits.{most_pins}
use Rattle.kayles.specs.Rows.{row}
use Rattle.kayles.specs.Runs.{RunsOf}

-- the n pins before pin i are a run, if there are any, and then come the runs rs
unfoldable pub closed : ℕ → ℕ → List Run → List Run
closed i zero rs = rs
closed i (suc n) rs = record { first = i - suc n; len = suc n } ∷ rs

-- the runs of a row that goes on with pin i, where the n pins before stand
unfoldable pub runs_from : ℕ → ℕ → List Pin → List Run
runs_from i n [] = closed i n []
runs_from i n (Standing ∷ ps) = runs_from (suc i) (suc n) ps
runs_from i n (Down ∷ ps) = closed i n (runs_from (suc i) 0 ps)

-- the list of the runs of a row, from the left
unfoldable pub all_runs : List Pin → List Run
all_runs ps = runs_from 1 0 ps

-- the runs that an iterator still gives
abbrev pub runs_left : Runs → List Run
runs_left s = all_runs (row s.left)

-- how many of the runs have x pins
unfoldable pub how_many : ℕ → List Run → ℕ
how_many x [] = 0
how_many x (r ∷ rs) = (if r.len == x then 1 else 0) + how_many x rs

-- n is how many runs of x pins the row has
abbrev pub HasRuns : List Pin → ℕ → ℕ → Type 0
HasRuns ps x n = (rs : List Run) × RunsOf ps rs × (how_many x rs ≡ n)

-- f 1 times w 0, f 2 times w 1, and so on up to f n, added up
unfoldable pub sum_to : (ℕ → ℕ) → (ℕ → ℕ) → ℕ → ℕ
sum_to w f zero = 0
sum_to w f (suc n) = sum_to w f n + f (suc n) * w n

-- Runs of x pins take x + 1 pins each, but for the last, which may end the row. So 32 pins have at most 33 / (x + 1) of
-- them, and in this radix their number is one digit.
abbrev pub radix : ℕ → ℕ
radix x = (most_pins + 1) / (x + 1) + 1

-- the value of the digit after n digits: for n + 1 pins
unfoldable pub place : ℕ → ℕ
place zero = 1
place (suc n) = place n * radix (suc n)

-- the digits stand above the number of standing pins, which is less than this
abbrev pub room : ℕ
room = 64

-- what a run of n pins adds to the word
abbrev pub unit : ℕ → ℕ
unit zero = 0
unit (suc n) = suc n + room * place n

-- the word of some runs
unfoldable pub word_of : List Run → ℕ
word_of [] = 0
word_of (r ∷ rs) = unit r.len + word_of rs

-- how many runs of x pins the set names; there are none of no pins, and none of more than 32
abbrev pub named : RunSet → ℕ → ℕ
named s zero = 0
named s (suc n) = if nat_lt n most_pins then s.word / (room * place n) % radix (suc n) else 0

-- how many standing pins it names
abbrev pub pins_named : RunSet → ℕ
pins_named s = s.word % room

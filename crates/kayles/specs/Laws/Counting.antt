-- How many runs a row has of each length, and how many pins they have together.
use Rattle.std.specs.Prelude.{◌≡◌, ℕ, zero, suc, ◌+◌, ◌<◌, List, [], ◌∷◌, refl}
use Rattle.std.proofs.Common.{arith}
use Rattle.kayles.specs.declared.board.Pin.{Pin}
use Rattle.kayles.specs.declared.board.Pin.TheVariants.{Standing, Down}
use Rattle.kayles.specs.declared.runs.Run.{Run}
use Rattle.kayles.specs.Rows.{upright}
use Rattle.kayles.specs.Tallies.{all_runs, closed, how_many, runs_from}
use Rattle.kayles.specs.Laws.Splitting.{counted, one, one_off}

-- how many pins the runs have together
unfoldable pub together : List Run → ℕ
together [] = 0
together (r ∷ rs) = r.len + together rs

many_closed : (x i n : ℕ) (rs : List Run) → 0 < x → how_many x (closed i n rs) ≡ one x n + how_many x rs
unfolding how_many closed one
many_closed x i zero rs h = omega (arith, one_off x 0 (omega arith))
many_closed x i (suc n) rs h = refl

pub many_from : (x i n : ℕ) (ps : List Pin) → 0 < x → how_many x (runs_from i n ps) ≡ counted x n ps
unfolding runs_from counted how_many
many_from x i n [] h = omega (arith, many_closed x i n [] h)
many_from x i n (Standing ∷ ps) h = many_from x (suc i) (suc n) ps h
many_from x i n (Down ∷ ps) h = omega (arith, many_closed x i n (runs_from (suc i) 0 ps) h, many_from x (suc i) 0 ps h)

-- how many runs of x pins
pub many_runs : (x : ℕ) (ps : List Pin) → 0 < x → how_many x (all_runs ps) ≡ counted x 0 ps
unfolding all_runs
many_runs x ps h = many_from x 1 0 ps h

together_closed : (i n : ℕ) (rs : List Run) → together (closed i n rs) ≡ n + together rs
unfolding together closed
together_closed i zero rs = omega arith
together_closed i (suc n) rs = refl

together_from : (i n : ℕ) (ps : List Pin) → together (runs_from i n ps) ≡ n + upright ps
unfolding runs_from together upright
together_from i n [] = omega (arith, together_closed i n [])
together_from i n (Standing ∷ ps) = omega (arith, together_from (suc i) (suc n) ps)
together_from i n (Down ∷ ps) = omega (arith, together_closed i n (runs_from (suc i) 0 ps), together_from (suc i) 0 ps)

-- the runs have all the standing pins
pub together_runs : (ps : List Pin) → together (all_runs ps) ≡ upright ps
unfolding all_runs
together_runs ps = omega (arith, together_from 1 0 ps)

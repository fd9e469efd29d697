-- The word of a row's runs, and what can be read off it.
use Rattle.std.specs.Prelude.{◌≡◌, ℕ, zero, suc, ◌+◌, ◌-◌, ◌*◌, ◌/◌, ◌%◌, ◌<◌, ◌≤◌, List, [], ◌∷◌, length, refl}
use Rattle.std.proofs.Common.{sym, ap, ◌∙◌, inl, inr, le-div_iff_mul-le, arith}
use Rattle.std.proofs.Math.Nat.{div-div-eq-div-mul}
use Rattle.std.proofs.lemmas.Bool.{cases_lt}
use Rattle.kayles.specs.declared.board.Pin.{Pin}
use Rattle.kayles.specs.declared.board.Pin.TheVariants.{Standing, Down}
use Rattle.kayles.specs.declared.runs.Run.{Run}
use Rattle.kayles.specs.Limits.{most_pins}
use Rattle.kayles.specs.Rows.{upright}
use Rattle.kayles.specs.Tallies.{all_runs, closed, how_many, place, radix, room, runs_from, sum_to, unit, word_of}
use Rattle.kayles.specs.Laws.Digits.{Small, digit_at, digits, digits_lt, sum_add, sum_ext, sum_one, sum_zero}
use Rattle.kayles.specs.Laws.Splitting.{Same, counted, counted_long, counted_room, one, upright_le}
use Rattle.kayles.specs.Laws.Counting.{many_runs, together, together_runs}

-- the runs have from 1 to n pins
abbrev Lens : ℕ → List Run → Type 0
Lens n [] = Unit {0}
Lens n (r ∷ rs) = (0 < r.len) × (r.len ≤ n) × Lens n rs

lens_closed : (n i k : ℕ) (rs : List Run) → k ≤ n → Lens n rs → Lens n (closed i k rs)
unfolding closed
lens_closed n i zero rs h l = l
lens_closed n i (suc k) rs h l = (omega arith, h, l)

lens_from : (n i k : ℕ) (ps : List Pin) → k + length ps ≤ n → Lens n (runs_from i k ps)
unfolding runs_from
lens_from n i k [] h = lens_closed n i k [] (omega arith) tt
lens_from n i k (Standing ∷ ps) h = lens_from n (suc i) (suc k) ps (omega arith)
lens_from n i k (Down ∷ ps) h = lens_closed n i k (runs_from (suc i) 0 ps) (omega arith) (lens_from n (suc i) 0 ps (omega arith))

-- a run more counts once more for its length
single : (w : ℕ → ℕ) (n : ℕ) (r : Run) (rs : List Run) → 0 < r.len → r.len ≤ n → sum_to w (λ x. how_many x (r ∷ rs)) n ≡ w (r.len - 1) + sum_to w (λ x. how_many x rs) n
unfolding how_many one
single w n r rs a b = sum_add w (λ x. one x r.len) (λ x. how_many x rs) n ∙ ap (λ k. k + sum_to w (λ x. how_many x rs) n) (sum_one w r.len n a b)

no_runs : (w : ℕ → ℕ) (n : ℕ) → sum_to w (λ x. how_many x []) n ≡ 0
unfolding how_many
no_runs w n = sum_zero w n

pub unit_is : (x : ℕ) → 0 < x → unit x ≡ x + room * place (x - 1)
unit_is zero h = absurd (omega arith)
unit_is (suc n) h = grind arith

word_split : (n : ℕ) (rs : List Run) → Lens n rs → word_of rs ≡ together rs + room * digits (λ x. how_many x rs) n
unfolding word_of together
word_split n [] l = omega (arith, no_runs place n)
word_split n (r ∷ rs) l = omega (arith, word_split n rs l.2, single place n r rs l.0 l.1, unit_is r.len l.0)

together_split : (n : ℕ) (rs : List Run) → Lens n rs → together rs ≡ sum_to suc (λ x. how_many x rs) n
unfolding together
together_split n [] l = sym (no_runs suc n)
together_split n (r ∷ rs) l = omega (arith, together_split n rs l.2, single suc n r rs l.0 l.1, l.0)

-- the numbers of runs of a row of at most 32 pins are digits
pub small : (ps : List Pin) → length ps ≤ most_pins → Small (λ x. counted x 0 ps)
small ps h x l =
    let most : counted x 0 ps ≤ (most_pins + 1) / (x + 1) = (le-div_iff_mul-le {k = x + 1} {x = counted x 0 ps} {y = most_pins + 1} (omega arith)).1 (omega (arith, counted_room x 0 ps)) in
    omega arith

-- the word of a row
abbrev pub word : List Pin → ℕ
word ps = word_of (all_runs ps)

pub word_is : (ps : List Pin) → length ps ≤ most_pins → word ps ≡ upright ps + room * digits (λ x. counted x 0 ps) most_pins
unfolding all_runs
word_is ps h =
    word_split most_pins (runs_from 1 0 ps) (lens_from most_pins 1 0 ps (omega arith))
    ∙ omega (arith, together_runs ps, sum_ext place (λ x. how_many x (runs_from 1 0 ps)) (λ x. counted x 0 ps) most_pins (λ x a b. many_runs x ps a))

-- the standing pins are those of the runs
pub pins_are : (ps : List Pin) → length ps ≤ most_pins → upright ps ≡ sum_to suc (λ x. counted x 0 ps) most_pins
unfolding all_runs
pins_are ps h =
    sym (together_runs ps) ∙ together_split most_pins (runs_from 1 0 ps) (lens_from most_pins 1 0 ps (omega arith))
    ∙ sum_ext suc (λ x. how_many x (runs_from 1 0 ps)) (λ x. counted x 0 ps) most_pins (λ x a b. many_runs x ps a)

pins_few : (ps : List Pin) → length ps ≤ most_pins → upright ps < room
pins_few ps h = omega (arith, upright_le ps)

-- the standing pins are read off it
pub word_pins : (ps : List Pin) → length ps ≤ most_pins → word ps % room ≡ upright ps
word_pins ps h = omega (arith, word_is ps h, pins_few ps h)

-- and the number of runs of each length
pub word_runs : (ps : List Pin) → length ps ≤ most_pins → (j : ℕ) → j < most_pins → word ps / (room * place j) % radix (suc j) ≡ counted (suc j) 0 ps
word_runs ps h j l = grind (arith, div-div-eq-div-mul (word ps) room (place j), word_is ps h, pins_few ps h, digit_at (λ x. counted x 0 ps) j most_pins (small ps h) l)

place_top : place most_pins ≡ 3929688716083200
unfolding place
place_top = refl

-- it fits 64 bits, and no sum on the way to it is greater
pub word_low : (ps : List Pin) → length ps ≤ most_pins → word ps < 18446744073709551616
word_low ps h = omega (arith, word_is ps h, pins_few ps h, digits_lt (λ x. counted x 0 ps) most_pins (small ps h), place_top)

-- rows with one word have as many runs of each length, and the other way round
pub same_word : (ps qs : List Pin) → length ps ≤ most_pins → length qs ≤ most_pins → word ps ≡ word qs → Same ps qs
same_word ps qs a b e zero h = absurd (omega arith)
same_word ps qs a b e (suc j) h =
    elim (cases_lt j most_pins) [
      | inl l ↦ sym (word_runs ps a j l) ∙ ap (λ w. w / (room * place j) % radix (suc j)) e ∙ word_runs qs b j l
      | inr l ↦ counted_long (suc j) 0 ps (omega arith) ∙ sym (counted_long (suc j) 0 qs (omega arith))
    ]

pub word_same : (ps qs : List Pin) → length ps ≤ most_pins → length qs ≤ most_pins → Same ps qs → word ps ≡ word qs
word_same ps qs a b s =
    omega (arith, word_is ps a, word_is qs b, pins_are ps a, pins_are qs b, sum_ext place (λ x. counted x 0 ps) (λ x. counted x 0 qs) most_pins (λ x h l. s x h), sum_ext suc (λ x. counted x 0 ps) (λ x. counted x 0 qs) most_pins (λ x h l. s x h))

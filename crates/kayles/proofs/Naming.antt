-- What the set of a position names, and who belongs to it.
use Rattle.std.proofs.Common.{◌≡◌, ℕ, zero, suc, ◌-◌, ◌<◌, List, [], ◌∷◌, sym, refl, ap, ◌∙◌, subst, inl, inr, arith}
use Rattle.std.proofs.lemmas.Bool.Decides.{nat_tests}
use Rattle.std.proofs.lemmas.Bool.{cases_lt}
use Rattle.kayles.specs.declared.board.Pin.{Pin}
use Rattle.kayles.specs.declared.board.Pin.TheVariants.{Standing, Down}
use Rattle.kayles.specs.declared.position.Position.{Position}
use Rattle.kayles.specs.declared.runs.Run.{Run}
use Rattle.kayles.specs.Boards.{row_few}
use Rattle.kayles.specs.Kayles.{AsManyRuns, Describes, kayles_sets, pins_of, set_of}
use Rattle.kayles.specs.Limits.{most_pins}
use Rattle.kayles.specs.Tallies.{HasRuns, all_runs, closed, how_many, named, runs_from, unit}
use Rattle.kayles.specs.Laws.Digits.{place_pos, sum_ext}
use Rattle.kayles.specs.Laws.{has_key, own, runs_set, set_runs}
use Rattle.kayles.proofs.Sorting.{same_runs}
use Rattle.kayles.specs.Laws.Splitting.{Same, counted, counted_long}
use Rattle.kayles.specs.Laws.Counting.{many_runs}
use Rattle.kayles.proofs.Tallying.{runs_listed}
use Rattle.kayles.specs.Laws.Words.{pins_are, unit_is, word_pins, word_runs}
use Rattle.search.specs.Sets.{In}

-- no run has no pins
none_closed : (i n : ℕ) (rs : List Run) → how_many 0 rs ≡ 0 → how_many 0 (closed i n rs) ≡ 0
unfolding closed how_many
none_closed i zero rs h = h
none_closed i (suc n) rs h = grind (arith, nat_tests)

none_from : (i n : ℕ) (ps : List Pin) → how_many 0 (runs_from i n ps) ≡ 0
unfolding runs_from how_many
none_from i n [] = none_closed i n [] refl
none_from i n (Standing ∷ ps) = none_from (suc i) (suc n) ps
none_from i n (Down ∷ ps) = none_closed i n (runs_from (suc i) 0 ps) (none_from (suc i) 0 ps)

none : (ps : List Pin) → how_many 0 (all_runs ps) ≡ 0
unfolding all_runs
none ps = none_from 1 0 ps

-- the digit for each length
pub named_runs : (p : Position) (x : ℕ) → named (set_of p) x ≡ how_many x (all_runs (pins_of p))
named_runs p zero = sym (none (pins_of p))
named_runs p (suc n) =
    elim (cases_lt n most_pins) [
      | inl h ↦ grind (arith, nat_tests, word_runs (pins_of p) (row_few p.board) n h, many_runs (suc n) (pins_of p))
      | inr h ↦ grind (arith, nat_tests, counted_long (suc n) 0 (pins_of p), row_few p.board, many_runs (suc n) (pins_of p))
    ]

-- a row has one number of runs of each length
pub has_many : (ps : List Pin) (x n : ℕ) → HasRuns ps x n → how_many x (all_runs ps) ≡ n
has_many ps x n h = ap (how_many x) (same_runs ps (all_runs ps) h.0 (runs_listed ps) h.1) ∙ h.2

many_has : (ps : List Pin) (x n : ℕ) → how_many x (all_runs ps) ≡ n → HasRuns ps x n
many_has ps x n e = (all_runs ps, runs_listed ps, e)

same_as_many : (ps qs : List Pin) → Same ps qs → AsManyRuns ps qs
same_as_many ps qs s zero n h = many_has qs 0 n (none qs ∙ sym (none ps) ∙ has_many ps 0 n h)
same_as_many ps qs s (suc x) n h = many_has qs (suc x) n (grind (arith, many_runs (suc x) qs, many_runs (suc x) ps, s (suc x), has_many ps (suc x) n h))

as_many_same : (ps qs : List Pin) → AsManyRuns ps qs → Same ps qs
as_many_same ps qs a x h = sym (many_runs x ps h) ∙ sym (has_many qs x _ (a x _ (many_has ps x _ refl))) ∙ many_runs x qs h

pub described : (p : Position) → Describes p (set_of p)
described p = record {
  side = refl;
  runs = λ x. many_has (pins_of p) x (named (set_of p) x) (sym (named_runs p x));
  members = λ q. (
    λ i. let e = has_key (set_of p) q i in (sym (ap (λ s. s.counting) e), same_as_many (pins_of p) (pins_of q) (set_runs p q e)),
    λ a. subst (λ s. In kayles_sets s q) (sym (runs_set p q (as_many_same (pins_of p) (pins_of q) a.1) (sym a.0))) (own q),
  );
  weight = word_pins (pins_of p) (row_few p.board);
  weighed = word_pins (pins_of p) (row_few p.board) ∙ pins_are (pins_of p) (row_few p.board) ∙ sym (sum_ext suc (named (set_of p)) (λ x. counted x 0 (pins_of p)) most_pins (λ x a b. named_runs p x ∙ many_runs x (pins_of p) a));
}

-- ---- reading a digit

pub unit_above : (n : ℕ) → 0 < n → 0 < unit n - n
unit_above n h = omega (arith, unit_is n h, place_pos (n - 1))

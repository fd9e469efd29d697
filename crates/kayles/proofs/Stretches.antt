-- Which pins stand, and where a run can be.
use Rattle.std.specs.Prelude.{◌≡◌, ℕ, zero, suc, ◌+◌, ◌-◌, ◌/◌, ◌^◌, ◌<◌, ◌≤◌, true, cond, ◌⊎◌, List, ◌∷◌, length, ◌==◌, bit_and, slice_index_or}
use Rattle.std.proofs.Common.{sym, ap, ◌∙◌, inl, inr, arith}
use Rattle.std.proofs.lemmas.Nat.{and_mask}
use Rattle.std.proofs.lemmas.List.{get_or_past}
use Rattle.std.proofs.lemmas.Bool.{cases_lt}
use Rattle.kayles.specs.declared.board.Pin.{Pin}
use Rattle.kayles.specs.declared.board.Pin.TheVariants.{Standing, Down}
use Rattle.kayles.specs.declared.runs.Run.{Run}
use Rattle.kayles.specs.Rows.{Stands, pins}
use Rattle.kayles.specs.Runs.{IsRun}
use Rattle.kayles.proofs.Masks.{pin_at, up_pin, pin_up, down_up}

pub no_pin_0 : (ps : List Pin) → Stands ps 0 → ⊥
no_pin_0 ps e = down_up e

pub none_past : (ps : List Pin) (k : ℕ) → length ps < k → Stands ps k → ⊥
none_past ps k h e = down_up (sym (get_or_past (Down ∷ ps) k Down (omega arith)) ∙ e)

-- the bit that is tested for pin k
tested : (n m k : ℕ) → 0 < k → k ≤ n → slice_index_or (Down ∷ pins n m) k Down ≡ cond (bit_and (m / 2 ^ (k - 1)) 1 == 1) Standing Down
tested n m zero h l = absurd (omega arith)
tested n m (suc i) h l =
    pin_at n m i (omega arith) ∙ ap (λ b. cond (b == 1) Standing Down) (sym (and_mask (m / 2 ^ i) 1)) ∙ ap (λ j. cond (bit_and (m / 2 ^ j) 1 == 1) Standing Down) (let e : i ≡ suc i - 1 = omega arith in e)

pub bit_stands : (n m k : ℕ) → 0 < k → k ≤ n → (bit_and (m / 2 ^ (k - 1)) 1 == 1) ≡ true → Stands (pins n m) k
bit_stands n m k h l e = tested n m k h l ∙ up_pin _ e

pub stands_bit : (n m k : ℕ) → 0 < k → k ≤ n → Stands (pins n m) k → (bit_and (m / 2 ^ (k - 1)) 1 == 1) ≡ true
stands_bit n m k h l s = pin_up _ (sym (tested n m k h l) ∙ s)

-- a run begins at pin 1 or later
pub run_begins : (ps : List Pin) (r : Run) → IsRun ps r → 1 ≤ r.first
run_begins ps r t = go (cases_lt 0 r.first)
  where
    go : (0 < r.first) ⊎ (r.first ≤ 0) → 1 ≤ r.first
    go (inl h) = h
    go (inr h) = absurd (no_pin_0 ps (t.stand 0 h (omega (arith, t.some))))

-- a run lies within the row
pub run_fits : (ps : List Pin) (r : Run) → IsRun ps r → r.first + r.len ≤ length ps + 1
run_fits ps r t = go (cases_lt (length ps + 1) (r.first + r.len))
  where
    go : (length ps + 1 < r.first + r.len) ⊎ (r.first + r.len ≤ length ps + 1) → r.first + r.len ≤ length ps + 1
    go (inl h) = absurd (none_past ps (r.first + r.len - 1) (omega arith) (t.stand (r.first + r.len - 1) (omega (arith, t.some)) (omega (arith, t.some))))
    go (inr h) = h

-- two runs that share a pin are the same
pub same_run : (ps : List Pin) (r q : Run) → IsRun ps r → IsRun ps q → r.first < q.first + q.len → q.first < r.first + r.len → r ≡ q
same_run ps r q t u a b = λ i. record { first = first i; len = len i }
  where
    first_at : (r.first < q.first) ⊎ (q.first ≤ r.first) → (q.first < r.first) ⊎ (r.first ≤ q.first) → r.first ≡ q.first
    first_at (inl h) k = absurd (u.before (t.stand (q.first - 1) (omega arith) (omega arith)))
    first_at (inr h) (inl k) = absurd (t.before (u.stand (r.first - 1) (omega arith) (omega arith)))
    first_at (inr h) (inr k) = omega arith

    first : r.first ≡ q.first
    first = first_at (cases_lt r.first q.first) (cases_lt q.first r.first)

    len_at : (r.len < q.len) ⊎ (q.len ≤ r.len) → (q.len < r.len) ⊎ (r.len ≤ q.len) → r.len ≡ q.len
    len_at (inl h) k = absurd (t.after (u.stand (r.first + r.len) (omega (arith, first)) (omega (arith, first))))
    len_at (inr h) (inl k) = absurd (u.after (t.stand (q.first + q.len) (omega (arith, first)) (omega (arith, first))))
    len_at (inr h) (inr k) = omega arith

    len : r.len ≡ q.len
    len = len_at (cases_lt r.len q.len) (cases_lt q.len r.len)

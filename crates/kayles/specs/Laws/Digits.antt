-- Numbers written in mixed radices: a digit for the runs of each length.
use Rattle.std.specs.Prelude.{◌≡◌, ℕ, zero, suc, ◌+◌, ◌-◌, ◌*◌, ◌/◌, ◌%◌, ◌<◌, ◌≤◌}
use Rattle.std.proofs.Math.Path.{refl, ap, ap₂}
use Rattle.std.proofs.Common.{sym, ◌∙◌, subst, inl, inr, mod-eq_of_lt, mul_assoc, mul-le-mul_right, mul-one, mul-pos, arith}
use Rattle.std.proofs.Math.Nat.{add-mul-div_left, add-mul-mod_self_left}
use Rattle.std.proofs.Math.Arith.{digits_div}
use Rattle.std.proofs.lemmas.Bool.{cases_lt}
use Rattle.kayles.specs.Tallies.{place, radix, sum_to}
use Rattle.kayles.specs.Laws.Splitting.{one, one_off, one_self}

-- the number with the digits f 1, f 2, .. f n, the lowest first
abbrev pub digits : (ℕ → ℕ) → ℕ → ℕ
digits f n = sum_to place f n

pub place_pos : (n : ℕ) → 0 < place n
unfolding place
place_pos zero = omega arith
place_pos (suc n) = mul-pos (place_pos n) (omega arith)

-- a lower place divides a higher one
place_split : (j n : ℕ) → j ≤ n → (c : ℕ) × (place n ≡ place j * c)
unfolding place
place_split j zero h = (1, grind arith)
place_split j (suc n) h =
    elim (cases_lt j (suc n)) [
      | inl l ↦ let s = place_split j n (omega arith) in (s.0 * radix (suc n), rw s.1 (mul_assoc (place j) s.0 (radix (suc n))))
      | inr l ↦ (1, ap place (let e : suc n ≡ j = omega arith in e) ∙ sym (mul-one (place j)))
    ]

-- each of them is a digit
abbrev pub Small : (ℕ → ℕ) → Type 0
Small f = (x : ℕ) → 0 < x → f x < radix x

pub digits_lt : (f : ℕ → ℕ) (n : ℕ) → Small f → digits f n < place n
unfolding sum_to place
digits_lt f zero s = omega arith
digits_lt f (suc n) s = grind (arith, digits_lt f n s, mul-le-mul_right {m = f (suc n) + 1} {n = radix (suc n)} (place n) (omega (arith, s (suc n) (omega arith))))

regroup : (f n a r c : ℕ) → n ≡ a * r * c → f * n ≡ a * (r * (c * f))
regroup f n a r c e = rw e (grind arith)

-- the digit at each place
pub digit_at : (f : ℕ → ℕ) (j n : ℕ) → Small f → j < n → digits f n / place j % radix (suc j) ≡ f (suc j)
unfolding sum_to place
digit_at f j zero s h = absurd (omega arith)
digit_at f j (suc n) s h =
    elim (cases_lt j n) [
      | inl l ↦
          let d = place_split (suc j) n (omega arith) in
          ap (λ k. (digits f n + k) / place j % radix (suc j)) (regroup (f (suc n)) (place n) (place j) (radix (suc j)) d.0 d.1)
          ∙ ap (λ k. k % radix (suc j)) (add-mul-div_left (digits f n) (radix (suc j) * (d.0 * f (suc n))) (place_pos j))
          ∙ add-mul-mod_self_left (digits f n / place j) (radix (suc j)) (d.0 * f (suc n))
          ∙ digit_at f j n s l
      | inr l ↦ subst (λ k. digits f (suc n) / place k % radix (suc k) ≡ f (suc k)) (omega arith) highest
    ]
  where
    highest : digits f (suc n) / place n % radix (suc n) ≡ f (suc n)
    highest = grind (arith, digits_div (f (suc n)) (digits_lt f n s), mod-eq_of_lt (s (suc n) (omega arith)))

-- ---- sums over the lengths, whatever each counts for

module _ (w : ℕ → ℕ) where
  pub sum_ext : (f g : ℕ → ℕ) (n : ℕ) → ((x : ℕ) → 0 < x → x ≤ n → f x ≡ g x) → sum_to w f n ≡ sum_to w g n
  unfolding sum_to
  sum_ext f g zero h = refl
  sum_ext f g (suc n) h = ap₂ ◌+◌ (sum_ext f g n (λ x a b. h x a (omega arith))) (ap (λ k. k * w n) (h (suc n) (omega arith) (omega arith)))

  pub sum_add : (f g : ℕ → ℕ) (n : ℕ) → sum_to w (λ x. f x + g x) n ≡ sum_to w f n + sum_to w g n
  unfolding sum_to
  sum_add f g zero = refl
  sum_add f g (suc n) = grind (arith, sum_add f g n)

  pub sum_zero : (n : ℕ) → sum_to w (λ x. 0) n ≡ 0
  unfolding sum_to
  sum_zero zero = refl
  sum_zero (suc n) = omega (arith, sum_zero n)

  -- a single run
  sum_none : (l n : ℕ) → n < l → sum_to w (λ x. one x l) n ≡ 0
  unfolding sum_to
  sum_none l zero h = refl
  sum_none l (suc n) h = grind (arith, sum_none l n, one_off (suc n) l)

  pub sum_one : (l n : ℕ) → 0 < l → l ≤ n → sum_to w (λ x. one x l) n ≡ w (l - 1)
  unfolding sum_to
  sum_one l zero a b = absurd (omega arith)
  sum_one l (suc n) a b = grind (arith, sum_one l n, sum_none l n, one_off (suc n) l, one_self (suc n))

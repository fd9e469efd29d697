-- A turn over the pins of a mask: it passes over pins that are down, and then over one run.
use Rattle.std.specs.Prelude.{◌≡◌, ℕ, zero, suc, ◌+◌, ◌-◌, ◌*◌, ◌/◌, ◌%◌, ◌^◌, ◌<◌, ◌≤◌, ◌⊎◌, bit_and, bit_or, max, min, List, [], ◌∷◌, ◌++◌, replicate, refl}
use Rattle.std.proofs.Common.{sym, ap, ap₂, ◌∙◌, inl, inr, add-zero, mul_assoc, arith, pow_pos, shr-shr}
use Rattle.std.proofs.lemmas.Nat.{div-mul-add, pow-add, shr_le}
use Rattle.std.specs.Int.{bit_at, trailing_ones, trailing_zeros, w64}
use Rattle.std.proofs.lemmas.Bool.{cases_lt}
use Rattle.std.proofs.lemmas.Nat.Bits.{bit_at_lowest, bit_at-suc, bit_at-trailing_ones, bit_at-trailing_zeros, bit_at_above, bit_at_and, bit_at_or, bit_at_ones, bit_at-zero, bit_at_cat_low, bit_at_cat_high, same_from_bits}
use Rattle.kayles.specs.declared.board.Board.{Board}
use Rattle.kayles.specs.declared.board.Pin.{Pin}
use Rattle.kayles.specs.declared.board.Pin.TheVariants.{Standing, Down}
use Rattle.kayles.specs.declared.runs.Run.{Run}
use Rattle.kayles.specs.Rows.{pin_of, pins, row}
use Rattle.kayles.specs.Tallies.{all_runs, closed, runs_from}
use Rattle.kayles.proofs.Masks.{low_mask}

-- the first n pins of a mask, and then the others
pins_append : (n k m : ℕ) → pins (n + k) m ≡ pins n m ++ pins k (m / 2 ^ n)
unfolding pins
pins_append zero k m = ap₂ pins (let e : zero + k ≡ k = omega arith in e) (let e : m ≡ m / 2 ^ 0 = omega arith in e)
pins_append (suc n) k m =
    ap (λ j. pins j m) (let e : suc n + k ≡ suc (n + k) = omega arith in e)
    ∙ ap (λ ps. pin_of (m % 2) ∷ ps) (pins_append n k (m / 2) ∙ ap (λ j. pins n (m / 2) ++ pins k j) (shr-shr m 1 n ∙ ap (λ j. m / 2 ^ j) (let e : 1 + n ≡ suc n = omega arith in e)))

-- pins whose bits are all the same
pins_same : (b n m : ℕ) → ((i : ℕ) → i < n → bit_at m i ≡ b) → pins n m ≡ replicate n (pin_of b)
unfolding pins
pins_same b zero m h = refl
pins_same b (suc n) m h =
    ap₂ (λ x ps. pin_of x ∷ ps) (sym (bit_at_lowest m) ∙ h 0 (omega arith)) (pins_same b n (m / 2) (λ i l. sym (bit_at-suc m i) ∙ h (suc i) (omega arith)))

-- pins that are down are passed over
runs_past_down : (i n : ℕ) (ps : List Pin) → runs_from i 0 (replicate n Down ++ ps) ≡ runs_from (i + n) 0 ps
unfolding runs_from closed
runs_past_down i zero ps = ap (λ k. runs_from k 0 ps) (let e : i ≡ i + 0 = omega arith in e)
runs_past_down i (suc n) ps = runs_past_down (suc i) n ps ∙ ap (λ k. runs_from k 0 ps) (let e : suc i + n ≡ i + suc n = omega arith in e)

-- pins that stand make the run longer
runs_past_up : (i n u : ℕ) (ps : List Pin) → runs_from i n (replicate u Standing ++ ps) ≡ runs_from (i + u) (n + u) ps
unfolding runs_from
runs_past_up i n zero ps = ap₂ (λ k l. runs_from k l ps) (let e : i ≡ i + 0 = omega arith in e) (let e : n ≡ n + 0 = omega arith in e)
runs_past_up i n (suc u) ps =
    runs_past_up (suc i) (suc n) u ps ∙ ap₂ (λ k l. runs_from k l ps) (let e : suc i + u ≡ i + suc u = omega arith in e) (let e : suc n + u ≡ n + suc u = omega arith in e)

-- where no pin more stands, the run is over
run_over : (i n k m : ℕ) → m % 2 ≡ 0 → runs_from i n (pins k m) ≡ closed i n (runs_from i 0 (pins k m))
unfolding runs_from pins closed
run_over i n zero m e = refl
run_over i n (suc k) m e = ap (λ b. runs_from i n (pin_of b ∷ pins k (m / 2))) e ∙ ap (λ b. closed i n (runs_from i 0 (pin_of b ∷ pins k (m / 2)))) (sym e)

closed_some : (i n : ℕ) (rs : List Run) → 0 < n → closed i n rs ≡ record { first = i - n; len = n } ∷ rs
unfolding closed
closed_some i zero rs h = absurd (omega arith)
closed_some i (suc n) rs h = refl

-- ---- what the lowest bits of a number say

bit_at-shr : (m n i : ℕ) → bit_at (m / 2 ^ n) i ≡ bit_at m (n + i)
bit_at-shr m n i = ap (λ k. k % 2) (shr-shr m n i)

bit_at_later : (m n i : ℕ) → n ≤ i → bit_at m i ≡ bit_at (m / 2 ^ n) (i - n)
bit_at_later m n i h = ap (bit_at m) (let e : i ≡ n + (i - n) = omega arith in e) ∙ sym (bit_at-shr m n (i - n))

-- a number whose n lowest bits are those of r
split_low : (n r m : ℕ) → r < 2 ^ n → ((i : ℕ) → i < n → bit_at m i ≡ bit_at r i) → m ≡ m / 2 ^ n * 2 ^ n + r
split_low n r m h low = same_from_bits m (m / 2 ^ n * 2 ^ n + r) (λ i. at i (cases_lt i n))
  where
    at : (i : ℕ) → (i < n) ⊎ (n ≤ i) → bit_at m i ≡ bit_at (m / 2 ^ n * 2 ^ n + r) i
    at i (inl l) = low i l ∙ sym (bit_at_cat_low (m / 2 ^ n) n r i l)
    at i (inr l) = bit_at_later m n i l ∙ sym (bit_at_cat_high (m / 2 ^ n) n r i h l)

-- the place of the lowest 1
lowest_is : (m e : ℕ) → m < 2 ^ 64 → bit_at m e ≡ 1 → ((i : ℕ) → i < e → bit_at m i ≡ 0) → trailing_zeros w64 m ≡ e
lowest_is m e h one low = go (cases_lt t e) (cases_lt e t)
  where
    t : ℕ
    t = trailing_zeros w64 m

    some : m ≡ 0 → ⊥
    some z = absurd (omega (arith, ap (λ k. bit_at k e) z, bit_at-zero e))

    go : (t < e) ⊎ (e ≤ t) → (e < t) ⊎ (t ≤ e) → t ≡ e
    go (inl a) b = absurd (omega (arith, low t a, (bit_at-trailing_zeros w64 m (omega arith) h).1))
    go (inr a) (inl b) = absurd (omega (arith, (bit_at-trailing_zeros w64 m (omega arith) h).2 e b))
    go (inr a) (inr b) = omega arith

-- an even number has none of its bits changed by one more, but for the lowest
even_and : (r i : ℕ) → r % 2 ≡ 0 → min (bit_at r i) (bit_at (r + 1) i) ≡ bit_at r i
even_and r zero e = omega (arith, bit_at_lowest r)
even_and r (suc i) e = omega (arith, bit_at-suc r i, bit_at-suc (r + 1) i, ap (λ k. bit_at k i) (let h : (r + 1) / 2 ≡ r / 2 = omega arith in h))

-- an odd number and one less have the bits of the odd number
odd_or : (m i : ℕ) → m % 2 ≡ 1 → max (bit_at m i) (bit_at (m - 1) i) ≡ bit_at m i
odd_or m zero e = omega (arith, bit_at_lowest m, bit_at_lowest (m - 1))
odd_or m (suc i) e = omega (arith, bit_at-suc m i, bit_at-suc (m - 1) i, ap (λ k. bit_at k i) (let h : (m - 1) / 2 ≡ m / 2 = omega arith in h))

-- ---- what a turn takes off a board: of its pins z are down, and the u after them stand
module _ (b : Board) (some : b.standing ≡ 0 → ⊥) where
  abbrev z : ℕ
  z = trailing_zeros w64 b.standing

  abbrev up : ℕ
  up = b.standing / 2 ^ z

  abbrev u : ℕ
  u = trailing_ones w64 up

  low : b.standing < 2 ^ 32
  low = low_mask b

  downs : (z < 64) × (bit_at b.standing z ≡ 1) × ((i : ℕ) → i < z → bit_at b.standing i ≡ 0)
  downs = bit_at-trailing_zeros w64 b.standing (omega arith) (omega (arith, low))

  ups : (u < 64) × (bit_at up u ≡ 0) × ((i : ℕ) → i < u → bit_at up i ≡ 1)
  ups = bit_at-trailing_ones w64 up (omega (arith, low, shr_le b.standing z))

  run_some : 0 < u
  run_some = go (cases_lt 0 u)
    where
      go : (0 < u) ⊎ (u ≤ 0) → 0 < u
      go (inl h) = h
      go (inr h) = absurd (let e : bit_at b.standing z ≡ 0 = ap (bit_at b.standing) (let f : z ≡ z + u = omega arith in f) ∙ sym (bit_at-shr b.standing z u) ∙ ups.1 in omega (arith, downs.1))

  run_within : z + u ≤ b.count
  run_within = go (cases_lt b.count (z + u)) (cases_lt z b.count)
    where
      go : (b.count < z + u) ⊎ (z + u ≤ b.count) → (z < b.count) ⊎ (b.count ≤ z) → z + u ≤ b.count
      go (inr h) d = h
      go (inl h) (inr l) = absurd (omega (arith, downs.1, bit_at_above b.standing b.count z b.within l))
      go (inl h) (inl l) =
          let i = b.count - z in
          absurd (omega (arith, ups.2 i (omega arith), bit_at-shr b.standing z i, bit_at_above b.standing b.count (z + i) b.within (omega arith)))

  abbrev rest : ℕ
  rest = b.standing / 2 ^ (z + u)

  rest_even : rest % 2 ≡ 0
  rest_even = sym (bit_at-shr b.standing z u) ∙ ups.1

  pins_are : b.standing ≡ up * 2 ^ z + 0
  pins_are = split_low z 0 b.standing (pow_pos z) (λ i l. downs.2 i l ∙ sym (bit_at-zero i))

  whole : 2 ^ z ≤ b.standing
  whole = omega (arith, pins_are, downs.1, ap (λ k. k * 2 ^ z) (let e : up ≡ up - 1 + 1 = omega (arith, downs.1) in e))

  abbrev filled : ℕ
  filled = bit_or b.standing (b.standing - 1)

  filled_is : filled ≡ up * 2 ^ z + (2 ^ z - 1)
  filled_is = same_from_bits filled (up * 2 ^ z + (2 ^ z - 1)) (λ i. bit_at_or b.standing (b.standing - 1) i ∙ at i (cases_lt i z))
    where
      less : b.standing - 1 ≡ (up - 1) * 2 ^ z + (2 ^ z - 1)
      less = omega (arith, pins_are, pow_pos z, downs.1, ap (λ k. k * 2 ^ z) (let e : up ≡ up - 1 + 1 = omega (arith, downs.1) in e))

      at : (i : ℕ) → (i < z) ⊎ (z ≤ i) → max (bit_at b.standing i) (bit_at (b.standing - 1) i) ≡ bit_at (up * 2 ^ z + (2 ^ z - 1)) i
      at i (inl l) =
          omega (arith, downs.2 i l, ap (λ k. bit_at k i) less, bit_at_cat_low (up - 1) z (2 ^ z - 1) i l, bit_at_cat_low up z (2 ^ z - 1) i l)
      at i (inr l) =
          ap₂ max (bit_at_later b.standing z i l) (ap (λ k. bit_at k i) less ∙ bit_at_cat_high (up - 1) z (2 ^ z - 1) i (omega (arith, pow_pos z)) l)
          ∙ odd_or up (i - z) downs.1
          ∙ sym (bit_at_cat_high up z (2 ^ z - 1) i (omega (arith, pow_pos z)) l)

  abbrev carried : ℕ
  carried = filled + 1

  carried_sum : carried ≡ b.standing + 2 ^ z
  carried_sum = omega (arith, filled_is, pins_are, pow_pos z)

  -- there is room for it
  carried_fits : carried < 2 ^ 64
  carried_fits = omega (arith, carried_sum, low, whole)

  carried_is : carried ≡ (rest + 1) * 2 ^ (z + u) + 0
  carried_is =
      let run_is : up ≡ up / 2 ^ u * 2 ^ u + (2 ^ u - 1) = split_low u (2 ^ u - 1) up (omega (arith, pow_pos u)) (λ i l. ups.2 i l ∙ sym (bit_at_ones u i l)) in
      let more : up + 1 ≡ (rest + 1) * 2 ^ u = omega (arith, run_is, pow_pos u, ap (λ k. k * 2 ^ u) (shr-shr b.standing z u)) in
      let first : carried ≡ (up + 1) * 2 ^ z = omega (arith, pins_are, carried_sum) in
      first ∙ ap (λ k. k * 2 ^ z) more ∙ mul_assoc (rest + 1) (2 ^ u) (2 ^ z) ∙ ap (λ k. (rest + 1) * k) (sym (pow-add 2 u z))
      ∙ ap (λ k. (rest + 1) * 2 ^ k) (let e : u + z ≡ z + u = omega arith in e) ∙ sym (add-zero ((rest + 1) * 2 ^ (z + u)))

  run_bits : (i : ℕ) → i < z + u → bit_at carried i ≡ 0
  run_bits i l = ap (λ k. bit_at k i) carried_is ∙ bit_at_cat_low (rest + 1) (z + u) 0 i l ∙ bit_at-zero i

  rest_bits : (i : ℕ) → z + u ≤ i → bit_at carried i ≡ bit_at (rest + 1) (i - (z + u))
  rest_bits i l = ap (λ k. bit_at k i) carried_is ∙ bit_at_cat_high (rest + 1) (z + u) 0 i (pow_pos (z + u)) l

  end_is : trailing_zeros w64 carried ≡ z + u
  end_is = lowest_is carried (z + u) carried_fits (rest_bits (z + u) (omega arith) ∙ one) run_bits
    where
      one : bit_at (rest + 1) (z + u - (z + u)) ≡ 1
      one = ap (bit_at (rest + 1)) (let e : z + u - (z + u) ≡ 0 = omega arith in e) ∙ bit_at_lowest (rest + 1) ∙ omega (arith, rest_even)

  abbrev left : ℕ
  left = bit_and b.standing carried

  left_is : left ≡ rest * 2 ^ (z + u) + 0
  left_is = same_from_bits left (rest * 2 ^ (z + u) + 0) (λ i. bit_at_and b.standing carried i ∙ at i (cases_lt i (z + u)))
    where
      at : (i : ℕ) → (i < z + u) ⊎ (z + u ≤ i) → min (bit_at b.standing i) (bit_at carried i) ≡ bit_at (rest * 2 ^ (z + u) + 0) i
      at i (inl l) = omega (arith, run_bits i l, bit_at_cat_low rest (z + u) 0 i l, bit_at-zero i)
      at i (inr l) = ap₂ min (bit_at_later b.standing (z + u) i l) (rest_bits i l) ∙ even_and rest (i - (z + u)) rest_even ∙ sym (bit_at_cat_high rest (z + u) 0 i (pow_pos (z + u)) l)

  abbrev behind : ℕ
  behind = b.count - (z + u)

  -- the pins down, the run, and what is behind it
  three : row b ≡ replicate z Down ++ (replicate u Standing ++ pins behind rest)
  three =
      ap (λ k. pins k b.standing) (let e : b.count ≡ z + (u + behind) = omega (arith, run_within) in e)
      ∙ pins_append z (u + behind) b.standing
      ∙ ap₂ ◌++◌ (pins_same 0 z b.standing downs.2) (pins_append u behind up ∙ ap₂ ◌++◌ (pins_same 1 u up ups.2) (ap (pins behind) (shr-shr b.standing z u)))

  -- and with the run taken off
  two : pins b.count left ≡ replicate (z + u) Down ++ pins behind rest
  two =
      ap₂ pins (let e : b.count ≡ z + u + behind = omega (arith, run_within) in e) left_is
      ∙ pins_append (z + u) behind (rest * 2 ^ (z + u) + 0)
      ∙ ap₂ ◌++◌ (pins_same 0 (z + u) (rest * 2 ^ (z + u) + 0) (λ i l. bit_at_cat_low rest (z + u) 0 i l ∙ bit_at-zero i)) (ap (pins behind) (div-mul-add rest (2 ^ (z + u)) 0 (pow_pos (z + u))))

  abbrev end : ℕ
  end = trailing_zeros w64 carried

  -- a turn gives the run that begins at pin f and has l pins, and leaves the mask m, where these are read off the mask so
  pub run_taken : (f l m : ℕ) → f ≡ z + 1 → l ≡ end - z → m ≡ left → all_runs (row b) ≡ record { first = f; len = l } ∷ all_runs (pins b.count m)
  unfolding all_runs
  run_taken f l m first long rest_is =
      ap (runs_from 1 0) three
      ∙ runs_past_down 1 z (replicate u Standing ++ pins behind rest)
      ∙ runs_past_up (1 + z) 0 u (pins behind rest)
      ∙ run_over (1 + z + u) (0 + u) behind rest rest_even
      ∙ closed_some (1 + z + u) (0 + u) (runs_from (1 + z + u) 0 (pins behind rest)) (omega (arith, run_some))
      ∙ ap₂ ◌∷◌ (λ i. record { first = (let e : 1 + z + u - (0 + u) ≡ f = omega (arith, first) in e) i; len = (let e : 0 + u ≡ l = omega (arith, end_is, long) in e) i })
      (ap (λ k. runs_from k 0 (pins behind rest)) (let e : 1 + z + u ≡ 1 + (z + u) = omega arith in e) ∙ sym (ap (λ k. runs_from 1 0 (pins b.count k)) rest_is ∙ ap (runs_from 1 0) two ∙ runs_past_down 1 (z + u) (pins behind rest)))

  pub run_ends : z ≤ end
  run_ends = omega (arith, end_is)

-- where no pin stands, there are no runs
no_runs_from : (i n : ℕ) → runs_from i 0 (pins n 0) ≡ []
unfolding runs_from pins closed
no_runs_from i zero = refl
no_runs_from i (suc n) = no_runs_from (suc i) n

pub no_runs : (n : ℕ) → all_runs (pins n 0) ≡ []
unfolding all_runs
no_runs n = no_runs_from 1 n

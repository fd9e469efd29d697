-- Moves on the mask: which can be made, how many there are, and what they leave.
use Rattle.std.proofs.Common.{◌≡◌, ℕ, zero, suc, ◌+◌, ◌-◌, ◌*◌, ◌/◌, ◌%◌, ◌^◌, ◌<◌, ◌≤◌, cond, T, eqb, List, [], ◌∷◌, length, refl, ap, ◌∙◌, subst, add-mul, mod-eq_of_lt, pow-suc, arith, pow_pos, shr-shr}
use Rattle.std.specs.Int.Count.{ones, ones_step}
use Rattle.std.specs.Int.Bits.{and_step, bit_and}
use Rattle.std.proofs.Math.Nat.{mod-one, zero-mod}
use Rattle.std.specs.Bool.{Decides}
use Rattle.std.proofs.lemmas.Bool.{cond_both, eq-eqb, eqb-false, eqb-true}
use Rattle.std.proofs.lemmas.Bool.Decides.{nat_tests}
use Rattle.std.proofs.lemmas.Nat.{and-not, and_comm, and_le_l, and_shr, pow-add, and_mask, mod-pow-add}
use Rattle.std.proofs.lemmas.Nat.Bits.{and_high}
use Rattle.kayles.specs.declared.board.Board.{Board}
use Rattle.kayles.specs.declared.board.Pin.{Pin}
use Rattle.kayles.specs.declared.board.Pin.TheVariants.{Standing, Down}
use Rattle.kayles.specs.declared.position.Knock.{Knock}
use Rattle.kayles.specs.Boards.{length-pins}
use Rattle.kayles.specs.Play.{IsKnock, fallen, fallen_after, front, knocks, knocks_from, left_by, offered, taking}
use Rattle.kayles.specs.Rows.{pin_of, pins, row, upright}
use Rattle.kayles.proofs.Masks.{low_mask, upright_pins}
use Rattle.kayles.proofs.Numbering.{knock_up, up_knock}
use Rattle.kayles.specs.Laws.Splitting.{up_after}

-- ---- n pins from some place on stand where n bits of the mask are 1

low_bits : (m n : ℕ) → m % 2 ^ suc n ≡ (m / 2 % 2 ^ n) * 2 + m % 2
low_bits m n = ap (λ k. m % 2 ^ k) (omega arith) ∙ mod-pow-add m n 1

-- a bit is 1 where its pin stands
bit_cases : (P : Pin → Type 0) (b : ℕ) → (b ≡ 1 → P Standing) → ((b ≡ 1 → ⊥) → P Down) → P (pin_of b)
bit_cases P b up down = cond_both (eqb b 1) Standing Down P (λ e. up (eqb-true b 1 e)) (λ e. down (eqb-false b 1 e))

front_cons : (n m : ℕ) (ps : List Pin) → T (front (suc n) (pin_of (m % 2) ∷ ps)) → (m % 2 ≡ 1) × T (front n ps)
unfolding front
front_cons n m ps = bit_cases (λ p. T (front (suc n) (p ∷ ps)) → (m % 2 ≡ 1) × T (front n ps)) (m % 2) (λ e t. (e, t)) (λ e t. absurd t)

cons_front : (n m : ℕ) (ps : List Pin) → m % 2 ≡ 1 → T (front n ps) → T (front (suc n) (pin_of (m % 2) ∷ ps))
unfolding front
cons_front n m ps e t = bit_cases (λ p. T (front (suc n) (p ∷ ps))) (m % 2) (λ _. t) (λ d. absurd (d e))

front_bits : (k n m : ℕ) → m < 2 ^ n → T (front k (pins n m)) → m % 2 ^ k ≡ 2 ^ k - 1
unfolding pins front
front_bits zero n m h t = omega (arith, mod-one m)
front_bits (suc k) zero m h t = absurd t
front_bits (suc k) (suc n) m h t =
    let f = front_cons k m (pins n (m / 2)) t in
    omega (arith, low_bits m k, pow-suc 2 k, pow_pos k, f.0, front_bits k n (m / 2) (omega (arith, pow-suc 2 n)) f.1)

bits_front : (k n m : ℕ) → m < 2 ^ n → m % 2 ^ k ≡ 2 ^ k - 1 → T (front k (pins n m))
unfolding pins front
bits_front zero n m h e = tt
bits_front (suc k) zero m h e =
    absurd (grind (arith, low_bits m k, pow-suc 2 k, pow_pos k, zero-mod (2 ^ k)))
bits_front (suc k) (suc n) m h e =
    cons_front k m (pins n (m / 2)) (omega (arith, low_bits m k, pow-suc 2 k, pow_pos k)) (bits_front k n (m / 2) (omega (arith, pow-suc 2 n)) (omega (arith, low_bits m k, pow-suc 2 k, pow_pos k)))

half_down : (m i : ℕ) → m / 2 ^ suc i ≡ m / 2 / 2 ^ i
half_down m i = grind (arith, shr-shr m 1 i)

up_bits : (i k n m : ℕ) → m < 2 ^ n → T (up_after i k (pins n m)) → m / 2 ^ i % 2 ^ k ≡ 2 ^ k - 1
unfolding pins up_after
up_bits zero k n m h t = grind (arith, front_bits k n m h t)
up_bits (suc i) k zero m h t = absurd t
up_bits (suc i) k (suc n) m h t = grind (arith, half_down m i, up_bits i k n (m / 2) (omega (arith, pow-suc 2 n)) t)

bits_up : (i k n m : ℕ) → m < 2 ^ n → i < n → m / 2 ^ i % 2 ^ k ≡ 2 ^ k - 1 → T (up_after i k (pins n m))
unfolding pins up_after
bits_up zero k n m h l e = bits_front k n m h (grind arith)
bits_up (suc i) k zero m h l e = absurd (omega arith)
bits_up (suc i) k (suc n) m h l e = bits_up i k n (m / 2) (omega (arith, pow-suc 2 n)) (omega arith) (grind (arith, half_down m i))

-- the test that the code makes
pub decides_knock : (b : Board) (k : Knock) (w : ℕ) → 1 ≤ k.pin → k.pin ≤ b.count → 1 ≤ k.pins → k.pins ≤ 2 → w ≡ 2 ^ k.pins - 1 → Decides (eqb (bit_and (b.standing / 2 ^ (k.pin - 1)) w) w) (IsKnock (row b) k)
decides_knock b k w low high some few e =
    let i = k.pin - 1 in
    let m = b.standing / 2 ^ i in (
      λ t.
          let ones : m % 2 ^ k.pins ≡ 2 ^ k.pins - 1 = grind (arith, and_mask m k.pins, eqb-true (bit_and m w) w t) in
          subst (λ i. IsKnock (row b) (taking i k.pins)) (omega arith) (up_knock (row b) i k.pins some few (bits_up i k.pins b.count b.standing b.within (omega arith) ones)),
      λ is. eq-eqb _ _ (grind (arith, and_mask m k.pins, up_bits i k.pins b.count b.standing b.within (knock_up (row b) k is).1)),
    )

-- ---- how many moves there are

-- how many pins stand with the next
unfoldable couples : List Pin → ℕ
couples [] = 0
couples (p ∷ ps) = cond (front 2 (p ∷ ps)) 1 0 + couples ps

length_from : (i : ℕ) (ps : List Pin) → length (knocks_from i ps) ≡ upright ps + couples ps
unfolding knocks_from couples upright offered front
length_from i [] = refl
length_from i (Standing ∷ ps) = grind (arith, nat_tests, length_from (suc i) ps)
length_from i (Down ∷ ps) = grind (arith, nat_tests, length_from (suc i) ps)

-- two pins that stand side by side are two bits that are 1
couples_pins : (n m : ℕ) → m < 2 ^ n → couples (pins n m) ≡ ones (bit_and m (m / 2))
unfolding pins couples ones front
couples_pins zero m h = grind arith
couples_pins (suc zero) m h = grind (arith, nat_tests, and_step m (m / 2), ones_step (bit_and m (m / 2)), and_shr m (m / 2) 1, couples_pins zero (m / 2))
couples_pins (suc (suc n)) m h = grind (arith, nat_tests, and_step m (m / 2), ones_step (bit_and m (m / 2)), and_shr m (m / 2) 1, pow-suc 2 (suc n), couples_pins (suc n) (m / 2))

pub knocks_ones : (b : Board) → ones b.standing + ones (bit_and b.standing (b.standing / 2)) ≡ length (knocks (row b))
unfolding knocks
knocks_ones b =
    omega (arith, length_from 1 (row b), upright_pins b.count b.standing b.within, couples_pins b.count b.standing b.within)

-- ---- what a move leaves

-- the bits of n pins after the first i
unfoldable pub bite : ℕ → ℕ → ℕ
bite i n = (2 ^ n - 1) * 2 ^ i

bite_up : (i n : ℕ) → bite (suc i) n ≡ 2 * bite i n
unfolding bite
bite_up i n = rw (pow-suc 2 i) (grind arith)

bite_more : (n : ℕ) → bite 0 (suc n) ≡ 2 * bite 0 n + 1
unfolding bite
bite_more n = omega (arith, pow-suc 2 n, pow_pos n)

bite_none : bite 0 0 ≡ 0
unfolding bite
bite_none = refl

fallen_pins : (k n m : ℕ) → T (front k (pins n m)) → pins n (m - bite 0 k) ≡ fallen k (pins n m)
unfolding pins fallen
fallen_pins zero n m t = ap (pins n) (omega (arith, bite_none))
fallen_pins (suc k) zero m t = refl
fallen_pins (suc k) (suc n) m t =
    let f = front_cons k m (pins n (m / 2)) t in
    grind (arith, nat_tests, bite_more k, f.0, fallen_pins k n (m / 2) f.1)

-- where they stand they are 1
pub inside : (i k n m : ℕ) → m < 2 ^ n → T (up_after i k (pins n m)) → bit_and m (bite i k) ≡ bite i k
unfolding bite
inside i k n m h t =
    let whole : 2 ^ k - 1 + 1 ≡ 2 ^ k = omega (arith, pow_pos k) in
    let is_bite : 2 ^ (k + i) - 2 ^ i ≡ bite i k = grind (arith, pow-add 2 k i, add-mul (2 ^ k - 1) 1 (2 ^ i), whole) in
    grind (arith, is_bite, and_high m k i, up_bits i k n m h t)

bite_le : (i k n m : ℕ) → m < 2 ^ n → T (up_after i k (pins n m)) → bite i k ≤ m
bite_le i k n m h t = omega (arith, inside i k n m h t, and_le_l m (bite i k))

left_pins : (i k n m : ℕ) → m < 2 ^ n → T (up_after i k (pins n m)) → pins n (m - bite i k) ≡ fallen_after i k (pins n m)
unfolding pins up_after fallen_after
left_pins zero k n m h t = fallen_pins k n m t
left_pins (suc i) k zero m h t = refl
left_pins (suc i) k (suc n) m h t =
    let low : m / 2 < 2 ^ n = omega (arith, pow-suc 2 n) in
    grind (arith, bite_up i k, bite_le i k n (m / 2) low t, left_pins i k n (m / 2) low t)

-- the pins that stand are on the board
up_in : (i n : ℕ) (ps : List Pin) → 0 < n → T (up_after i n ps) → i < length ps
unfolding up_after front
up_in zero zero [] h t = absurd (omega arith)
up_in zero (suc n) [] h t = absurd t
up_in (suc i) n [] h t = absurd t
up_in zero n (p ∷ ps) h t = omega arith
up_in (suc i) n (p ∷ ps) h t = omega (arith, up_in i n ps h t)

-- the move that the code takes off the mask
module _ (b : Board) (k : Knock) (is : IsKnock (row b) k) where
  pub pin_low : (1 ≤ k.pin) × (k.pin - 1 < 32)
  pin_low = let u = knock_up (row b) k is in (u.0, omega (arith, u.0, up_in (k.pin - 1) k.pins (row b) is.some u.1, length-pins b.count b.standing, b.few))

  -- to clear the bits of the move is to subtract them
  pub cleared : bit_and b.standing (2 ^ 32 - 1 - bite (k.pin - 1) k.pins) ≡ b.standing - bite (k.pin - 1) k.pins
  cleared =
      let i = k.pin - 1 in
      let u = (knock_up (row b) k is).1 in
      grind (arith, low_mask b, bite_le i k.pins b.count b.standing b.within u, inside i k.pins b.count b.standing b.within u, and-not 32 (bite i k.pins) b.standing, and_comm b.standing)

  -- where w is one pin or two, as a mask at the low end, its place on the board takes in these bits
  pub bite_is : (w : ℕ) → w ≡ 2 ^ k.pins - 1 → (w * 2 ^ (k.pin - 1)) % 4294967296 ≡ bite (k.pin - 1) k.pins
  unfolding bite
  bite_is w e = rw e (mod-eq_of_lt (omega (arith, bite_le (k.pin - 1) k.pins b.count b.standing b.within (knock_up (row b) k is).1, low_mask b)))

  pub bite_fits : (w : ℕ) → w ≡ 2 ^ k.pins - 1 → (w * 2 ^ (k.pin - 1)) % 4294967296 ≤ b.standing
  bite_fits w e = omega (arith, bite_is w e, bite_le (k.pin - 1) k.pins b.count b.standing b.within (knock_up (row b) k is).1)

  pub row_left : (w : ℕ) → w ≡ 2 ^ k.pins - 1 → pins b.count (bit_and b.standing (4294967295 - (w * 2 ^ (k.pin - 1)) % 4294967296)) ≡ left_by k (row b)
  unfolding left_by
  row_left w e = rw (bite_is w e, cleared) (left_pins (k.pin - 1) k.pins b.count b.standing b.within (knock_up (row b) k is).1)

-- What a mask says of its pins.
use Rattle.std.specs.Prelude.{◌≡◌, ℕ, zero, suc, ◌+◌, ◌*◌, ◌/◌, ◌%◌, ◌^◌, ◌<◌, Bool, true, false, cond, [], ◌∷◌, ◌++◌, slice_index_or, refl}
use Rattle.std.proofs.Common.{ap, ap₂, ◌∙◌, add-one, arith, mul-le-mul_right, pow-suc, pow_mono, shl_exact, shr-shr}
use Rattle.std.proofs.lemmas.Bool.Decides.{nat_tests}
use Rattle.std.specs.Int.Bits.{bit_or, or_shifted_r}
use Rattle.std.specs.Int.Count.{ones, ones_step}
use Rattle.kayles.specs.declared.board.Board.{Board}
use Rattle.kayles.specs.declared.board.Pin.{Pin}
use Rattle.kayles.specs.declared.board.Pin.TheVariants.{Standing, Down}
use Rattle.kayles.specs.Limits.{most_pins}
use Rattle.kayles.specs.Rows.{bit, pin_of, pins, row, upright}

-- a board's mask fits its word
pub low_mask : (b : Board) → b.standing < 2 ^ 32
low_mask b = omega (arith, b.within, pow_mono {i = b.count} {j = 32} b.few)

-- a pin more at the right is a bit more at the top
pub pins_more : (n m : ℕ) (p : Pin) → m < 2 ^ n → pins (suc n) (m + bit p * 2 ^ n) ≡ pins n m ++ p ∷ []
unfolding pins
pins_more zero m Standing h = grind (arith, nat_tests)
pins_more zero m Down h = grind (arith, nat_tests)
pins_more (suc n) m Standing h = grind (arith, pow-suc 2 n, pins_more n (m / 2) Standing)
pins_more (suc n) m Down h = grind (arith, pow-suc 2 n, pins_more n (m / 2) Down)

-- the board with a pin more, as the code computes it from the pin's bit v
module _ (b : Board) (v : ℕ) (room : b.count < most_pins) (bit_v : v < 2) where
  -- the bit, shifted to its place, is not cut off
  more : bit_or b.standing ((v * 2 ^ b.count) % 4294967296) ≡ b.standing + v * 2 ^ b.count
  more = grind (arith, shl_exact {a = v} 1 b.count 32 bit_v, or_shifted_r v b.count b.standing b.within)

  pub more_fits : bit_or b.standing ((v * 2 ^ b.count) % 4294967296) < 2 ^ (b.count + 1)
  more_fits = omega (arith, more, b.within, ap (λ n. 2 ^ n) (add-one b.count), pow-suc 2 b.count, mul-le-mul_right {m = v} {n = 1} (2 ^ b.count) (omega arith))

  pub row_more : (p : Pin) → v ≡ bit p → pins (b.count + 1) (bit_or b.standing ((v * 2 ^ b.count) % 4294967296)) ≡ row b ++ p ∷ []
  row_more p e = ap₂ pins (add-one b.count) (more ∙ ap (λ v. b.standing + v * 2 ^ b.count) e) ∙ pins_more b.count b.standing p b.within

-- the pins that stand are the ones of the mask
pub upright_pins : (n m : ℕ) → m < 2 ^ n → upright (pins n m) ≡ ones m
unfolding pins upright ones
upright_pins zero m h = grind arith
upright_pins (suc n) m h = grind (arith, nat_tests, ones_step m, upright_pins n (m / 2), pow-suc 2 n)

-- pin i + 1 is that of bit i
pub pin_at : (n m i : ℕ) → i < n → slice_index_or (pins n m) i Down ≡ pin_of (m / 2 ^ i % 2)
unfolding pins
pin_at zero m i h = absurd (omega arith)
pin_at (suc n) m zero h = grind arith
pin_at (suc n) m (suc i) h = grind (arith, pin_at n (m / 2) i, shr-shr m 1 i)

pub down_up : Down ≡ Standing → ⊥
down_up e = cc

pub up_pin : (b : Bool) → b ≡ true → cond b Standing Down ≡ Standing
up_pin b e = ap (λ t. cond t Standing Down) e

pub pin_up : (b : Bool) → cond b Standing Down ≡ Standing → b ≡ true
pin_up true e = refl
pin_up false e = cc

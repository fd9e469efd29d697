-- The board of a row: a board's row gives the board again. With the facts that its type asks for.
use Rattle.std.specs.Prelude.{◌≡◌, ℕ, zero, suc, ◌+◌, ◌*◌, ◌/◌, ◌^◌, ◌<◌, ◌≤◌, List, [], ◌∷◌, length, refl}
use Rattle.std.proofs.Common.{pow-suc, arith}
use Rattle.kayles.specs.declared.board.Board.{Board}
use Rattle.kayles.specs.declared.board.Pin.{Pin}
use Rattle.kayles.specs.declared.board.Pin.TheVariants.{Standing, Down}
use Rattle.kayles.specs.Limits.{most_pins}
use Rattle.kayles.specs.Rows.{bit, pins, row}

pub length-pins : (n m : ℕ) → length (pins n m) ≡ n
unfolding pins
length-pins zero m = refl
length-pins (suc n) m = omega (arith, length-pins n (m / 2))

-- no board has more than 32 pins
pub row_few : (b : Board) → length (row b) ≤ most_pins
row_few b = omega (arith, length-pins b.count b.standing, b.few)

-- the mask of a row
unfoldable pub mask : List Pin → ℕ
mask [] = 0
mask (p ∷ ps) = bit p + 2 * mask ps

pub mask_fits : (ps : List Pin) → mask ps < 2 ^ length ps
unfolding mask
mask_fits [] = omega arith
mask_fits (Standing ∷ ps) = omega (arith, mask_fits ps, pow-suc 2 (length ps))
mask_fits (Down ∷ ps) = omega (arith, mask_fits ps, pow-suc 2 (length ps))

-- the board of a row
abbrev pub board_of : (ps : List Pin) → length ps ≤ most_pins → Board
board_of ps h = record { count = length ps; standing = mask ps; few = h; within = mask_fits ps }

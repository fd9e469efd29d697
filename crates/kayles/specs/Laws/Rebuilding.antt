-- Boards and their rows: each gives the other again.
use Rattle.std.specs.Prelude.{◌≡◌, ℕ, zero, suc, ◌/◌, ◌^◌, ◌<◌, ◌≤◌, List, [], ◌∷◌, length, refl}
use Rattle.std.proofs.Common.{sym, ap, ◌∙◌, pow-suc, arith}
use Rattle.std.proofs.lemmas.Bool.Decides.{nat_tests}
use mathlib.Core.HLevel.{is_prop→PathP}
use Rattle.std.proofs.Math.Bridge.{le_prop}
use Rattle.kayles.specs.declared.board.Board.{Board}
use Rattle.kayles.specs.declared.board.Pin.{Pin}
use Rattle.kayles.specs.declared.board.Pin.TheVariants.{Standing, Down}
use Rattle.kayles.specs.declared.position.Position.{Position}
use Rattle.kayles.specs.Boards.{board_of, length-pins, mask}
use Rattle.kayles.specs.Limits.{most_pins}
use Rattle.kayles.specs.Rows.{pins, row}

-- boards are the same where their two words are
pub same_board : (a b : Board) → a.count ≡ b.count → a.standing ≡ b.standing → a ≡ b
same_board a b en em = λ i. record { count = en i; standing = em i; few = is_prop→PathP (λ i. en i ≤ most_pins) (λ i. le_prop) a.few b.few i; within = is_prop→PathP (λ i. em i < 2 ^ en i) (λ i. le_prop) a.within b.within i }

pub same_position : (p q : Position) → p.board ≡ q.board → p.counting ≡ q.counting → p ≡ q
same_position p q eb ec = λ i. record { board = eb i; counting = ec i }

-- the row of the board of a row
pub pins_mask : (ps : List Pin) → pins (length ps) (mask ps) ≡ ps
unfolding pins mask
pins_mask [] = refl
pins_mask (Standing ∷ ps) = grind (arith, nat_tests, pins_mask ps)
pins_mask (Down ∷ ps) = grind (arith, nat_tests, pins_mask ps)

pub mask_pins : (n m : ℕ) → m < 2 ^ n → mask (pins n m) ≡ m
unfolding pins mask
mask_pins zero m h = omega arith
mask_pins (suc n) m h = grind (arith, nat_tests, mask_pins n (m / 2), pow-suc 2 n)

-- a board whose row is ps is the board of ps
pub board_is : (b : Board) (ps : List Pin) (h : length ps ≤ most_pins) → row b ≡ ps → b ≡ board_of ps h
board_is b ps h e =
    same_board b (board_of ps h) (sym (length-pins b.count b.standing) ∙ ap length e) (sym (mask_pins b.count b.standing b.within) ∙ ap mask e)

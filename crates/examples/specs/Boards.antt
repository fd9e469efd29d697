-- Small boards, the counting side to move.
use Rattle.std.specs.Prelude.{true, List, [], ◌∷◌, ◌≡◌, IsTrue, nat_le, length, slice_index_or, refl}
use Rattle.std.proofs.Common.{leb-true}
use Rattle.kayles.specs.declared.board.Pin.{Pin}
use Rattle.kayles.specs.declared.board.Pin.TheVariants.{Standing, Down}
use Rattle.kayles.specs.declared.position.Knock.{Knock}
use Rattle.kayles.specs.declared.position.Position.{Position}
use Rattle.kayles.specs.Boards.{board_of}
use Rattle.kayles.specs.Kayles.{kayles_rules, knocks_of}
use Rattle.kayles.specs.Limits.{most_pins}
use Rattle.kayles.specs.Play.{no_knock, taking}
use Rattle.search.specs.Bare.{bare_visits}
use Rattle.search.specs.Minimax.{move, worth}

-- the row, with the counting side to move
abbrev pub counting_side : (ps : List Pin) → IsTrue (nat_le (length ps) most_pins) → Position
counting_side ps e = record { board = board_of ps (leb-true (length ps) most_pins e); counting = true }

-- nothing, X, X.X, XX, XXX and XX.XX
abbrev pub board0 : Position
board0 = counting_side [] refl

abbrev pub boardX : Position
boardX = counting_side (Standing ∷ []) refl

abbrev pub boardX_X : Position
boardX_X = counting_side (Standing ∷ Down ∷ Standing ∷ []) refl

abbrev pub boardXX : Position
boardXX = counting_side (Standing ∷ Standing ∷ []) refl

abbrev pub boardXXX : Position
boardXXX = counting_side (Standing ∷ Standing ∷ Standing ∷ []) refl

abbrev pub boardXX_XX : Position
boardXX_XX = counting_side (Standing ∷ Standing ∷ Down ∷ Standing ∷ Standing ∷ []) refl

-- the best move, as pin and number of pins
abbrev pub best : Position → Knock
best p = slice_index_or (knocks_of p) (move kayles_rules p) no_knock

pub record BoardsRight : Type 0 where
  -- 1 is a win for the side to move, 0 a loss
  pub worth_0 : worth kayles_rules board0 ≡ 0
  pub worth_X : worth kayles_rules boardX ≡ 1
  pub worth_X_X : worth kayles_rules boardX_X ≡ 0
  -- on XX both pins go, on XXX the middle one; XX.XX is lost, so that all moves come to the same, and the first of them counts
  pub best_XX : best boardXX ≡ taking 1 2
  pub best_XXX : best boardXXX ≡ taking 2 1
  pub best_XX_XX : best boardXX_XX ≡ taking 1 1
  -- the visits of the bare search at bound 1
  pub bare_X : bare_visits kayles_rules boardX 1 ≡ 2
  pub bare_X_X : bare_visits kayles_rules boardX_X 1 ≡ 5

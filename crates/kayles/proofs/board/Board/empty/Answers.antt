use Rattle.std.proofs.Common.{refl}
use Rattle.kayles.specs.Rows.{pins}
use Rattle.kayles.proofs.board.Board.empty.Goals as goal

pub returns : goal.returns
unfolding pins
returns c = refl

use Rattle.kayles.proofs.Taking.{knocks_ones}
use Rattle.kayles.proofs.board.Board.moves.Goals as goal

pub returns : goal.returns
returns c = knocks_ones c.args.self

use Rattle.std.proofs.Common.{sym}
use Rattle.kayles.specs.Boards.{length-pins}
use Rattle.kayles.proofs.board.Board.len.Goals as goal

pub returns-clause-value : goal.returns-clause-value
returns-clause-value c = sym (length-pins c.args.self.count c.args.self.standing)

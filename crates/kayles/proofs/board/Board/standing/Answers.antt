use Rattle.std.proofs.Common.{sym}
use Rattle.kayles.proofs.Masks.{upright_pins}
use Rattle.kayles.proofs.board.Board.standing.Goals as goal

pub returns : goal.returns
returns c = sym (upright_pins c.args.self.count c.args.self.standing c.args.self.within)

use Rattle.kayles.proofs.Taking.{pin_low, row_left}
use Rattle.kayles.proofs.board.Board.without.Goals as goal

pub overflow_sub-result : goal.overflow_sub-result
overflow_sub-result c = (pin_low c.args.self c.args.k c.requires).0

pub overflow_shl-result : goal.overflow_shl-result
overflow_shl-result c = (pin_low c.args.self c.args.k c.requires).1

pub returns : goal.returns
returns c = row_left c.args.self c.args.k c.requires _ c.mask_of.ensures

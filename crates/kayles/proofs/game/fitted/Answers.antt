use Rattle.std.proofs.Common.{arith}
use Rattle.std.proofs.lemmas.Nat.{one_shl, and_mask}
use Rattle.kayles.specs.Laws.Rebuilding.{same_board}
use Rattle.kayles.proofs.game.fitted.Goals as goal

pub returns : goal.returns
returns c = same_board _ _ c.min-count.ensures (grind (arith, one_shl c.min-count.result 64, and_mask c.args.mask c.min-count.result))

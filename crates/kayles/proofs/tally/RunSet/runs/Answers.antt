use Rattle.std.proofs.Common.{arith}
use Rattle.kayles.proofs.Naming.{unit_above}
use Rattle.kayles.proofs.tally.RunSet.runs.Goals as goal

pub nonzero_div-result : goal.nonzero_div-result
nonzero_div-result c = omega (arith, c.unit_of.ensures, unit_above c.args.len (omega (arith, c.if-len-eq0.false)))

use Rattle.kayles.proofs.Naming.{described}
use Rattle.kayles.proofs.tally.RunSet.of.Goals as goal

pub returns-clause-meaning : goal.returns-clause-meaning
returns-clause-meaning c = rw c.word_of.ensures (described c.args.p)

use Rattle.kayles.proofs.Refereeing.{rules_right}
use Rattle.kayles.proofs.game.rules_right.Goals as goal

pub returns : goal.returns
returns c = rules_right

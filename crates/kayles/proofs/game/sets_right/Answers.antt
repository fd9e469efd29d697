use Rattle.kayles.proofs.Refereeing.{sets_right}
use Rattle.kayles.proofs.game.sets_right.Goals as goal

pub returns : goal.returns
returns c = sets_right

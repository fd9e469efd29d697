use Rattle.search.proofs.Worth.{worth_right}
use Rattle.search.proofs.theorems.worth_right.Goals as goal

pub returns : goal.returns
returns g c = worth_right g.G.Game.rules g.met.G.Game.lawful.game

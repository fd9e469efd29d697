use Rattle.search.proofs.Ending.{bare_right}
use Rattle.search.proofs.theorems.bare_right.Goals as goal

pub returns : goal.returns
returns g c = bare_right g.G.Game.rules g.G.Game.sets g.met.G.Game.lawful.game g.met.G.Game.lawful.sets

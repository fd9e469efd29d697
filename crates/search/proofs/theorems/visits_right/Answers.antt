use Rattle.search.proofs.Ending.{visits_right}
use Rattle.search.proofs.theorems.visits_right.Goals as goal

pub returns : goal.returns
returns g c =
    let Z = g.G.Game.sets in
    let laws = g.met.G.Game.lawful in
    visits_right g.G.Game.rules Z laws.game (g.T.Table.memory Z) (g.met.T.Table.lawful Z) laws.sets

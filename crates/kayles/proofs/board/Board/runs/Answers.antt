use Rattle.kayles.specs.Rows.{row}
use Rattle.kayles.proofs.Tallying.{runs_listed}
use Rattle.kayles.proofs.board.Board.runs.Goals as goal

pub returns-clause-meaning : goal.returns-clause-meaning
returns-clause-meaning c = runs_listed (row c.args.self)

use Rattle.std.proofs.Common.{◌<◌, ◌≤◌, refl, rules, tests}
use Rattle.std.proofs.lemmas.Iterator.{first_from_find}
use Rattle.std.proofs.lemmas.Iterator.Consumers.{YieldsList-from_first}
use Rattle.kayles.specs.Rows.{row}
use Rattle.kayles.specs.Tallies.{runs_left}
use Rattle.kayles.proofs.Tallying.{next_listed}
use Rattle.kayles.proofs.board.Board.next_run.Goals as goal

pub returns : goal.returns
returns c =
    let from = c.args.from in
    let rs = runs_left c.runs.result in
    let found = first_from_find c.find.new.self _ c.find.result (λ r. from ≤ r.first) (λ r. r.first < from) c.find.ensures.ran (YieldsList-from_first (λ r. r) runs_left rs refl) (λ x q k. search (rules, tests)) (λ x q k. search (rules, tests)) in
    next_listed (row c.args.self) rs from c.runs.ensures.meaning c.find.result found

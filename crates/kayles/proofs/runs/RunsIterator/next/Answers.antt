use Rattle.std.proofs.Common.{◌≡◌, [], length, refl, ap, arith}
use Rattle.kayles.specs.Tallies.{runs_left}
use Rattle.kayles.proofs.Passing.{no_runs, run_ends, run_taken}
use Rattle.kayles.proofs.runs.RunsIterator.next.Goals as goal

pub returns-then-pins-eq0-clause-steps : goal.returns-then-pins-eq0-clause-steps
returns-then-pins-eq0-clause-steps c =
    let e : runs_left c.args.self.now ≡ [] = rw c.if-pins-eq0.true (no_runs c.args.self.now.left.count) in (e, e)

pub overflow_sub-result : goal.overflow_sub-result
overflow_sub-result c = run_ends c.args.self.now.left c.if-pins-eq0.false

pub returns-clause-steps : goal.returns-clause-steps
returns-clause-steps c = run_taken c.args.self.now.left c.if-pins-eq0.false _ _ _ (omega arith) (omega arith) search

pub returns-clause-goes : goal.returns-clause-goes
returns-clause-goes c =
    let shorter = ap length (run_taken c.args.self.now.left c.if-pins-eq0.false _ _ _ refl refl refl) in
    record { on = λ f. (tt, tt, omega arith); keeps = tt; rests = λ f. tt }

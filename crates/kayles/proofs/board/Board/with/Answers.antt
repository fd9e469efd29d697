use Rattle.std.proofs.Common.{arith}
use Rattle.kayles.specs.Boards.{length-pins}
use Rattle.kayles.proofs.Masks.{more_fits, row_more}
use Rattle.kayles.proofs.board.Board.with.Goals as goal

pub returns-then-self-ge-MOST_PINS : goal.returns-then-self-ge-MOST_PINS
returns-then-self-ge-MOST_PINS c = omega (arith, length-pins c.args.self.count c.args.self.standing)

pub invariant_of-result-clause-within : goal.invariant_of-result-clause-within
invariant_of-result-clause-within c = more_fits c.args.self c.match-pin.result c.if-self-ge-MOST_PINS.false (grind arith)

pub returns : goal.returns
returns c =
    let b = c.args.self in
    (omega (arith, length-pins b.count b.standing), row_more b c.match-pin.result c.if-self-ge-MOST_PINS.false (grind arith) c.args.pin (grind arith))

use Rattle.std.proofs.Common.{ap, arith}
use Rattle.kayles.specs.Boards.{row_few}
use Rattle.kayles.specs.Rows.{row}
use Rattle.kayles.specs.Tallies.{word_of}
use Rattle.kayles.proofs.Tallying.{first_fits}
use Rattle.kayles.specs.Laws.Words.{word_low}
use Rattle.kayles.proofs.tally.word_of.Goals as goal

pub unit_of-word-requires : goal.unit_of-word-requires
unit_of-word-requires c = first_fits c.loop-run.run-iterator.left _ _ c.in-Some.ensures.steps

pub overflow_add-word : goal.overflow_add-word
unfolding word_of
overflow_add-word c =
    let b = c.args.board in
    omega (arith, c.loop-run.invariant, ap word_of c.in-Some.ensures.steps, c.unit_of-word.ensures, word_low (row b) (row_few b))

pub loop-run-preserved : goal.loop-run-preserved
unfolding word_of
loop-run-preserved c = omega (arith, c.loop-run.invariant, ap word_of c.in-Some.ensures.steps, c.unit_of-word.ensures)

pub returns : goal.returns
unfolding word_of
returns c = omega (arith, c.loop-run.invariant, ap word_of c.in-None.ensures.steps.0)

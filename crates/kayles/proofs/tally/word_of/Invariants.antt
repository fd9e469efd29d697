use Rattle.std.proofs.Common.{◌≡◌, ◌+◌}
use Rattle.kayles.specs.Rows.{row}
use Rattle.kayles.specs.Tallies.{all_runs, runs_left, word_of}
use Rattle.kayles.proofs.tally.word_of.Given as goal

abbrev pub invariant-loop-run : goal.invariant-loop-run
invariant-loop-run l = l.word + word_of (runs_left l.run-iterator) ≡ word_of (all_runs (row l.fn.board))

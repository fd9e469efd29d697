use Rattle.std.proofs.Common.{◌≡◌, ◌++◌}
use Rattle.std.specs.Fmt.{HasWritten, IsPlainFormatter}
use Rattle.kayles.specs.Rows.{row}
use Rattle.kayles.specs.Tallies.{all_runs, runs_left}
use Rattle.book.specs.Reports.{lengths_text}
use Rattle.book.proofs.report.RunLengthsDisplay.fmt.Given as goal

-- the runs so far are written, and the others are left
abbrev pub invariant-loop-run : goal.invariant-loop-run
invariant-loop-run g l = record {
  left : l.yielded ++ runs_left l.run-iterator ≡ all_runs (row l.fn.self.0);
  written : IsPlainFormatter l.initial.f → HasWritten g.W.Write.write_str_gives l.initial.f (lengths_text l.yielded) l.f;
}

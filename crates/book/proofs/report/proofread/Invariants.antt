use Rattle.std.proofs.Common.{take, string_bytes}
use Rattle.book.specs.Reports.{AllAnswered}
use Rattle.book.proofs.report.proofread.Given as goal

-- the lines so far are answered
abbrev pub invariant-loop-i : goal.invariant-loop-i
invariant-loop-i l = AllAnswered 1 (take l.i l.line-items) (string_bytes l.report)

use Rattle.std.proofs.Common.{length, vec_items}
use Rattle.book.proofs.Splits.{Sofar}
use Rattle.book.proofs.line.lines.Given as goal

abbrev pub invariant-loop-line : goal.invariant-loop-line
invariant-loop-line l = Sofar l.book (vec_items l.found) l.rest

abbrev pub decreases-loop-line : goal.decreases-loop-line
decreases-loop-line l = length l.rest

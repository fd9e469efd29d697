use Rattle.std.proofs.Common.{◌++◌, sym, ap, ◌∙◌, append-nil}
use Rattle.std.proofs.Output.{has_written_of_eq}
use Rattle.kayles.specs.Rows.{row}
use Rattle.book.specs.Reports.{lengths_text}
use Rattle.book.proofs.Showing.{shown_none, shown_some}
use Rattle.book.proofs.report.RunLengthsDisplay.fmt.Goals as goal

pub returns-then-standing-eq0-clause-writes : goal.returns-then-standing-eq0-clause-writes
returns-then-standing-eq0-clause-writes g c = λ plain ok.
    has_written_of_eq _ _ _ _ _ (shown_none (row c.args.self.now.0) (sym c.standing.ensures ∙ c.if-standing-eq0.true)) (c.write.ensures.writes plain ok)

pub returns-clause-writes : goal.returns-clause-writes
returns-clause-writes g c = λ plain ok.
    let shown = c.loop-run.yielded in
    let all = sym (append-nil shown) ∙ ap (λ rs. shown ++ rs) (sym c.in-None.ensures.steps.0) ∙ c.loop-run.invariant.left in
    has_written_of_eq _ _ _ _ _
    (ap lengths_text all ∙ shown_some (row c.args.self.now.0) (λ e. c.if-standing-eq0.false (c.standing.ensures ∙ e)))
    (c.loop-run.invariant.written plain)

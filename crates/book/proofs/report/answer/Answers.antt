use Rattle.std.proofs.Common.{sym, refl, subst}
use Rattle.kayles.specs.Rows.{row}
use Rattle.kayles.specs.Tallies.{all_runs}
use Rattle.kayles.proofs.Tallying.{runs_listed}
use Rattle.book.specs.BoardLines.{BoardLine}
use Rattle.book.specs.Faults.{number}
use Rattle.book.specs.Reports.{Answered, passed, board, fault}
use Rattle.book.proofs.Showing.{if_shown, refused_text}
use Rattle.book.proofs.report.answer.Goals as goal

pub returns-in-Err : goal.returns-in-Err
returns-in-Err c =
    let n = c.args.line_number in
    let e = c.in-Err.refusal in
    let told = (c.in-Err.ensures.refused (number e.fault) e.column).0 (e, refl, refl, refl) in
    if_shown (Answered n c.args.line.now) _ _ (subst (Answered n c.args.line.now) (sym (refused_text n e)) (fault (number e.fault) e.column told)) c.format.ensures.ok

pub returns-in-Ok-None : goal.returns-in-Ok-None
returns-in-Ok-None c =
    let line = c.args.line.now in
    let told = rw c.in-Ok-None.field-0-is at c.in-Ok-None.ensures in
    subst (Answered c.args.line_number line) (sym c.new.ensures.bytes) (passed (told.passed.0 refl))

pub returns-in-Ok-Some : goal.returns-in-Ok-Some
returns-in-Ok-Some c =
    let line = c.args.line.now in
    let b = c.in-Ok-Some.board in
    let told = rw c.in-Ok-Some.field-0-is at c.in-Ok-Some.ensures in
    let shown : BoardLine line (row b) = (told.accepted (row b)).0 (b, refl, refl) in
    if_shown (Answered c.args.line_number line) _ _ (board (row b) (all_runs (row b)) shown (runs_listed (row b))) c.to_string.ensures.ok

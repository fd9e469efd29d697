use Rattle.std.proofs.Common.{ℕ, ◌+◌, List, [], ◌++◌, take, string_bytes, sym, refl, ap, ◌∙◌, subst}
use Rattle.std.proofs.lemmas.List.{take_all}
use Rattle.std.proofs.lemmas.Slice.{pushed}
use Rattle.book.specs.Lines.{LinesOf}
use Rattle.book.specs.Reports.{Report, TheReport, AllAnswered, none, too_long, answered}
use Rattle.book.proofs.Answering.{answered_turn, same_report}
use Rattle.book.proofs.Showing.{if_shown}
use Rattle.book.proofs.report.proofread.Goals as goal

the_report : (book out : List ℕ) → Report book out → TheReport book out
the_report book out s = (s, λ other t. same_report book other out t s)

pub returns-then-book-gt-BOOK_LIMIT : goal.returns-then-book-gt-BOOK_LIMIT
returns-then-book-gt-BOOK_LIMIT c = if_shown (TheReport c.args.book.now) _ _ (the_report _ _ (too_long c.if-book-gt-BOOK_LIMIT.true)) c.format.ensures.ok

pub loop-i-init : goal.loop-i-init
loop-i-init c = subst (AllAnswered 1 []) (sym c.new-report.ensures.bytes) none

pub loop-i-preserved : goal.loop-i-preserved
loop-i-preserved c =
    let ls = c.deref-line-items.result.now in
    let i = c.loop-i.i in
    subst (AllAnswered 1 (take (i + 1) ls)) (sym (pushed c.as_str.result.now refl c.in_ok-push_str.was c.push_str.ensures.bytes ∙ ap (λ y. string_bytes c.loop-i.report ++ y) c.as_str.ensures.value))
    (answered_turn ls i _ (string_bytes c.loop-i.report) _ c.loop-i-test.true c.loop-i.invariant c.in_ok-answer.ensures)

pub returns : goal.returns
returns c =
    let ls = c.deref-line-items.result.now in
    the_report _ _ (answered c.if-book-gt-BOOK_LIMIT.false ls (subst (LinesOf c.args.book.now) (sym c.deref-line-items.ensures.value) c.in_ok-found.ensures.0)
    (subst (λ x. AllAnswered 1 x (string_bytes c.loop-i.report)) (take_all c.loop-i.i ls c.loop-i-test.false) c.loop-i.invariant))

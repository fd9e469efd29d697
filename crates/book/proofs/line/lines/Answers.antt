use Rattle.std.proofs.Common.{sym, subst}
use Rattle.book.proofs.OneCut.{same_lines}
use Rattle.book.proofs.Splits.{Sofar, sofar_more, sofar_all}
use Rattle.book.proofs.line.lines.Goals as goal

pub loop-line-preserved : goal.loop-line-preserved
loop-line-preserved c =
    subst (λ ls. Sofar c.args.book.now ls c.in-Some.after.now) (sym c.in_ok-push.ensures.items)
    (sofar_more _ _ _ _ _ c.loop-line.invariant c.in-Some.ensures.0)

pub returns : goal.returns
returns c = let is = sofar_all _ _ _ c.in_default.ensures c.loop-line.invariant in (is, λ ms m. same_lines _ ms _ m is)

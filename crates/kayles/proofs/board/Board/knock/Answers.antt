use Rattle.std.proofs.Common.{◌≡◌, ◌+◌, ◌≤◌, length, Some, sym, refl, ap, ◌∙◌, arith}
use Rattle.std.proofs.lemmas.Bool.{false≢true}
use Rattle.std.specs.List.{slice_get}
use Rattle.kayles.specs.Boards.{length-pins}
use Rattle.kayles.specs.Play.{knocks, taking}
use Rattle.kayles.specs.Rows.{row}
use Rattle.kayles.proofs.Searching.{later, later_first, later_next, nth_end, nth_hit, nth_miss, nth_pass, numbered}
use Rattle.kayles.proofs.board.Board.knock.Goals as goal
use Rattle.kayles.proofs.board.Board.knock.Goals.{then-can_take+else-left-eq0, else-can_take}

pub search-init : goal.search-init
search-init c = (refl, ap (λ ks. slice_get ks c.args.number) (later_first (row c.args.self)))

pub loop-pins-preserved : goal.loop-pins-preserved
loop-pins-preserved c =
    let ps = row c.args.self in
    let i = c.search.pin in
    let n = c.loop-pins.pins in
    let high : i ≤ length ps = omega (arith, c.search-test.true, length-pins c.args.self.count c.args.self.standing) in
    let few : n ≤ 2 = omega (arith, c.loop-pins-test.true) in (
      c.loop-pins.invariant.0,
      elim c.if-can_take.branch [
        | then-can_take+else-left-eq0 w ↦
            ap (slice_get (later i (n + 1) ps)) w.left-is
            ∙ nth_pass ps i n c.search.auto.pin high c.loop-pins.auto.pins few c.loop-pins.left (c.can_take.ensures.0 w.if-can_take.true) w.if-left-eq0.false
            ∙ c.loop-pins.invariant.1
        | else-can_take w ↦
            ap (slice_get (later i (n + 1) ps)) w.left-is
            ∙ nth_miss ps i n c.search.auto.pin high c.loop-pins.auto.pins few c.loop-pins.left (λ k. false≢true (sym w.if-can_take.false ∙ c.can_take.ensures.1 k))
            ∙ c.loop-pins.invariant.1
      ],
    )

pub search-preserved : goal.search-preserved
search-preserved c =
    (c.loop-pins.invariant.0, ap (λ ks. slice_get ks c.loop-pins.left) (later_next c.search.pin c.loop-pins.pins (row c.args.self) (omega arith) (omega arith)) ∙ c.loop-pins.invariant.1)

pub returns-after-search : goal.returns-after-search
returns-after-search c =
    let ps = row c.args.self in
    let e = c.search.invariant.0 ∙ sym (nth_end c.search.pin c.search.left ps (omega (arith, c.search-test.false, length-pins c.args.self.count c.args.self.standing))) ∙ c.search.invariant.1 in
    record { listed = e; numbered = numbered ps c.args.number _ e }

pub returns-then-left-eq0 : goal.returns-then-left-eq0
returns-then-left-eq0 c =
    let ps = row c.args.self in
    let i = c.search.pin in
    let n = c.loop-pins.pins in
    let high : i ≤ length ps = omega (arith, c.search-test.true, length-pins c.args.self.count c.args.self.standing) in
    let e : Some (taking i n) ≡ slice_get (knocks ps) c.args.number =
    nth_hit ps i n c.search.auto.pin high c.loop-pins.auto.pins (omega (arith, c.loop-pins-test.true)) (c.can_take.ensures.0 c.if-can_take.true)
    ∙ ap (slice_get (later i n ps)) (sym c.if-left-eq0.true)
    ∙ c.loop-pins.invariant.1 in
    record { listed = e; numbered = numbered ps c.args.number _ e }

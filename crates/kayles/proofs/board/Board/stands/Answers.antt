use Rattle.std.proofs.lemmas.Bool.{false≢true}
use Rattle.std.proofs.Common.{subst, ⊎_elim, arith}
use Rattle.kayles.specs.Rows.{Stands, row}
use Rattle.kayles.specs.Boards.{length-pins}
use Rattle.kayles.proofs.Stretches.{no_pin_0, none_past, bit_stands, stands_bit}
use Rattle.kayles.proofs.board.Board.stands.Goals as goal

pub returns-then-pin-eq0 : goal.returns-then-pin-eq0
returns-then-pin-eq0 c =
    let b = c.args.self in
    let none = ⊎_elim (λ e. λ s. no_pin_0 (row b) (subst (Stands (row b)) e s)) (λ h. none_past (row b) c.args.pin (omega (arith, h.1, length-pins b.count b.standing))) c.then-pin-eq0.either in
    (λ e. absurd (false≢true e), λ s. absurd (none s))

pub returns : goal.returns
returns c =
    let b = c.args.self in
    (bit_stands b.count b.standing c.args.pin (omega arith) c.if-pin-self.false, stands_bit b.count b.standing c.args.pin (omega arith) c.if-pin-self.false)

use Rattle.std.proofs.Common.{length, subst, arith}
use Rattle.std.proofs.lemmas.Result.{err_from_is_err_and}
use Rattle.kayles.specs.Rows.{row}
use Rattle.kayles.specs.Boards.{row_few}
use Rattle.book.specs.BoardLines.{Wrong}
use Rattle.book.proofs.Spelling.{first_wrong}
use Rattle.book.proofs.reader.read_board.Goals as goal

pub returns-in_err-board : goal.returns-in_err-board
returns-in_err-board c =
    let p = err_from_is_err_and c.from_residual.result c.from_residual.ensures.1 in
    let w = c.in_err-board.ensures in
    rw (p.1, p.2) (first_wrong c.args.text.now c.loop-at.at (row c.loop-at.board) c.loop-at.invariant _ c.args.skipped _ c.loop-at-test.true (row_few c.loop-at.board) (subst (λ b. Wrong (length (row c.loop-at.board)) b c.in_err-board.field-0.0.fault) c.board_token.ensures.byte w.0) (omega (arith, w.1, c.board_token.ensures.column)))

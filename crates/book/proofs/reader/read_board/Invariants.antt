use Rattle.std.proofs.Common.{◌≡◌, map, take}
use Rattle.kayles.specs.Rows.{row}
use Rattle.book.specs.Letters.{letter}
use Rattle.book.proofs.reader.read_board.Given as goal

-- the bytes so far show the board so far
abbrev pub invariant-loop-at : goal.invariant-loop-at
invariant-loop-at l = take l.at l.text ≡ map letter (row l.board)

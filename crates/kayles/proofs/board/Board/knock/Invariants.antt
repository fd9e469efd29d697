use Rattle.std.proofs.Common.{◌≡◌, None}
use Rattle.std.specs.List.{slice_get}
use Rattle.kayles.specs.Play.{knocks}
use Rattle.kayles.specs.Rows.{row}
use Rattle.kayles.proofs.Searching.{later}
use Rattle.kayles.proofs.board.Board.knock.Given as goal

abbrev pub invariant-search : goal.invariant-search
invariant-search l = (l.hit ≡ None) × (slice_get (later l.pin 1 (row l.self)) l.left ≡ slice_get (knocks (row l.self)) l.number)

abbrev pub invariant-loop-pins : goal.invariant-loop-pins
invariant-loop-pins l = (l.hit ≡ None) × (slice_get (later l.pin l.pins (row l.self)) l.left ≡ slice_get (knocks (row l.self)) l.number)

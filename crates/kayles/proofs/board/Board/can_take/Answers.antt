use Rattle.kayles.proofs.Taking.{decides_knock}
use Rattle.kayles.proofs.board.Board.can_take.Goals as goal

pub returns : goal.returns
returns c = let h = c.requires in decides_knock c.args.self c.args.k _ h.first h.on_board h.some h.few c.mask_of-wanted.ensures

use Rattle.std.proofs.Common.{rules}
use Rattle.search.specs.Bare.{bare, bare_after, bare_from, bare_moves, bare_within}
use Rattle.search.specs.Minimax.{best_to, first_to, move, worth, worth_by, worth_within}
use Rattle.stones.proofs.game.examples_right.Goals as goal

pub returns : goal.returns
unfolding bare bare_after bare_from bare_moves bare_within best_to first_to move worth worth_by worth_within
returns c = search rules

use Rattle.std.proofs.Common.{refl}
use Rattle.kayles.specs.Boards.{mask}
use Rattle.kayles.specs.Play.{fallen, fallen_after, front, knocks, knocks_from, left_by, offered}
use Rattle.kayles.specs.Rows.{pins, upright}
use Rattle.search.specs.Bare.{bare, bare_moves, bare_within}
use Rattle.search.specs.Minimax.{best_to, first_to, move, worth, worth_by, worth_within}
use Rattle.examples.proofs.examples_right.Goals as goal

pub returns : goal.returns
unfolding bare bare_moves bare_within best_to fallen fallen_after first_to front knocks knocks_from left_by mask move offered pins upright worth worth_by worth_within
returns c = record { worth_0 = refl; worth_X = refl; worth_X_X = refl; best_XX = refl; best_XXX = refl; best_XX_XX = refl; bare_X = refl; bare_X_X = refl }

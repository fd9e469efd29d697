-- The table is the rule, which the check computes entry by entry.
use Rattle.std.proofs.Common.{arith}
use Rattle.std.proofs.lemmas.List.FromFn.{get_or-map-range_with_len}
use Rattle.kayles.specs.Tallies.{place, unit}
use Rattle.kayles.proofs.tally.unit_of.Goals as goal

pub returns : goal.returns
unfolding place
returns c = get_or-map-range_with_len unit 0 33 c.args.len c.args.len 0 (omega (arith, c.requires)) (omega arith)

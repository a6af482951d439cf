use mathlib.Core.Bool.{true}
use lib.ListN.{replicate}
use Rattle.ways.specs.Address.{line_count}
use Rattle.directory.specs.Steps.{reset_keeping, after_flush}
use Rattle.directory.proofs.in_place.reset_in_place.Goals as goal

pub returns : goal.returns
unfolding reset_keeping after_flush
returns c ranges = c.flush_in_place.ensures (replicate line_count 0) true true ranges

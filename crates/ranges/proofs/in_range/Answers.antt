use Prim.Native.Nat.{◌*◌, ◌/◌}
use Rattle.ranges.specs.Ranges.{in_range}
use Rattle.ranges.proofs.Laws.{at_least}
use Rattle.ranges.proofs.in_range.Goals as goal

pub returns : goal.returns
unfolding in_range
returns c = rw (at_least c.args.start (c.args.address / 16 * 16))

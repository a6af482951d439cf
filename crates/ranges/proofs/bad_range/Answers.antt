use mathlib.Core.Path.{refl}
use Rattle.ranges.specs.Ranges.{bad_range}
use Rattle.ranges.proofs.bad_range.Goals as goal

pub returns : goal.returns
unfolding bad_range
returns c = refl

use mathlib.Core.Path.{refl}
use Rattle.directory.specs.Steps.{with_ranges}
use Rattle.directory.proofs.steps.Directory.with_ranges.Goals as goal

pub returns : goal.returns
unfolding with_ranges
returns c = refl

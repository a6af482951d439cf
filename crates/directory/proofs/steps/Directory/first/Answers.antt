use mathlib.Core.Path.{refl}
use Rattle.directory.specs.Steps.{reset_keeping}
use Rattle.directory.proofs.steps.Directory.first.Goals as goal

pub returns : goal.returns
unfolding reset_keeping
returns c = refl

use mathlib.Core.Path.{refl}
use Rattle.directory.specs.Steps.{after_control}
use Rattle.directory.proofs.steps.Directory.with_control.Goals as goal

pub returns : goal.returns
unfolding after_control
returns c = refl

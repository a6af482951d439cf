use mathlib.Core.Path.{refl}
use Rattle.directory.specs.Steps.{after_flush}
use Rattle.directory.proofs.in_place.flush_in_place.Goals as goal

pub returns : goal.returns
unfolding after_flush
returns c tags cd nw ranges = refl

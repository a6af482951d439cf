use mathlib.Core.Path.{refl}
use Rattle.directory.specs.Steps.{with_line}
use Rattle.directory.proofs.in_place.line_in_place.Goals as goal

pub returns : goal.returns
unfolding with_line
returns c lru cd nw ranges = refl

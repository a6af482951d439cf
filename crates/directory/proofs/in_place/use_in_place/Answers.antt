use Rattle.directory.specs.Steps.{after_use}
use Rattle.directory.proofs.in_place.use_in_place.Goals as goal

pub returns : goal.returns
unfolding after_use
returns c tags valid cd nw ranges = rw c.lru_after.ensures

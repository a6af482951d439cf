use Rattle.directory.proofs.steps.Directory.snooped.Goals as goal

pub returns : goal.returns
returns c = c.invalidate_in_place.ensures _ _ _

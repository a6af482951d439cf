use Rattle.directory.proofs.steps.Directory.used.Goals as goal

pub returns : goal.returns
returns c = c.use_in_place.ensures _ _ _ _ _

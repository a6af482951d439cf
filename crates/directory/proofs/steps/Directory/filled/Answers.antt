use Rattle.directory.proofs.steps.Directory.filled.Goals as goal

pub returns : goal.returns
returns c = c.fill_in_place.ensures _ _ _

use Rattle.directory.proofs.steps.Directory.flushed.Goals as goal

pub returns : goal.returns
returns c = c.flush_in_place.ensures _ _ _ _

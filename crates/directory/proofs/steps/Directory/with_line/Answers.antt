use Rattle.directory.proofs.steps.Directory.with_line.Goals as goal

pub returns : goal.returns
returns c = c.line_in_place.ensures _ _ _ _

use Rattle.doubleword.proofs.change.changed_by.Goals as goal

pub returns : goal.returns
returns c = let d = c.args.directory in c.change_in_place.ensures d.cd d.nw d.ranges

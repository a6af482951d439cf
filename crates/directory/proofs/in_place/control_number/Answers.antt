use Rattle.directory.proofs.in_place.control_number.Goals as goal

pub returns-then-cd-nw : goal.returns-then-cd-nw
returns-then-cd-nw c = rw c.if-cd-nw.true

pub returns : goal.returns
returns c = rw c.if-cd-nw.false

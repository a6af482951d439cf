use Rattle.carrying.proofs.next.use_of.Goals as goal

pub returns-in-Some : goal.returns-in-Some
returns-in-Some c = cc

use Rattle.host.proofs.by_value.unit486_reset_by_value.Goals as goal

pub returns : goal.returns
returns c = rw (c.answered.ensures, c.reset.ensures)

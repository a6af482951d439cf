use Rattle.carrying_calls.proofs.by_value.read_carrying.Goals as goal

pub returns : goal.returns
returns c = rw c.with.ensures c.read_carrying_in_place-done.ensures

use Rattle.write_calls.proofs.by_value.write.Goals as goal

pub returns : goal.returns
returns c = rw c.with.ensures c.write_in_place-done.ensures

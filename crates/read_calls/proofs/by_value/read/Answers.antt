use Rattle.read_calls.proofs.by_value.read.Goals as goal

pub returns : goal.returns
returns c = rw c.with.ensures (c.read_in_place-done.ensures c.args.given.nw)

use Rattle.diagnostics.proofs.by_value.test_read.Goals as goal

pub returns : goal.returns
returns c =
    let a = c.args in
    rw (c.test_read_in_place-line.ensures a.given.nw a.given.ranges)

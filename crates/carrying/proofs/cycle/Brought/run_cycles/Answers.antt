use Rattle.carrying.proofs.Runs.{run_ends, run_goes}
use borrow.Author.Tests.{eq-eqb, ne_eqb}
use Rattle.carrying.proofs.cycle.Brought.run_cycles.Goals as goal

pub returns-then-done : goal.returns-then-done
returns-then-done c =
    let s = c.moved_count-size.ensures in
    run_ends _ _ _ _ _ _ _ _ _ _ _ _ _ c.requires.0 c.loop-carried.invariant c.land_due-now.ensures c.land_due-now.auto.ram c.land_due-now.auto.parity _ s.0 s.1 s.2 c.move_bytes-now.ensures c.move_bytes-now.auto.log c.move_bytes-now.auto.buffer (eq-eqb _ _ c.if-done.true)

pub loop-carried-preserved : goal.loop-carried-preserved
loop-carried-preserved c =
    let s = c.moved_count-size.ensures in
    run_goes _ _ _ _ _ _ _ _ _ _ _ _ _ c.requires.0 c.loop-carried.invariant c.land_due-now.ensures c.land_due-now.auto.ram c.land_due-now.auto.parity _ s.0 s.1 s.2 c.move_bytes-now.ensures c.move_bytes-now.auto.log c.move_bytes-now.auto.buffer (ne_eqb _ _ c.if-done.false)

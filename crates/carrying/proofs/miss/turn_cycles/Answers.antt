use Rattle.carrying.proofs.Misses.{turn_begin, turn_needs, turn_next, turn_end}
use lib.ListN.{length}
use mathlib.Core.Path.{ap}
use native.Mathlib.Omega.{arith}
use Rattle.carrying.proofs.miss.turn_cycles.Goals as goal

pub loop-turn-init : goal.loop-turn-init
loop-turn-init c = λ z y. turn_begin _ _ _ _ _ _ _ _ z _ _ _ _ y _ c.begin-now.ensures

pub run_cycles-now-requires : goal.run_cycles-now-requires
run_cycles-now-requires c =
    let p = c.requires in
    turn_needs _ _ _ _ _ _ _ _ p.0 _ _ _ _ p.2 (c.loop-turn.invariant p.0 p.2) c.loop-turn-test.true (ap length p.1)

pub loop-turn-preserved : goal.loop-turn-preserved
loop-turn-preserved c =
    λ z y. let e = c.run_cycles-now.ensures in let k = c.run_cycles-now.auto in turn_next _ _ _ _ _ _ _ _ z _ _ _ _ y (c.loop-turn.invariant z y)
    c.loop-turn-test.true e.0 e.2 k.ram k.parity k.log k.buffer

pub returns : goal.returns
returns c =
    let p = c.requires in
    rw p.1 at (turn_end _ _ _ _ _ _ _ _ p.0 _ _ _ _ p.2 (c.loop-turn.invariant p.0 p.2) (λ l. omega (arith, c.loop-turn-test.false)))

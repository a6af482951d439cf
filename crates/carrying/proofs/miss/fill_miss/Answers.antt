use Prim.Native.Nat.{◌*◌}
use native.Mathlib.Omega.{arith}
use Rattle.bus.specs.Bus.{burst}
use Rattle.bus.proofs.BurstOrder.{burst_length}
use Rattle.carrying.proofs.Misses.{four_turns_needs}
use Rattle.carrying.proofs.miss.fill_miss.Goals as goal

pub turn_cycles-requires : goal.turn_cycles-requires
turn_cycles-requires c =
    let p = c.requires in
    (p.0, p.1, rw c.burst_order-order.ensures (four_turns_needs c.args.start))

pub returns : goal.returns
unfolding burst
returns c =
    let e = rw c.burst_order-order.ensures at c.turn_cycles.ensures in
    let n = burst_length (c.args.start * 4) in
    (e.0, omega (arith, e.1), e.2)

use Prim.Native.Nat.{◌-◌}
use Rattle.memory.specs.Parity.{memory}
use Rattle.memory.proofs.Bits.{StoreInvariant}
use Rattle.memory.proofs.parity.store_each.Given as goal

abbrev pub invariant-loop-k : goal.invariant-loop-k
invariant-loop-k l = StoreInvariant l.src (memory l.initial.ram l.initial.parity) l.s l.a l.count (memory l.ram l.parity) l.k

abbrev pub decreases-loop-k : goal.decreases-loop-k
decreases-loop-k l = l.count - l.k

use Prim.Native.Nat.{◌-◌}
use mathlib.Core.Path.{◌≡◌}
use mathlib.Core.List.{[]}
use Rattle.memory.specs.Parity.{memory}
use Rattle.carried.specs.Carried.{landed}
use Rattle.carried.specs.CarriedCode.{writes_from}
use Rattle.carried.proofs.land.Given as goal

abbrev pub invariant-loop-k : goal.invariant-loop-k
invariant-loop-k l = memory l.ram l.parity ≡ landed [] (writes_from l.carried l.from (l.k - l.from)) (memory l.initial.ram l.initial.parity)

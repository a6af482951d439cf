use Prim.Native.Nat.{◌-◌}
use mathlib.Core.Path.{◌≡◌}
use Rattle.carried.specs.Carried.{in_line}
use Rattle.carried.specs.CarriedCode.{writes_from}
use Rattle.carried.proofs.any_in_line.Given as goal

abbrev pub invariant-loop-k : goal.invariant-loop-k
invariant-loop-k l = l.found ≡ in_line l.line (writes_from l.carried l.from (l.k - l.from))

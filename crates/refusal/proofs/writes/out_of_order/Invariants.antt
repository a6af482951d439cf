use mathlib.Core.Bool.{not, ◌||◌}
use mathlib.Core.Path.{◌≡◌}
use Prim.Native.Nat.{◌-◌}
use Rattle.carried.specs.CarriedCode.{carried_of, left_from}
use Rattle.refusal.specs.Refusal.{in_order}
use Rattle.refusal.proofs.writes.out_of_order.Given as goal

abbrev pub invariant-loop-k : goal.invariant-loop-k
invariant-loop-k l = (l.below || not (in_order (left_from l.carried (l.k - 1)))) ≡ not (in_order (carried_of l.carried))

use mathlib.Core.Bool.{◌||◌}
use mathlib.Core.Path.{◌≡◌}
use Rattle.carried.specs.CarriedCode.{carried_of, left_from}
use Rattle.refusal.specs.Refusal.{any_refused}
use Rattle.refusal.proofs.writes.any_refused.Given as goal

abbrev pub invariant-loop-k : goal.invariant-loop-k
invariant-loop-k l = (l.refused || any_refused l.ram (left_from l.carried l.k)) ≡ any_refused l.ram (carried_of l.carried)

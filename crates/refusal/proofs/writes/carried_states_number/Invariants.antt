use mathlib.Core.Path.{◌≡◌}
use Rattle.carried.specs.CarriedCode.{carried_of, left_from}
use Rattle.refusal.specs.Refusal.{carried_states_number_in}
use Rattle.refusal.proofs.writes.carried_states_number.Given as goal

abbrev pub invariant-loop-k : goal.invariant-loop-k
invariant-loop-k l = carried_states_number_in l.arrays.tags.now l.arrays.valid.now l.arrays.lru.now (left_from l.carried l.k) ≡ carried_states_number_in l.arrays.tags.now l.arrays.valid.now l.arrays.lru.now (carried_of l.carried)

use Prim.Native.Nat.{◌-◌}
use Rattle.parts.specs.Parts.{part_record}
use Rattle.parts.proofs.Records.{part_blind}
use Rattle.parts.proofs.Sized.{SizedInvariant}
use Rattle.parts.proofs.lanes.Transfer.sized_cycles.Given as goal

abbrev pub invariant-loop-self : goal.invariant-loop-self
invariant-loop-self l = SizedInvariant (part_record l.self) (part_blind l.self) l.answers l.lane l.count l.first l.initial.log l.lowest l.wanted l.used l.log

abbrev pub decreases-loop-self : goal.decreases-loop-self
decreases-loop-self l = 4 - l.used

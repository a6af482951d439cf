use Rattle.bus.specs.Record.{kind_flag}
use Rattle.carrying.proofs.Misses.{TurnLoop}
use Rattle.carrying.specs.CarryingCode.{MissNeeds, TurnNeeds}
use lib.ListN.{length}
use Prim.Native.Nat.{◌-◌}
use Rattle.carrying.proofs.miss.turn_cycles.Given as goal

abbrev pub invariant-loop-turn : goal.invariant-loop-turn
invariant-loop-turn l = (z : MissNeeds l.carried l.line l.first l.landed (length l.initial.ram) (length l.initial.parity) (length l.answers) (length l.initial.log)) (y : TurnNeeds l.order l.count) →
    TurnLoop l.initial.ram l.initial.parity l.answers l.initial.log l.carried l.line l.first l.landed z l.initial.buffer l.order l.count (kind_flag l.kind) y l.ram l.parity l.buffer l.log l.now l.turn

abbrev pub decreases-loop-turn : goal.decreases-loop-turn
decreases-loop-turn l = length l.order - l.turn

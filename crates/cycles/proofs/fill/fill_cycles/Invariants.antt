use Prim.Native.Nat.{◌-◌}
use Rattle.memory.specs.Parity.{memory}
use Rattle.bus.specs.Record.{read_record, fill_kind}
use Rattle.cycles.proofs.Loops.{FillInvariant}
use Rattle.cycles.proofs.fill.fill_cycles.Given as goal

abbrev pub invariant-loop-turn : goal.invariant-loop-turn
invariant-loop-turn l = FillInvariant (read_record fill_kind (memory l.ram l.parity) l.line) l.answers l.start l.first l.initial.log l.turn l.used l.log

abbrev pub decreases-loop-turn : goal.decreases-loop-turn
decreases-loop-turn l = 4 - l.turn

use Rattle.bus.specs.Record.{kind_flag}
use Rattle.carrying.proofs.Runs.{RunLoop}
use Rattle.carrying.proofs.cycle.Brought.run_cycles.Given as goal

abbrev pub invariant-loop-carried : goal.invariant-loop-carried
invariant-loop-carried l = RunLoop l.initial.ram l.initial.parity l.answers l.initial.buffer l.initial.log l.carried l.line l.from l.count (kind_flag l.kind) l.last l.first l.initial.now l.ram l.parity l.buffer l.log l.now l.next l.left

abbrev pub decreases-loop-carried : goal.decreases-loop-carried
decreases-loop-carried l = l.left

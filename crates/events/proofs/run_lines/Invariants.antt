use lib.ListN.{length}
use Rattle.memory.specs.Parity.{memory}
use Rattle.refusal.specs.Call.{state}
use Rattle.events.proofs.Rest.{RunInvariant}
use Rattle.events.proofs.run_lines.Given as goal

abbrev pub invariant-loop-line : goal.invariant-loop-line
invariant-loop-line l = RunInvariant l.table l.input l.initial.output l.from (state l.directory (memory l.ram l.parity) l.data) l.output l.rest l.event l.at

abbrev pub decreases-loop-line : goal.decreases-loop-line
decreases-loop-line l = length l.rest

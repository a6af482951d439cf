use Rattle.carried.proofs.Writes.{DueTo}
use Rattle.carried.proofs.due_end.Given as goal

abbrev pub invariant-loop-to : goal.invariant-loop-to
invariant-loop-to l = DueTo l.carried l.from l.made l.to

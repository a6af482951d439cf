use Rattle.carried.specs.Carried.{in_line}
use Rattle.carried.proofs.Writes.{writes_none, in_line_more}
use Rattle.carried.proofs.any_in_line.Goals as goal

pub loop-k-init : goal.loop-k-init
unfolding in_line
loop-k-init c = rw (writes_none c.args.carried c.args.from)

pub loop-k-preserved : goal.loop-k-preserved
loop-k-preserved c = in_line_more _ _ _ _ _ c.loop-k.auto.k c.loop-k.invariant

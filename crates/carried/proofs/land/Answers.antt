use Rattle.carried.specs.Carried.{landed}
use Rattle.carried.proofs.Writes.{writes_none, land_next}
use Rattle.carried.proofs.land.Goals as goal

pub loop-k-init : goal.loop-k-init
unfolding landed
loop-k-init c = rw (writes_none c.args.carried c.args.from)

pub loop-k-preserved : goal.loop-k-preserved
loop-k-preserved c = land_next _ _ _ _ _ c.loop-k.auto.k (rw c.loop-k.invariant at c.store_bytes.ensures)

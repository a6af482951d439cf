use native.Mathlib.Omega.{arith}
use Rattle.memory.proofs.Bits.{storing_begin, storing_next, storing_end}
use Rattle.memory.proofs.parity.store_each.Goals as goal

pub loop-k-init : goal.loop-k-init
loop-k-init c = storing_begin _ _ _ _ _

pub loop-k-preserved : goal.loop-k-preserved
loop-k-preserved c =
    storing_next _ _ _ _ _ _ _ _ _ c.loop-k.invariant c.store_next-n.ensures.progress.1 c.store_next-n.ensures.bytes_stored

pub shape_of-ram : goal.shape_of-ram
shape_of-ram c = c.loop-k.invariant.ram

pub shape_of-parity : goal.shape_of-parity
shape_of-parity c = c.loop-k.invariant.parity

pub returns : goal.returns
returns c = storing_end _ _ _ _ _ _ _ c.loop-k.invariant (omega arith)

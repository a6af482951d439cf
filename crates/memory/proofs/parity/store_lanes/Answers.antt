use native.Mathlib.Omega.{arith}
use Rattle.memory.specs.Parity.{memory}
use Rattle.memory.proofs.Stores.{bits_below, lanes_stored}
use Rattle.memory.proofs.parity.store_lanes.Goals as goal

pub with_bits-requires : goal.with_bits-requires
with_bits-requires c = (c.requires.0, c.requires.1, rw c.value_bits-bits.ensures (bits_below _))

pub returns : goal.returns
returns c =
    let a = c.args in
    rw (c.with_bits.ensures, c.put_lanes.ensures)
    (lanes_stored (memory _ _) a.base a.lane a.count a.word _ c.requires.0 c.requires.1 c.requires.2 (omega (arith, c.requires.4)) c.requires.5 c.value_bits-bits.ensures)

use Rattle.memory.proofs.Bits.{four_stored}
use Rattle.memory.specs.Parity.{memory}
use native.Mathlib.Omega.{arith}
use Rattle.memory.proofs.parity.store_doubleword.Goals as goal

pub returns : goal.returns
returns c = rw c.copy_bytes.ensures (four_stored (memory _ _) _ _ _ _ c.requires.0 (omega (arith, c.requires.3)) c.dp_bits-bits.ensures)

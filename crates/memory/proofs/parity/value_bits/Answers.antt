use native.Mathlib.Omega.{arith}
use Rattle.words.specs.Bytes.{bytes_of}
use Rattle.memory.specs.Parity.{dps_of}
use Rattle.memory.proofs.parity.value_bits.Goals as goal

pub returns : goal.returns
unfolding bytes_of dps_of
returns c = rw (c.dp_bits.ensures, c.bytes_of-b.ensures) (omega arith)

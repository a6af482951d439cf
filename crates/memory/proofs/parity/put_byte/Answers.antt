use Prim.Native.Nat.{◌%◌}
use native.Mathlib.Omega.{arith}
use Rattle.memory.specs.Parity.{put, with_dp}
use Rattle.memory.proofs.Bits.{bit_placed}
use Rattle.memory.proofs.parity.put_byte.Goals as goal

pub with_bits-requires : goal.with_bits-requires
with_bits-requires c =
    let e = bit_placed c.dp_bit.result (c.args.a % 4) c.dp_bit.ensures.1 (omega arith) in
    (omega arith, omega arith, rw e.0 e.1)

pub returns : goal.returns
unfolding put with_dp
returns c =
    let e = bit_placed c.dp_bit.result (c.args.a % 4) c.dp_bit.ensures.1 (omega arith) in
    rw (c.with_bits.ensures, e.0, c.dp_bit.ensures.0)

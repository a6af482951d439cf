use Prim.Native.Nat.{◌*◌, ◌/◌, ◌%◌, ◌^◌}
use native.Mathlib.Omega.{arith}
use native.Mathlib.Nat.{mod-le, div-le_self}
use Rattle.words.specs.Bytes.{lanes_value}
use Rattle.words.proofs.Numbers.{byte_powers}
use Rattle.words.proofs.Parts.{one_shifted}
use Rattle.words.proofs.lanes.lanes_value.Goals as goal

pub overflow_cast-result : goal.overflow_cast-result
overflow_cast-result c = omega (arith, mod-le (c.args.word / 2 ^ (8 * c.args.lane)) (1 * 2 ^ (8 * c.args.count) % 2 ^ 64), div-le_self c.args.word (2 ^ (8 * c.args.lane)))

pub returns : goal.returns
unfolding lanes_value
returns c = rw (one_shifted c.args.count (omega arith), byte_powers c.args.lane)

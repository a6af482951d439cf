use Prim.Native.Nat.{ℕ, ◌%◌}
use mathlib.Core.Path.{ap}
use native.Mathlib.Omega.{arith}
use borrow.Author.Rules.{rules}
use Rattle.memory.specs.Parity.{dp_of}
use Rattle.memory.proofs.Bits.{ones_is}
use Rattle.memory.proofs.parity.dp_bit.Goals as goal

pub returns : goal.returns
unfolding dp_of
returns c = (ap (λ (n : ℕ). n % 2) (ones_is 8 _ (search rules)), omega arith)

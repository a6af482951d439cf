use Prim.Native.Nat.{◌-◌}
use mathlib.Core.Path.{◌≡◌, ◌∙◌}
use native.Mathlib.Omega.{arith}
use lib.ListN.{length-set}
use Rattle.words.specs.Bytes.{bytes_at}
use Rattle.words.proofs.Moves.{copy_next}
use Rattle.words.proofs.bytes.copy_each.Goals as goal

pub loop-k-preserved : goal.loop-k-preserved
loop-k-preserved c = let l = c.loop-k in (length-set l.dst _ _ ∙ l.invariant.0, copy_next _ _ _ _ _ _ (omega arith) ∙ l.invariant.1)

pub returns : goal.returns
unfolding bytes_at
returns c = let e : c.args.count - c.loop-k.k ≡ 0 = omega arith in rw e at c.loop-k.invariant.1

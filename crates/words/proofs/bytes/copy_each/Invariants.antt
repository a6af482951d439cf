use Prim.Native.Nat.{◌+◌, ◌-◌}
use mathlib.Core.Path.{◌≡◌}
use lib.ListN.{length}
use lib.Seq.{sets}
use Rattle.words.specs.Bytes.{bytes_at}
use Rattle.words.proofs.bytes.copy_each.Given as goal

abbrev pub invariant-loop-k : goal.invariant-loop-k
invariant-loop-k l = (length l.dst ≡ length l.initial.dst) × (sets l.dst (l.d + l.k) (bytes_at l.src (l.s + l.k) (l.count - l.k)) ≡ sets l.initial.dst l.d (bytes_at l.src l.s l.count))

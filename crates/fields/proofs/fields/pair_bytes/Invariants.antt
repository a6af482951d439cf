use Rattle.std.proofs.Common.{◌≡◌, ◌*◌, length, drop}
use lib.Seq.{sets}
use Rattle.fields.specs.Fields.{pair_bytes}
use Rattle.fields.proofs.fields.pair_bytes.Given as goal

abbrev pub invariant-loop-k : goal.invariant-loop-k
invariant-loop-k l = (length l.bytes ≡ length l.initial.bytes) × (sets l.bytes l.k (pair_bytes (drop (2 * l.k) l.field)) ≡ sets l.initial.bytes 0 (pair_bytes l.field))

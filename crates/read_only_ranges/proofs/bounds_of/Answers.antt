use Prim.Native.Nat.{ℕ, ◌+◌, ◌≤◌}
use mathlib.Core.List.{List, ◌++◌}
use mathlib.Core.Path.{◌≡◌, sym}
use native.Mathlib.Omega.{arith}
use lib.ListN.{length, drop, replicate}
use lib.Seq.{sets, sets-eq}
use Rattle.read_only_ranges.proofs.bounds_of.Goals as goal

-- words put at the start, and what they leave
put_first : (words l : List ℕ) → length words ≤ length l → sets l 0 words ≡ words ++ drop (length words) l
put_first words l h = let e : 0 + length words ≡ length words = omega arith in rw e at (sets-eq words l 0 (omega arith))

pub returns : goal.returns
returns c = rw c.copy_from_slice.ensures.after (sym (put_first c.args.ranges.now (replicate 16 0) c.requires))

use Prim.Native.Nat.{ℕ, ◌<◌}
use mathlib.Core.Path.{◌≡◌}
use lib.ListN.{length, get_or}
use Rattle.ranges.specs.Ranges.{kept_ranges, ranges_of}
use Rattle.carried.proofs.Taken.{length_taken}
use Rattle.carried.proofs.taken_writes.Given as goal

abbrev pub invariant-loop-k : goal.invariant-loop-k
invariant-loop-k l = (length l.lengths ≡ 4) × ((j : ℕ) → j < l.k → get_or l.lengths j 0 ≡ length_taken (ranges_of (kept_ranges l.ranges)) l.carried j)

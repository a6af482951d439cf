use Prim.Native.Nat.{ℕ, ◌<◌}
use mathlib.Core.Path.{◌≡◌, refl, sym}
use native.Mathlib.Omega.{arith}
use lib.ListN.{length, length-set}
use Rattle.std.proofs.lemmas.List.Edits.{fill_by_more}
use Rattle.ranges.specs.Ranges.{ranges_of, ranges_in}
use Rattle.carried.proofs.Taken.{taken_everywhere, length_taken, taken_carried, taken_needs}
use Rattle.carried.proofs.taken_writes.Goals as goal

pub returns-then-ranges-eq0 : goal.returns-then-ranges-eq0
unfolding ranges_of ranges_in
returns-then-ranges-eq0 c = let e : c.args.ranges.count ≡ 0 = omega arith in rw e (refl, sym (taken_everywhere _), λ ram parity z. z)

pub loop-k-preserved : goal.loop-k-preserved
loop-k-preserved c =
    let lengths = c.loop-k.lengths in
    let place : c.loop-k.k < length lengths = omega (arith, c.loop-k.invariant.0) in
    (rw length-set c.loop-k.invariant.0, rw c.taken_length.ensures (fill_by_more (length_taken _ c.args.carried) lengths c.loop-k.k 0 place c.loop-k.invariant.1))

pub returns : goal.returns
returns c =
    let each = λ (j : ℕ) (h : j < 4). c.loop-k.invariant.1 j (omega arith) in
    (refl, taken_carried _ _ _ c.requires each, taken_needs _ _ _ c.requires each)

use Prim.Native.Nat.{ℕ, ◌*◌, ◌^◌, ◌<◌}
use mathlib.Core.Path.{◌≡◌}
use mathlib.Core.Bool.{Bool, ◌||◌}
use lib.ListN.{drop}
use Rattle.std.specs.List.{list_any}
use Rattle.ranges.specs.Ranges.{Range, range, ranges_in}
use Rattle.ranges.proofs.any_range.Given as goal

abbrev pub invariant-loop-pair : goal.invariant-loop-pair
invariant-loop-pair g l =
    (p : Range → Bool) → ((start size : ℕ) (hit : Bool) → start < 2 ^ 32 → size < 2 ^ 32 → g.F.Fn.post l.test (start, (size, tt)) hit → hit ≡ p (range start size))
    → (l.found || list_any p (ranges_in (drop (2 * l.pair-index) l.words))) ≡ list_any p (ranges_in l.words)

use mathlib.Core.List.{List}
use mathlib.Core.Bool.{Bool}
use mathlib.Core.Path.{◌≡◌}
use Prim.Native.Nat.{ℕ}
use Rattle.ranges.specs.declared.Ranges.{Ranges}
use Rattle.directory.specs.Steps.{directory_of}
use Rattle.carrying_calls.specs.CarryingCalls.{snooped_to}
use Rattle.carrying_calls.proofs.in_place.snoop_in_place.Given as goal

abbrev pub invariant-loop-k : goal.invariant-loop-k
invariant-loop-k l = (lru : List ℕ) (cd : Bool) (ranges : Ranges) → directory_of l.tags l.valid lru cd l.nw ranges ≡ snooped_to l.carried l.from l.k (directory_of l.tags l.initial.valid lru cd l.nw ranges)

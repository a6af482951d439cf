use Prim.Native.Nat.{ℕ}
use mathlib.Core.Path.{◌≡◌}
use mathlib.Core.Bool.{Bool, ◌||◌}
use mathlib.Core.List.{List}
use Rattle.ways.specs.State.{same_pair, same_tags}
use Rattle.ways.proofs.state.same_tags.Goals as goal

-- the six pairs of ways
pairs : (tags : List ℕ) (valid : List Bool) (set : ℕ) {pair1 pair2 pair3 pair4 pair5 pair6 : Bool} →
    pair1 ≡ same_pair tags valid set 0 1 → pair2 ≡ same_pair tags valid set 0 2 → pair3 ≡ same_pair tags valid set 0 3 →
    pair4 ≡ same_pair tags valid set 1 2 → pair5 ≡ same_pair tags valid set 1 3 → pair6 ≡ same_pair tags valid set 2 3 →
    pair1 || pair2 || pair3 || pair4 || pair5 || pair6 ≡ same_tags tags valid set
unfolding same_tags
pairs tags valid set e1 e2 e3 e4 e5 e6 = rw (e1, e2, e3, e4, e5, e6)

pub returns : goal.returns
returns c = pairs _ _ _ c.same_pair.ensures c.same_pair-2.ensures c.same_pair-3.ensures c.same_pair-4.ensures c.same_pair-5.ensures c.same_pair-6.ensures

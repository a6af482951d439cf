use Prim.Native.Nat.{ℕ}
use mathlib.Core.Path.{◌≡◌, ◌∙◌}
use mathlib.Core.Bool.{Bool}
use mathlib.Core.List.{List}
use Rattle.ways.specs.Address.{set_of, tag_of}
use Rattle.ways.specs.Ways.{holds, lookup_in, lowest}
use Rattle.ways.proofs.ways.lookup.Goals as goal

-- the four tests, at the set and the tag of the address
tests : (tags : List ℕ) (valid : List Bool) (address set tag : ℕ) {test0 test1 test2 test3 : Bool} → set ≡ set_of address → tag ≡ tag_of address →
    test0 ≡ holds tags valid set 0 tag → test1 ≡ holds tags valid set 1 tag → test2 ≡ holds tags valid set 2 tag → test3 ≡ holds tags valid set 3 tag →
    lowest test0 test1 test2 test3 ≡ lookup_in tags valid address
unfolding lookup_in
tests tags valid address set tag es et e0 e1 e2 e3 = rw (e0, e1, e2, e3, es, et)

pub returns : goal.returns
returns c = c.lowest_way.ensures ∙ tests _ _ _ _ _ c.set_of-set.ensures c.tag_of-tag.ensures c.holds_tag.ensures c.holds_tag-2.ensures c.holds_tag-3.ensures c.holds_tag-4.ensures

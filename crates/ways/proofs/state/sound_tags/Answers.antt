use Prim.Native.Nat.{ℕ}
use mathlib.Core.Path.{◌≡◌}
use mathlib.Core.Bool.{Bool, true, false, not, ◌&&◌, and-false}
use mathlib.Core.List.{List}
use lib.Dec.{eqb, leb}
use borrow.Author.Tests.{not-true, leb-true, le-ltb}
use Rattle.laws.proofs.Tests.{both}
use Rattle.ways.specs.Ways.{tag_in}
use Rattle.ways.specs.State.{same_pair, same_tags, tag_above, tags_above}
use Rattle.ways.proofs.state.sound_tags.Goals as goal

-- where the four tags differ and are within the limit, no marks make a pair or a tag above it
module _ (tags : List ℕ) (valid : List Bool) (set : ℕ) where
  abbrev differ : ℕ → ℕ → Bool
  differ way other = not (eqb (tag_in tags set way) (tag_in tags set other))

  abbrev within : ℕ → Bool
  within way = leb (tag_in tags set way) 2097151

  no_pair : (way other : ℕ) → differ way other ≡ true → same_pair tags valid set way other ≡ false
  no_pair way other e = rw (not-true (eqb (tag_in tags set way) (tag_in tags set other)) e, and-false)

  not_above : (way : ℕ) → within way ≡ true → tag_above tags valid set way ≡ false
  not_above way e = rw (le-ltb 2097151 (tag_in tags set way) (leb-true _ _ e), and-false)

  no_pairs : (differ 0 1 && differ 0 2 && differ 0 3 && differ 1 2 && differ 1 3 && differ 2 3) ≡ true → same_tags tags valid set ≡ false
  unfolding same_tags
  no_pairs e =
      let p5 = both (differ 0 1 && differ 0 2 && differ 0 3 && differ 1 2 && differ 1 3) (differ 2 3) e in
      let p4 = both (differ 0 1 && differ 0 2 && differ 0 3 && differ 1 2) (differ 1 3) p5.0 in
      let p3 = both (differ 0 1 && differ 0 2 && differ 0 3) (differ 1 2) p4.0 in
      let p2 = both (differ 0 1 && differ 0 2) (differ 0 3) p3.0 in
      let p1 = both (differ 0 1) (differ 0 2) p2.0 in
      rw (no_pair 0 1 p1.0, no_pair 0 2 p1.1, no_pair 0 3 p2.1, no_pair 1 2 p3.1, no_pair 1 3 p4.1, no_pair 2 3 p5.1)

  none_above : (within 0 && within 1 && within 2 && within 3) ≡ true → tags_above tags valid set ≡ false
  unfolding tags_above
  none_above e =
      let p3 = both (within 0 && within 1 && within 2) (within 3) e in
      let p2 = both (within 0 && within 1) (within 2) p3.0 in
      let p1 = both (within 0) (within 1) p2.0 in
      rw (not_above 0 p1.0, not_above 1 p1.1, not_above 2 p2.1, not_above 3 p3.1)

  sound : (differ 0 1 && differ 0 2 && differ 0 3 && differ 1 2 && differ 1 3 && differ 2 3 && (within 0 && within 1 && within 2 && within 3)) ≡ true →
      (same_tags tags valid set ≡ false) × (tags_above tags valid set ≡ false)
  sound e =
      let p =
      both
      (differ 0 1 && differ 0 2 && differ 0 3 && differ 1 2 && differ 1 3 && differ 2 3)
      (within 0 && within 1 && within 2 && within 3)
      e in
      (no_pairs p.0, none_above p.1)

pub returns : goal.returns
returns c e valid =
    let a = c.args in
    let tag0 = c.tag_at-tag0.ensures in
    let tag1 = c.tag_at-tag1.ensures in
    sound a.tags.now valid a.set (rw (tag0, tag1, c.tag_at-tag2.ensures, c.tag_at-tag3.ensures) at e)

-- A set meets none of 21, 22 and 23 exactly where it is good.
use Prim.Native.Nat.{ℕ, ◌≤◌, ◌<◌}
use mathlib.Core.Path.{◌≡◌, refl, sym, ◌∙◌}
use mathlib.Core.Bool.{Bool, true, false, ◌&&◌}
use native.Mathlib.Omega.{arith}
use lib.Dec.{ltb}
use borrow.Author.Tests.{eqb-true, eq-eqb, ltb-true, ltb-false, le-ltb}
use Rattle.directory.specs.declared.steps.Directory.{Directory}
use Rattle.ways.specs.State.{same_pair, same_tags, tag_above, tags_above, first_number, state_number_in}
use Rattle.directory.specs.Steps.{valid_at, tag_at, lru_at, state_number_of}
use Rattle.directory.specs.WellFormed.{Held, SetApart, GoodSet, WellFormed}
use Rattle.laws.proofs.Below.{four}
use Rattle.laws.proofs.Tests.{both, neither, refuted, differ}
use Rattle.ways.proofs.FourWays.{six}

small : (n : ℕ) (b : Bool) → ltb 7 n ≡ b → first_number false false n ≡ 0 → n ≤ 7
unfolding first_number
small n true h z = let k : first_number false false n ≡ 23 = rw h in absurd (omega arith)
small n false h z = ltb-false _ _ h

number_zero : (same above : Bool) (n : ℕ) → first_number same above n ≡ 0 → (same ≡ false) × (above ≡ false) × (n ≤ 7)
unfolding first_number
number_zero true above n e = absurd (omega arith)
number_zero false true n e = absurd (omega arith)
number_zero false false n e = (refl, refl, small n (ltb 7 n) refl e)

module _ (d : Directory) (s : ℕ) where
  abbrev pair : ℕ → ℕ → Bool
  pair w v = same_pair d.tags d.valid s w v

  abbrev above : ℕ → Bool
  above w = tag_above d.tags d.valid s w

  pair_held : (w v : ℕ) → pair w v ≡ true → Held d s w (tag_at d s v) × Held d s v (tag_at d s v)
  pair_held w v e =
      let p = both (valid_at d s w && valid_at d s v) _ e in
      let q = both (valid_at d s w) _ p.0 in
      ((q.0, eqb-true _ _ p.1), (q.1, refl))

  held_pair : (w v tag : ℕ) → Held d s w tag → Held d s v tag → pair w v ≡ true
  held_pair w v tag h k = rw (h.0, k.0, eq-eqb _ _ (h.1 ∙ sym k.1))

  above_tag : (w : ℕ) → above w ≡ false → (tag : ℕ) → Held d s w tag → tag ≤ 2097151
  above_tag w e tag h =
      let k : ltb 2097151 (tag_at d s w) ≡ false = rw h.0 at e in rw (← h.1) (ltb-false _ _ k)

  tag_above_lem : (w : ℕ) → ((tag : ℕ) → Held d s w tag → tag ≤ 2097151) → above w ≡ false
  tag_above_lem w l =
      refuted _ λ e.
      let p = both (valid_at d s w) (ltb 2097151 (tag_at d s w)) e in
      let k = l (tag_at d s w) (p.0, refl) in
      let h = ltb-true 2097151 (tag_at d s w) p.1 in
      omega arith

  -- where no pair has one tag, a tag is held in one way only
  apart_pairs : same_tags d.tags d.valid s ≡ false → (w v : ℕ) → w < v → v < 4 → pair w v ≡ false
  unfolding same_tags
  apart_pairs e =
      let p23 = neither _ (pair 2 3) e in
      let p13 = neither _ (pair 1 3) p23.0 in
      let p12 = neither _ (pair 1 2) p13.0 in
      let p03 = neither _ (pair 0 3) p12.0 in
      let p02 = neither (pair 0 1) (pair 0 2) p03.0 in
      six (λ w v. pair w v ≡ false) p02.0 p02.1 p03.1 p12.1 p13.1 p23.1

  tri : (w v : ℕ) → (w < v → ⊥) → (v < w → ⊥) → w ≡ v
  tri w v n m = omega arith

  apart_held : same_tags d.tags d.valid s ≡ false → SetApart d s
  apart_held e w v tag l m h k =
      tri w v
      (λ o. differ (held_pair w v tag h k) (apart_pairs e w v o m))
      (λ o. differ (held_pair v w tag k h) (apart_pairs e v w o l))

  pub state_zero_good : state_number_of d s ≡ 0 → GoodSet d s
  unfolding state_number_in tags_above
  state_zero_good e =
      let n = number_zero _ _ (lru_at d s) e in
      let t3 = neither _ (above 3) n.1 in
      let t2 = neither _ (above 2) t3.0 in
      let t1 = neither (above 0) (above 1) t2.0 in
      record {
        apart = apart_held n.0;
        limits =
            record {
              tags = λ w tag l. four (λ w. (tag : ℕ) → Held d s w tag → tag ≤ 2097151) (above_tag 0 t1.0) (above_tag 1 t1.1) (above_tag 2 t2.1) (above_tag 3 t3.1) w l tag;
              lru = n.2;
            };
      }

  pub good_state_zero : GoodSet d s → state_number_of d s ≡ 0
  unfolding state_number_in first_number same_tags tags_above
  good_state_zero g =
      let same : (w v : ℕ) → w < v → v < 4 → pair w v ≡ false =
      λ w v l m. refuted _ λ e. let p = pair_held w v e in let k = g.apart w v _ (omega arith) m p.0 p.1 in omega arith in
      let low : (w : ℕ) → w < 4 → above w ≡ false = λ w l. tag_above_lem w λ tag. g.limits.tags w tag l in
      rw (
        same 0 1 (omega arith) (omega arith),
        same 0 2 (omega arith) (omega arith),
        same 0 3 (omega arith) (omega arith),
        same 1 2 (omega arith) (omega arith),
        same 1 3 (omega arith) (omega arith),
        same 2 3 (omega arith) (omega arith),
        low 0 (omega arith),
        low 1 (omega arith),
        low 2 (omega arith),
        low 3 (omega arith),
        le-ltb 7 (lru_at d s) g.limits.lru,
      )

-- no set of a well-formed directory meets one of them
pub well_formed_zero : (d : Directory) → WellFormed d → (s : ℕ) → s < 128 → state_number_of d s ≡ 0
well_formed_zero d g s l = good_state_zero d s (record { apart = g.apart.sets s l; limits = g.limits.sets s l })

-- The laws that the layer above works from: what a lookup finds before and after each step, and what each step keeps.
use Rattle.std.specs.Prelude.{Option, Some, None}
use Prim.Native.Nat.{ℕ, ◌^◌, ◌≤◌, ◌<◌}
use mathlib.Core.Path.{◌≡◌, refl, sym, ◌∙◌, ap}
use mathlib.Core.Bool.{Bool, true, false, cond, not, ◌&&◌}
use mathlib.Core.List.{List}
use mathlib.Core.Logic.{◌⊎◌, inl, inr, ⊎_elim}
use native.Mathlib.Omega.{arith}
use lib.Dec.{eqb}
use lib.ListN.{length, length-set, get_or-replicate}
use lib.Seq.{get_or-set_same, get_or-set_other}
use borrow.Author.Tests.{eqb-true, eq-eqb, ne_eqb, not-true, not-false}
use Rattle.directory.specs.declared.steps.Directory.{Directory}
use Rattle.ways.specs.Address.{set_of, tag_of, line_index}
use Rattle.ways.specs.Lru.{lru_after}
use Rattle.ways.specs.Ways.{holds, lookup_in}
use Rattle.directory.specs.declared.steps.Outcome.{Outcome}
use Rattle.directory.specs.Outcome.{outcome}
use Rattle.directory.specs.Steps.{directory_of, valid_at, tag_at, lru_at, lookup_of, state_number_of, after_use, with_line, after_fill, with_ranges, reset_keeping, no_ranges, first_reset, after_control, control_refused, control_call, after_flush, invalidated, after_snoop, snoop_call}
use Rattle.directory.specs.WellFormed.{Held, Same, SetApart, Sized, WithinLimits, Apart}
use Rattle.ranges.specs.declared.Ranges.{Ranges}
use Rattle.laws.proofs.Tests.{both, refuted, differ, cond_true, cond_false, by_test, same_or}
use Rattle.ways.proofs.FourWays.{lru_after_below, lowest_at, lowest_nothing, none_lowest, one_lowest}
use Rattle.directory.proofs.Lines.{same_line, stored_line, stored_other, fewer_limits, fewer_apart, none_limits, none_apart}

-- LOOKUP

abbrev tag_held : Directory → ℕ → ℕ → Bool
tag_held d a w = holds d.tags d.valid (set_of a) w (tag_of a)

held_test : (d : Directory) (a w : ℕ) → Held d (set_of a) w (tag_of a) → tag_held d a w ≡ true
held_test d a w h = rw (h.0, eq-eqb _ _ h.1)

test_held : (d : Directory) (a w : ℕ) → tag_held d a w ≡ true → Held d (set_of a) w (tag_of a)
test_held d a w e =
    let p = both (valid_at d (set_of a) w) (eqb (tag_at d (set_of a) w) (tag_of a)) e in
    (p.0, eqb-true _ _ p.1)

module _ (d : Directory) (a : ℕ) where
  -- what is found is held
  pub lookup_at : (w : ℕ) → lookup_of d a ≡ Some w → (w < 4) × Held d (set_of a) w (tag_of a)
  unfolding lookup_in
  lookup_at w e = let p = lowest_at (tag_held d a) w e in (p.0, test_held d a w p.1)

  -- where nothing is found, no way holds the address
  pub lookup_nothing : lookup_of d a ≡ None → (w : ℕ) → w < 4 → Held d (set_of a) w (tag_of a) → ⊥
  unfolding lookup_in
  lookup_nothing e w l h = differ (held_test d a w h) (lowest_nothing (tag_held d a) e w l)

  -- what is held in a set where no tag stands twice is found
  pub held_lookup : SetApart d (set_of a) → (w : ℕ) → w < 4 → Held d (set_of a) w (tag_of a) → lookup_of d a ≡ Some w
  unfolding lookup_in
  held_lookup g w l h =
      one_lowest (tag_held d a) w l (held_test d a w h) λ v m e. g v w (tag_of a) m l (test_held d a v e) h

  -- where no way holds the address, nothing is found
  pub none_lookup : ((w : ℕ) → w < 4 → Held d (set_of a) w (tag_of a) → ⊥) → lookup_of d a ≡ None
  unfolding lookup_in
  none_lookup n = none_lowest (tag_held d a) λ w l. refuted (tag_held d a w) λ e. n w l (test_held d a w e)

-- RESET

module _ (ranges : Ranges) where
  pub reset_none : (s w tag : ℕ) → s < 128 → w < 4 → Held (reset_keeping ranges) s w tag → ⊥
  unfolding reset_keeping
  reset_none s w tag sl wl h = differ h.0 (get_or-replicate 512 (line_index s w) false false (omega arith))

  pub reset_lookup : (a : ℕ) → lookup_of (reset_keeping ranges) a ≡ None
  reset_lookup a = none_lookup (reset_keeping ranges) a λ w l. reset_none (set_of a) w (tag_of a) (omega arith) l

  pub reset_control : ((reset_keeping ranges).cd ≡ true) × ((reset_keeping ranges).nw ≡ true)
  unfolding reset_keeping
  reset_control = (refl, refl)

  pub reset_ranges : (reset_keeping ranges).ranges ≡ ranges
  unfolding reset_keeping
  reset_ranges = refl

  pub reset_limits : WithinLimits (reset_keeping ranges)
  unfolding reset_keeping
  reset_limits =
      none_limits (reset_keeping ranges) reset_none (record { tags = refl; valid = refl; lru = refl })
      (λ s l. let e : lru_at (reset_keeping ranges) s ≡ 0 = get_or-replicate {A = ℕ} 128 s 0 0 l in omega arith)

  pub reset_apart : Apart (reset_keeping ranges)
  reset_apart = none_apart (reset_keeping ranges) reset_none

-- the first one, by its fields and no range
pub first_fields : directory_of first_reset.tags first_reset.valid first_reset.lru first_reset.cd first_reset.nw no_ranges ≡ first_reset
unfolding reset_keeping
first_fields = refl

-- RANGES: setting them changes nothing else

pub ranges_of_lem : (tags : List ℕ) (valid : List Bool) (lru : List ℕ) (cd nw : Bool) (old ranges : Ranges) →
    directory_of tags valid lru cd nw ranges ≡ with_ranges (directory_of tags valid lru cd nw old) ranges
unfolding with_ranges
ranges_of_lem tags valid lru cd nw old ranges = refl

module _ (d : Directory) (ranges : Ranges) where
  pub ranges_set_lem : (with_ranges d ranges).ranges ≡ ranges
  unfolding with_ranges
  ranges_set_lem = refl

  pub ranges_control : ((with_ranges d ranges).cd ≡ d.cd) × ((with_ranges d ranges).nw ≡ d.nw)
  unfolding with_ranges
  ranges_control = (refl, refl)

  pub ranges_lru : (r : ℕ) → lru_at (with_ranges d ranges) r ≡ lru_at d r
  unfolding with_ranges
  ranges_lru r = refl

  pub ranges_held : (r v tag : ℕ) → Held (with_ranges d ranges) r v tag → Held d r v tag
  unfolding with_ranges
  ranges_held r v tag h = h

  pub ranges_kept_lem : (r v tag : ℕ) → Held d r v tag → Held (with_ranges d ranges) r v tag
  unfolding with_ranges
  ranges_kept_lem r v tag h = h

  pub ranges_lookup : (a : ℕ) → lookup_of (with_ranges d ranges) a ≡ lookup_of d a
  unfolding with_ranges
  ranges_lookup a = refl

  pub ranges_sized : Sized d → Sized (with_ranges d ranges)
  unfolding with_ranges
  ranges_sized z = record { tags = z.tags; valid = z.valid; lru = z.lru }

  pub ranges_limits : WithinLimits d → WithinLimits (with_ranges d ranges)
  ranges_limits g =
      fewer_limits d _ (λ r v tag rl vl. ranges_held r v tag) (ranges_sized g.sized)
      (λ r rl. rw (ranges_lru r) (g.sets r rl).lru)
      g

  pub ranges_apart : Apart d → Apart (with_ranges d ranges)
  ranges_apart = fewer_apart d (with_ranges d ranges) (λ r v tag rl vl. ranges_held r v tag)

-- USE: no line changes, and one LRU number

module _ (d : Directory) (s w : ℕ) where
  pub use_held : (r v tag : ℕ) → Held (after_use d s w) r v tag → Held d r v tag
  unfolding after_use
  use_held r v tag h = h

  pub use_kept : (r v tag : ℕ) → Held d r v tag → Held (after_use d s w) r v tag
  unfolding after_use
  use_kept r v tag h = h

  pub use_lru : Sized d → s < 128 → lru_at (after_use d s w) s ≡ lru_after (lru_at d s) w
  unfolding after_use
  use_lru z sl = let l : s < length d.lru = rw z.lru sl in rw get_or-set_same

  pub use_lru_other : (r : ℕ) → (r ≡ s → ⊥) → lru_at (after_use d s w) r ≡ lru_at d r
  unfolding after_use
  use_lru_other r n = rw get_or-set_other

  pub use_lru_below : Sized d → s < 128 → w < 4 → (r : ℕ) → lru_at d r ≤ 7 → lru_at (after_use d s w) r ≤ 7
  use_lru_below z sl wl r h =
      same_or _ r s
      (λ e. let k = lru_after_below (lru_at d s) w wl in rw (e, use_lru z sl) (omega arith))
      (λ n. rw (use_lru_other r n) h)

  pub use_control : ((after_use d s w).cd ≡ d.cd) × ((after_use d s w).nw ≡ d.nw)
  unfolding after_use
  use_control = (refl, refl)

  pub use_ranges : (after_use d s w).ranges ≡ d.ranges
  unfolding after_use
  use_ranges = refl

pub use_sized : (d : Directory) → Sized d → (s w : ℕ) → Sized (after_use d s w)
unfolding after_use
use_sized d z s w = record { tags = z.tags; valid = z.valid; lru = rw length-set z.lru }

pub use_limits : (d : Directory) → WithinLimits d → (s w : ℕ) → s < 128 → w < 4 → WithinLimits (after_use d s w)
use_limits d g s w sl wl =
    fewer_limits d (after_use d s w) (λ r v tag rl vl. use_held d s w r v tag) (use_sized d g.sized s w)
    (λ r rl. use_lru_below d s w g.sized sl wl r (g.sets r rl).lru)
    g

pub use_apart : (d : Directory) → Apart d → (s w : ℕ) → Apart (after_use d s w)
use_apart d g s w = fewer_apart d (after_use d s w) (λ r v tag rl vl. use_held d s w r v tag) g

-- A LINE: one line gets a tag and a mark, every other stays as it was, and no LRU number changes

module _ (d : Directory) (s w tag : ℕ) (mark : Bool) where
  pub line_control : ((with_line d s w tag mark).cd ≡ d.cd) × ((with_line d s w tag mark).nw ≡ d.nw)
  unfolding with_line
  line_control = (refl, refl)

  pub line_ranges : (with_line d s w tag mark).ranges ≡ d.ranges
  unfolding with_line
  line_ranges = refl

  pub line_lru : (r : ℕ) → lru_at (with_line d s w tag mark) r ≡ lru_at d r
  unfolding with_line
  line_lru r = refl

  pub line_sized : Sized d → Sized (with_line d s w tag mark)
  unfolding with_line
  line_sized z = record { tags = rw length-set z.tags; valid = rw length-set z.valid; lru = z.lru }

  module _ (z : Sized d) (sl : s < 128) (wl : w < 4) where
    -- the line itself
    pub line_new : (valid_at (with_line d s w tag mark) s w ≡ mark) × (tag_at (with_line d s w tag mark) s w ≡ tag)
    unfolding with_line
    line_new = (stored_line d.valid mark false s w z.valid sl wl, stored_line d.tags tag 0 s w z.tags sl wl)

    line_other : (r v : ℕ) → v < 4 → (Same r v s w → ⊥) →
        (valid_at (with_line d s w tag mark) r v ≡ valid_at d r v) × (tag_at (with_line d s w tag mark) r v ≡ tag_at d r v)
    unfolding with_line
    line_other r v vl n = (stored_other s w r v wl vl d.valid mark false n, stored_other s w r v wl vl d.tags tag 0 n)

    pub line_kept : (r v t : ℕ) → v < 4 → (Same r v s w → ⊥) → Held d r v t → Held (with_line d s w tag mark) r v t
    line_kept r v t vl n h = let o = line_other r v vl n in (o.0 ∙ h.0, o.1 ∙ h.1)

    -- a line that is held afterwards is the new one, or another that was held before
    pub line_held : (r v t : ℕ) → v < 4 → Held (with_line d s w tag mark) r v t → (Same r v s w × (t ≡ tag)) ⊎ ((Same r v s w → ⊥) × Held d r v t)
    line_held r v t vl h =
        same_line s w r v wl vl _
        (λ e. inl (e, sym h.1 ∙ rw (e.0, e.1) line_new.1))
        (λ n. let o = line_other r v vl n in inr (n, (sym o.0 ∙ h.0, sym o.1 ∙ h.1)))

-- whatever the set holds
pub line_limits : (d : Directory) → WithinLimits d → (s w tag : ℕ) (mark : Bool) → s < 128 → w < 4 → tag ≤ 2097151 → WithinLimits (with_line d s w tag mark)
line_limits d g s w tag mark sl wl tl =
    record {
      sized = line_sized d s w tag mark g.sized;
      sets = λ r rl.
          record {
            tags = λ x t xl h. ⊎_elim (λ m. rw m.1 tl) (λ m. (g.sets r rl).tags x t xl m.1) (line_held d s w tag mark g.sized sl wl r x t xl h);
            lru = rw (line_lru d s w tag mark r) (g.sets r rl).lru;
          };
    }

-- FILL: a valid line, and a use of it

module _ (d : Directory) (s w tag : ℕ) where
  pub fill_control : ((after_fill d s w tag).cd ≡ d.cd) × ((after_fill d s w tag).nw ≡ d.nw)
  unfolding after_fill
  fill_control =
      let u = use_control (with_line d s w tag true) s w in
      let k = line_control d s w tag true in
      (u.0 ∙ k.0, u.1 ∙ k.1)

  pub fill_ranges : (after_fill d s w tag).ranges ≡ d.ranges
  unfolding after_fill
  fill_ranges = use_ranges (with_line d s w tag true) s w ∙ line_ranges d s w tag true

  -- a kept fill is a use
  pub fill_lru : (r : ℕ) → lru_at (after_fill d s w tag) r ≡ lru_at (after_use d s w) r
  unfolding after_fill after_use with_line
  fill_lru r = refl

  module _ (z : Sized d) (sl : s < 128) (wl : w < 4) where
    pub fill_new : Held (after_fill d s w tag) s w tag
    unfolding after_fill
    fill_new = use_kept (with_line d s w tag true) s w s w tag (line_new d s w tag true z sl wl)

    pub fill_kept : (r v t : ℕ) → v < 4 → (Same r v s w → ⊥) → Held d r v t → Held (after_fill d s w tag) r v t
    unfolding after_fill
    fill_kept r v t vl n h = use_kept (with_line d s w tag true) s w r v t (line_kept d s w tag true z sl wl r v t vl n h)

    -- a line that is held after a fill is the new one, or another that was held before
    pub fill_held : (r v t : ℕ) → v < 4 → Held (after_fill d s w tag) r v t →
        (Same r v s w × (t ≡ tag)) ⊎ ((Same r v s w → ⊥) × Held d r v t)
    unfolding after_fill
    fill_held r v t vl h = line_held d s w tag true z sl wl r v t vl (use_held (with_line d s w tag true) s w r v t h)

pub fill_limits : (d : Directory) → WithinLimits d → (s w tag : ℕ) → s < 128 → w < 4 → tag ≤ 2097151 → WithinLimits (after_fill d s w tag)
unfolding after_fill
fill_limits d g s w tag sl wl tl = use_limits (with_line d s w tag true) (line_limits d g s w tag true sl wl tl) s w sl wl

-- a fill of a tag that no way of its set holds
pub fill_apart : (d : Directory) → Sized d → Apart d → (s w tag : ℕ) → s < 128 → w < 4 → ((v : ℕ) → v < 4 → Held d s v tag → ⊥) → Apart (after_fill d s w tag)
fill_apart d z g s w tag sl wl none =
    let held = fill_held d s w tag z sl wl in
    record {
      sets = λ r rl x y t xl yl h k.
          ⊎_elim
          (λ m. ⊎_elim (λ n. m.0.1 ∙ sym n.0.1) (λ n. absurd (none y yl (rw (m.1, m.0.0) at n.1))) (held r y t yl k))
          (λ m. ⊎_elim (λ n. absurd (none x xl (rw (n.1, n.0.0) at m.1))) (λ n. g.sets r rl x y t xl yl m.1 n.1) (held r y t yl k))
          (held r x t xl h);
    }

-- a fill of an address
module _ (d : Directory) (a w : ℕ) (wl : w < 4) where
  pub fill_address_limits : WithinLimits d → a < 2 ^ 32 → WithinLimits (after_fill d (set_of a) w (tag_of a))
  fill_address_limits g al = fill_limits d g (set_of a) w (tag_of a) (omega arith) wl (omega arith)

  -- that was not found: it is found then in the way that was filled
  module _ (z : Sized d) (g : Apart d) (e : lookup_of d a ≡ None) where
    pub fill_address_apart : Apart (after_fill d (set_of a) w (tag_of a))
    fill_address_apart = fill_apart d z g (set_of a) w (tag_of a) (omega arith) wl (lookup_nothing d a e)

    pub fill_lookup : lookup_of (after_fill d (set_of a) w (tag_of a)) a ≡ Some w
    fill_lookup =
        held_lookup (after_fill d (set_of a) w (tag_of a)) a (fill_address_apart.sets (set_of a) (omega arith)) w wl
        (fill_new d (set_of a) w (tag_of a) z (omega arith) wl)

-- CONTROL: no line changes

disabled : (cd nw : Bool) → control_refused cd nw ≡ false → nw ≡ true → cd ≡ true
disabled true nw e h = refl
disabled false nw e h = sym e ∙ h

module _ (d : Directory) (cd nw : Bool) where
  pub control_held : (r v tag : ℕ) → Held (after_control d cd nw) r v tag → Held d r v tag
  unfolding after_control
  control_held r v tag h = h

  pub control_kept : (r v tag : ℕ) → Held d r v tag → Held (after_control d cd nw) r v tag
  unfolding after_control
  control_kept r v tag h = h

  pub control_lookup : (a : ℕ) → lookup_of (after_control d cd nw) a ≡ lookup_of d a
  unfolding after_control
  control_lookup a = refl

  pub control_set : ((after_control d cd nw).cd ≡ cd) × ((after_control d cd nw).nw ≡ nw)
  unfolding after_control
  control_set = (refl, refl)

  pub control_ranges : (after_control d cd nw).ranges ≡ d.ranges
  unfolding after_control
  control_ranges = refl

  pub control_lru : (r : ℕ) → lru_at (after_control d cd nw) r ≡ lru_at d r
  unfolding after_control
  control_lru r = refl

  pub control_sized : Sized d → Sized (after_control d cd nw)
  unfolding after_control
  control_sized z = record { tags = z.tags; valid = z.valid; lru = z.lru }

  pub control_limits : WithinLimits d → WithinLimits (after_control d cd nw)
  control_limits g =
      fewer_limits d _ (λ r v tag rl vl. control_held r v tag) (control_sized g.sized)
      (λ r rl. rw (control_lru r) (g.sets r rl).lru)
      g

  pub control_apart : Apart d → Apart (after_control d cd nw)
  control_apart = fewer_apart d (after_control d cd nw) (λ r v tag rl vl. control_held r v tag)

  -- a pair that is not refused has NW = 1 only with CD = 1
  pub control_disabled : control_refused cd nw ≡ false → (after_control d cd nw).nw ≡ true → (after_control d cd nw).cd ≡ true
  unfolding after_control
  control_disabled = disabled cd nw

  pub control_accepted : control_refused cd nw ≡ false → control_call d cd nw ≡ outcome (after_control d cd nw) 0 0 0
  unfolding control_call
  control_accepted e = cond_false _ _ _ e

  pub control_refused_lem : control_refused cd nw ≡ true → control_call d cd nw ≡ outcome d 9 0 0
  unfolding control_call
  control_refused_lem e = cond_true _ _ _ e

  -- by the number that the code has
  pub control_refused_by : (n : ℕ) → n ≡ cond (control_refused cd nw) 9 0 → (n ≡ 0 → ⊥) → outcome d n 0 0 ≡ control_call d cd nw
  unfolding control_call
  control_refused_by n e h =
      by_test (λ (b : Bool). n ≡ cond b 9 0 → outcome d n 0 0 ≡ cond b (outcome d 9 0 0) (outcome (after_control d cd nw) 0 0 0)) (control_refused cd nw)
      (λ t m. ap (λ (x : ℕ). outcome d x 0 0) m)
      (λ t m. absurd (h m))
      e

  pub control_done_by : (n : ℕ) → n ≡ cond (control_refused cd nw) 9 0 → n ≡ 0 → outcome (after_control d cd nw) n 0 0 ≡ control_call d cd nw
  unfolding control_call
  control_done_by n e z =
      by_test (λ (b : Bool). n ≡ cond b 9 0 → outcome (after_control d cd nw) n 0 0 ≡ cond b (outcome d 9 0 0) (outcome (after_control d cd nw) 0 0 0)) (control_refused cd nw)
      (λ t m. let met : n ≡ 9 = m in let no : ⊥ = omega (arith, met, z) in absurd no)
      (λ t m. ap (λ (x : ℕ). outcome (after_control d cd nw) x 0 0) m)
      e

-- FLUSH: no line stays

module _ (d : Directory) where
  pub flush_none : (s w tag : ℕ) → s < 128 → w < 4 → Held (after_flush d) s w tag → ⊥
  unfolding after_flush
  flush_none s w tag sl wl h = differ h.0 (get_or-replicate 512 (line_index s w) false false (omega arith))

  pub flush_lookup : (a : ℕ) → lookup_of (after_flush d) a ≡ None
  flush_lookup a = none_lookup (after_flush d) a λ w l. flush_none (set_of a) w (tag_of a) (omega arith) l

  pub flush_control : ((after_flush d).cd ≡ d.cd) × ((after_flush d).nw ≡ d.nw)
  unfolding after_flush
  flush_control = (refl, refl)

  pub flush_ranges : (after_flush d).ranges ≡ d.ranges
  unfolding after_flush
  flush_ranges = refl

  pub flush_lru : (s : ℕ) → s < 128 → lru_at (after_flush d) s ≡ 0
  unfolding after_flush
  flush_lru s l = get_or-replicate {A = ℕ} 128 s 0 0 l

  pub flush_sized : Sized d → Sized (after_flush d)
  unfolding after_flush
  flush_sized z = record { tags = z.tags; valid = refl; lru = refl }

  pub flush_limits : WithinLimits d → WithinLimits (after_flush d)
  flush_limits g =
      none_limits (after_flush d) flush_none (flush_sized g.sized) (λ s l. let e = flush_lru s l in omega arith)

  -- whatever was held before
  pub flush_apart : Apart (after_flush d)
  flush_apart = none_apart (after_flush d) flush_none

-- SNOOP: with NW = 0 the line of the address goes, and every other stays as it was

pub snoop_off : (d : Directory) (a : ℕ) → d.nw ≡ true → after_snoop d a ≡ d
unfolding after_snoop
snoop_off d a e = cond_true d.nw _ _ e

pub snoop_on : (d : Directory) (a : ℕ) → d.nw ≡ false → after_snoop d a ≡ invalidated d (set_of a) (lookup_of d a)
unfolding after_snoop
snoop_on d a e = cond_false d.nw _ _ e

found_ranges : (d : Directory) (s : ℕ) (f : Option ℕ) → (invalidated d s f).ranges ≡ d.ranges
unfolding invalidated
found_ranges d s (Some w) = refl
found_ranges d s None = refl

pub snoop_ranges : (d : Directory) (a : ℕ) → (after_snoop d a).ranges ≡ d.ranges
unfolding after_snoop
snoop_ranges d a =
    by_test (λ b. (cond b d (invalidated d (set_of a) (lookup_of d a))).ranges ≡ d.ranges) d.nw
    (λ _. refl)
    (λ _. found_ranges d (set_of a) (lookup_of d a))

module _ (d : Directory) (z : Sized d) (a : ℕ) where
  abbrev dropped : Option ℕ → Directory
  dropped f = invalidated d (set_of a) f

  dropped_held : (f : Option ℕ) → lookup_of d a ≡ f → (r v t : ℕ) → v < 4 → Held (dropped f) r v t → Held d r v t
  unfolding invalidated
  dropped_held (Some w) e r v t vl h =
      let wl = (lookup_at d a w e).0 in
      same_line (set_of a) w r v wl vl _
      (λ m. absurd (differ h.0 (rw (m.0, m.1) (stored_line d.valid false false (set_of a) w z.valid (omega arith) wl))))
      (λ n. (sym (stored_other (set_of a) w r v wl vl d.valid false false n) ∙ h.0, h.1))
  dropped_held None e r v t vl h = h

  dropped_kept : (f : Option ℕ) → lookup_of d a ≡ f → (r v t : ℕ) → v < 4 → (Same r t (set_of a) (tag_of a) → ⊥) → Held d r v t → Held (dropped f) r v t
  unfolding invalidated
  dropped_kept (Some w) e r v t vl n h =
      let k = lookup_at d a w e in
      let o : Same r v (set_of a) w → ⊥ = λ m. n (m.0, sym h.1 ∙ rw (m.0, m.1) k.1.1) in
      (stored_other (set_of a) w r v k.0 vl d.valid false false o ∙ h.0, h.1)
  dropped_kept None e r v t vl n h = h

  dropped_none : SetApart d (set_of a) → (f : Option ℕ) → lookup_of d a ≡ f → (v : ℕ) → v < 4 → Held (dropped f) (set_of a) v (tag_of a) → ⊥
  unfolding invalidated
  dropped_none g (Some w) e v vl h =
      let k = lookup_at d a w e in
      let j : v ≡ w = g v w (tag_of a) vl k.0 (dropped_held (Some w) e (set_of a) v (tag_of a) vl h) k.1 in
      differ h.0 (rw j (stored_line d.valid false false (set_of a) w z.valid (omega arith) k.0))
  dropped_none g None e v vl h = lookup_nothing d a e v vl h

  dropped_control : (f : Option ℕ) → ((dropped f).cd ≡ d.cd) × ((dropped f).nw ≡ d.nw)
  unfolding invalidated
  dropped_control (Some w) = (refl, refl)
  dropped_control None = (refl, refl)

  dropped_sized : (f : Option ℕ) → Sized (dropped f)
  unfolding invalidated
  dropped_sized (Some w) = record { tags = z.tags; valid = rw length-set z.valid; lru = z.lru }
  dropped_sized None = z

  dropped_lru : (f : Option ℕ) (r : ℕ) → lru_at (dropped f) r ≡ lru_at d r
  unfolding invalidated
  dropped_lru (Some w) r = refl
  dropped_lru None r = refl

  -- what holds of the directory, and of the directory without the line of the address, holds after a snoop
  by_nw : (P : Directory → Type 0) → (d.nw ≡ true → P d) → (d.nw ≡ false → P (dropped (lookup_of d a))) → P (after_snoop d a)
  by_nw P p q =
      by_test (λ b. d.nw ≡ b → P (after_snoop d a)) d.nw
      (λ _ e. rw (snoop_off d a e) (p e))
      (λ _ e. rw (snoop_on d a e) (q e))
      refl

  -- a line that is held after a snoop was held before
  pub snoop_held : (r v t : ℕ) → v < 4 → Held (after_snoop d a) r v t → Held d r v t
  snoop_held r v t vl = by_nw (λ x. Held x r v t → Held d r v t) (λ _ h. h) (λ _. dropped_held _ refl r v t vl)

  -- a line of another address stays held
  pub snoop_kept : (r v t : ℕ) → v < 4 → (Same r t (set_of a) (tag_of a) → ⊥) → Held d r v t → Held (after_snoop d a) r v t
  snoop_kept r v t vl n = by_nw (λ x. Held d r v t → Held x r v t) (λ _ h. h) (λ _. dropped_kept _ refl r v t vl n)

  pub snoop_lru : (r : ℕ) → lru_at (after_snoop d a) r ≡ lru_at d r
  snoop_lru r = by_nw (λ x. lru_at x r ≡ lru_at d r) (λ _. refl) (λ _. dropped_lru _ r)

  pub snoop_sized : Sized (after_snoop d a)
  snoop_sized = by_nw Sized (λ _. z) (λ _. dropped_sized _)

  pub snoop_control : ((after_snoop d a).cd ≡ d.cd) × ((after_snoop d a).nw ≡ d.nw)
  snoop_control = by_nw (λ x. (x.cd ≡ d.cd) × (x.nw ≡ d.nw)) (λ _. (refl, refl)) (λ _. dropped_control _)

  -- with NW = 0 no way holds a snooped address
  pub snoop_none : SetApart d (set_of a) → d.nw ≡ false → (v : ℕ) → v < 4 → Held (after_snoop d a) (set_of a) v (tag_of a) → ⊥
  snoop_none g e v vl h = dropped_none g _ refl v vl (rw (snoop_on d a e) at h)

  pub snoop_lookup : SetApart d (set_of a) → d.nw ≡ false → lookup_of (after_snoop d a) a ≡ None
  snoop_lookup g e = none_lookup (after_snoop d a) a (snoop_none g e)

pub snoop_limits : (d : Directory) → WithinLimits d → (a : ℕ) → WithinLimits (after_snoop d a)
snoop_limits d g a =
    let z = g.sized in
    fewer_limits d _ (λ r v t rl vl. snoop_held d z a r v t vl) (snoop_sized d z a)
    (λ r rl. rw (snoop_lru d z a r) (g.sets r rl).lru)
    g

pub snoop_apart : (d : Directory) → Sized d → Apart d → (a : ℕ) → Apart (after_snoop d a)
snoop_apart d z g a = fewer_apart d (after_snoop d a) (λ r v t rl vl. snoop_held d z a r v t vl) g

-- a snoop call is refused for the state of its set, and else accepted
module _ (d : Directory) (a : ℕ) where
  pub snoop_accepted : state_number_of d (set_of a) ≡ 0 → snoop_call d a ≡ outcome (after_snoop d a) 0 0 0
  unfolding snoop_call
  snoop_accepted e = cond_true _ _ _ (eq-eqb _ 0 e)

  pub snoop_refused : (state_number_of d (set_of a) ≡ 0 → ⊥) → snoop_call d a ≡ outcome d (state_number_of d (set_of a)) 0 0
  unfolding snoop_call
  snoop_refused n = cond_false _ _ _ (ne_eqb _ 0 n)

  -- its value and its count are 0
  pub snoop_plain : (r : Outcome) → r ≡ snoop_call d a → outcome r.directory r.number 0 0 ≡ snoop_call d a
  snoop_plain r e =
      same_or _ (state_number_of d (set_of a)) 0 (λ z. rw (e, snoop_accepted z)) (λ n. rw (e, snoop_refused n))

  -- by the number of the set's state: where it is not 0, or NW = 1, nothing changes
  module _ (n : ℕ) (en : n ≡ state_number_of d (set_of a)) where
    pub snoop_call_kept : (eqb n 0 && not d.nw) ≡ false → outcome d n 0 0 ≡ snoop_call d a
    snoop_call_kept h =
        same_or _ n 0
        (λ z.
        let off : d.nw ≡ true = not-false d.nw (rw (eq-eqb n 0 z) at h) in
        rw z (sym (snoop_accepted (sym en ∙ z) ∙ ap (λ (x : Directory). outcome x 0 0 0) (snoop_off d a off))))
        (λ m. ap (λ (x : ℕ). outcome d x 0 0) en ∙ sym (snoop_refused (λ z. m (en ∙ z))))

    pub snoop_call_done : (eqb n 0 && not d.nw) ≡ true → (d' : Directory) → d' ≡ invalidated d (set_of a) (lookup_of d a) → outcome d' n 0 0 ≡ snoop_call d a
    snoop_call_done h d' e =
        let t = both (eqb n 0) _ h in
        let z = eqb-true n 0 t.0 in
        rw (z, e) (sym (snoop_accepted (sym en ∙ z) ∙ ap (λ (x : Directory). outcome x 0 0 0) (snoop_on d a (not-true d.nw t.1))))

-- Laws of views: a part of a slice as bytes, and a view that is refused, held or not held.
use Rattle.std.specs.Prelude.{Option, Some, None}
use Prim.Native.Nat.{ℕ, zero, suc, ◌+◌, ◌*◌, ◌/◌, ◌-◌, ◌≤◌}
use mathlib.Core.Path.{◌≡◌, refl, sym, ◌∙◌, ap}
use mathlib.Core.Bool.{Bool}
use mathlib.Core.List.{List, [], ◌∷◌}
use native.Mathlib.Omega.{arith}
use lib.ListN.{length, get_or, take, drop}
use lib.Seq.{drop-cons}
use borrow.Author.Tests.{eq-eqb, ne_eqb}
use Rattle.laws.proofs.Tests.{cond_true, cond_false}
use Rattle.ways.specs.Address.{set_of, data_offset}
use Rattle.ways.specs.State.{state_number_in}
use Rattle.ways.specs.Ways.{lookup_in}
use Rattle.ranges.specs.declared.Ranges.{Ranges}
use Rattle.words.specs.Bytes.{bytes_at}
use Rattle.refusal.specs.Refusal.{or_else, view_input_number, kept_number}
use Rattle.words.proofs.Places.{bytes_length}
use Rattle.refusal.proofs.Accepted.{or_zero, GoodView, view_accepted}
use Rattle.views.specs.View.{view_number_in, shown, view_in, shown_at, view_at}

-- a part that lies within a list
part_bytes : (l : List ℕ) (i n : ℕ) → i + n ≤ length l → take n (drop i l) ≡ bytes_at l i n
unfolding bytes_at
part_bytes l i zero h = refl
part_bytes l i (suc n) h =
    ap (take (suc n)) (drop-cons l i 0 (omega arith)) ∙ ap (λ (r : List ℕ). get_or l i 0 ∷ r) (part_bytes l (suc i) n (omega arith))

pub sixteen_bytes : (l : List ℕ) (from to : ℕ) → to ≡ from + 16 → from + 16 ≤ length l → take (to - from) (drop from l) ≡ bytes_at l from 16
sixteen_bytes l from to e h =
    let k : to - from ≡ 16 = omega arith in
    ap (λ (n : ℕ). take n (drop from l)) k ∙ part_bytes l from 16 h

-- the place of a part, from where its slice begins
pub part_at : (p : ℕ × ℕ) (from : ℕ) → ◌≡◌ {A = ℕ × ℕ} (p.0, from + p.1) (p.0, p.1 + from)
part_at p from = let e : from + p.1 ≡ p.1 + from = omega arith in ap (λ (o : ℕ). (p.0, o)) e

pub empty_at : (p : ℕ × ℕ) → ◌≡◌ {A = ℕ × ℕ} (p.0, 0 + p.1) p
empty_at p = let e : 0 + p.1 ≡ p.1 = omega arith in ap (λ (o : ℕ). (p.0, o)) e

-- what an accepted view knows of lengths and address
module _ (ram array address : ℕ) (z : view_input_number ram array address ≡ 0) where
  good : GoodView ram array address
  good = view_accepted ram array address z

  pub data_inside : (offset : ℕ) → offset + 16 ≤ 8192 → offset + 16 ≤ array
  data_inside offset h = omega (arith, good.array_length)

  pub line_inside : address / 16 * 16 + 16 ≤ ram
  line_inside = omega (arith, good.whole, good.inside)

pub input_0 : (tags : List ℕ) (valid : List Bool) (lru : List ℕ) (ranges : Ranges) (ram array address n : ℕ) → n ≡ view_number_in tags valid lru ranges ram array address → n ≡ 0 →
    view_input_number ram array address ≡ 0
unfolding view_number_in
input_0 tags valid lru ranges ram array address n en z =
    (or_zero (view_input_number ram array address) (or_else (kept_number ram ranges) (state_number_in tags valid lru (set_of address))) (sym en ∙ z)).0

-- what is shown where the line is held, and where it is not
module _ (f : Option ℕ) (address : ℕ) where
  module _ (way : ℕ) (e : f ≡ Some way) (offset : ℕ) (s : offset ≡ data_offset address way) where
    pub held_shown : (ram array r : List ℕ) → r ≡ bytes_at array offset 16 → r ≡ shown f ram array address
    unfolding shown
    held_shown ram array r k = k ∙ rw (s, e)

    pub held_at : (ramAt array_at p : ℕ × ℕ) → p ≡ (array_at.0, array_at.1 + offset) → p ≡ shown_at f ramAt array_at address
    unfolding shown_at
    held_at ramAt array_at p k = k ∙ rw (s, e)

  module _ (e : f ≡ None) where
    pub missed_shown : (ram array r : List ℕ) → r ≡ bytes_at ram (address / 16 * 16) 16 → r ≡ shown f ram array address
    unfolding shown
    missed_shown ram array r k = k ∙ rw e

    pub missed_at : (ramAt array_at p : ℕ × ℕ) → p ≡ (ramAt.0, ramAt.1 + address / 16 * 16) → p ≡ shown_at f ramAt array_at address
    unfolding shown_at
    missed_at ramAt array_at p k = k ∙ rw e

-- an accepted view has sixteen bytes
shown_length : (f : Option ℕ) (ram array : List ℕ) (address : ℕ) → length (shown f ram array address) ≡ 16
unfolding shown
shown_length (Some way) ram array address = bytes_length array (data_offset address way) 16
shown_length None ram array address = bytes_length ram (address / 16 * 16) 16

-- a view by its number
module _ (tags : List ℕ) (valid : List Bool) (lru : List ℕ) (ranges : Ranges) (ram array : List ℕ) (address n : ℕ) (en : n ≡ view_number_in tags valid lru ranges (length ram) (length array) address) where
  pub view_refused : (n ≡ 0 → ⊥) → [] ≡ view_in tags valid lru ranges ram array address
  unfolding view_in
  view_refused h = sym (cond_false _ _ _ (ne_eqb _ 0 (λ z. h (en ∙ z))))

  pub refused_at : (ramAt array_at : ℕ × ℕ) → (n ≡ 0 → ⊥) → ramAt ≡ view_at tags valid lru ranges ram array ramAt array_at address
  unfolding view_at
  refused_at ramAt array_at h = sym (cond_false _ _ _ (ne_eqb _ 0 (λ z. h (en ∙ z))))

  module _ (z : n ≡ 0) where
    pub view_done : view_in tags valid lru ranges ram array address ≡ shown (lookup_in tags valid address) ram array address
    unfolding view_in
    view_done = cond_true _ _ _ (eq-eqb _ 0 (sym en ∙ z))

    -- the bytes that an accepted view shows, of which there are sixteen
    pub view_made : (part : List ℕ) → part ≡ shown (lookup_in tags valid address) ram array address →
        (part ≡ view_in tags valid lru ranges ram array address) × (length part ≡ 16)
    view_made part e = (e ∙ sym view_done, ap length e ∙ shown_length (lookup_in tags valid address) ram array address)

    pub made_at : (ramAt array_at p : ℕ × ℕ) → p ≡ shown_at (lookup_in tags valid address) ramAt array_at address → p ≡ view_at tags valid lru ranges ram array ramAt array_at address
    unfolding view_at
    made_at ramAt array_at p e = e ∙ sym (cond_true _ _ _ (eq-eqb _ 0 (sym en ∙ z)))

-- Masks of lanes in the cycles of a doubleword: the parity bits of their lanes, and the masks of a run taken apart.
use Prim.Native.Nat.{ℕ, ◌+◌, ◌*◌, ◌-◌, ◌/◌, ◌%◌, ◌^◌, ◌≤◌, ◌<◌}
use mathlib.Core.Path.{◌≡◌, refl, sym, ◌∙◌, ap}
use native.Mathlib.Omega.{arith}
use lib.Bits.{bit_and, and_high}
use lib.Dec.{eqb}
use lib.Pow.{pow_mono, pow-lt, shl-shr}
use borrow.Author.Tests.{eq-eqb, ne_eqb}
use Rattle.laws.proofs.Tests.{same_or}
use Rattle.words.specs.Bytes.{lanes_mask}
use Rattle.parts.specs.Parts.{bits_in}

-- two numbers are the same where as many powers of two of them are
same_scaled : (x y lane : ℕ) → eqb (x * 2 ^ lane) (y * 2 ^ lane) ≡ eqb x y
same_scaled x y lane =
    same_or _ x y (λ e. rw (eq-eqb x y e, eq-eqb (x * 2 ^ lane) (y * 2 ^ lane) (rw e)))
    (λ n. rw (ne_eqb x y n, ne_eqb (x * 2 ^ lane) (y * 2 ^ lane) (λ z. n (sym (shl-shr x lane) ∙ ap (λ (v : ℕ). v / 2 ^ lane) z ∙ shl-shr y lane))))

-- the bits of two parity bytes in a mask's lanes are the same where the `and`s with the mask are
pub masked_same : (held due mask lane count : ℕ) → mask ≡ lanes_mask lane count → eqb (bit_and held mask) (bit_and due mask) ≡ eqb (bits_in held lane count) (bits_in due lane count)
unfolding lanes_mask
masked_same held due mask lane count e = rw (e, and_high held count lane, and_high due count lane) (same_scaled (bits_in held lane count) (bits_in due lane count) lane)

-- no lane from lane 4 on is as no lane from lane 0 on
pub mask_lane : (lane count : ℕ) → lane + count ≤ 4 → lanes_mask lane count ≡ lanes_mask (lane % 4) count
unfolding lanes_mask
mask_lane lane count h =
    same_or _ lane 4 (λ e. let z : count ≡ 0 = omega arith in rw (e, z)) (λ n. let f : lane % 4 ≡ lane = omega arith in rw f)

-- the mask of the first lanes of a run leads to the lowest lane of the others
pub mask_lowest : (at size : ℕ) → 2 ^ at + lanes_mask at size ≡ 2 ^ (at + size)
unfolding lanes_mask
mask_lowest at size =
    let e : at + size ≡ size + at = omega arith in
    let p : 2 ^ at ≤ 2 ^ (size + at) = pow_mono (omega arith) in
    rw e (omega arith)

-- the mask of the first lanes of a run, and that of all
module _ (at size left : ℕ) (l : size ≤ left) where
  -- what is left is the mask of the others
  pub mask_rest : lanes_mask at left - lanes_mask at size ≡ lanes_mask (at + size) (left - size)
  unfolding lanes_mask
  mask_rest =
      let e : left - size + (at + size) ≡ left + at = omega arith in
      let f : at + size ≡ size + at = omega arith in
      let p : 2 ^ at ≤ 2 ^ (size + at) = pow_mono (omega arith) in
      rw (e, f) (omega arith)

  -- it is a part of all
  pub mask_part : lanes_mask at size ≤ lanes_mask at left
  unfolding lanes_mask
  mask_part = let p : 2 ^ (size + at) ≤ 2 ^ (left + at) = pow_mono (omega arith) in omega arith

  -- it is all where there are no others
  pub mask_whole : eqb (lanes_mask at size) (lanes_mask at left) ≡ eqb size left
  unfolding lanes_mask
  mask_whole =
      same_or _ size left (λ e. rw (e, eq-eqb left left refl, eq-eqb (2 ^ (left + at) - 2 ^ at) (2 ^ (left + at) - 2 ^ at) refl))
      (λ n.
      let p : 2 ^ at ≤ 2 ^ (size + at) = pow_mono (omega arith) in
      let q : 2 ^ (size + at) < 2 ^ (left + at) = pow-lt (omega arith) in
      rw (ne_eqb size left n, ne_eqb (2 ^ (size + at) - 2 ^ at) (2 ^ (left + at) - 2 ^ at) (λ z. omega arith)))

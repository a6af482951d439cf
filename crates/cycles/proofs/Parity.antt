-- The lanes of a doubleword that have wrong parity, by the bits of its parity byte.
use Prim.Native.Nat.{ℕ, zero, suc, ◌+◌, ◌*◌, ◌-◌, ◌/◌, ◌%◌, ◌^◌, ◌≤◌, ◌<◌}
use mathlib.Core.Path.{◌≡◌, ◌∙◌, ap}
use mathlib.Core.Bool.{not, ◌||◌}
use mathlib.Core.List.{List}
use native.Mathlib.Omega.{arith}
use native.Mathlib.Nat.{pow-suc, mod_def, mul-div-le, div-div-eq-div-mul, mul_assoc, mul_comm, add-zero}
use lib.Dec.{eqb}
use lib.ListN.{get_or}
use borrow.Author.Tests.{eq-eqb, ne_eqb}
use Rattle.laws.proofs.Below.{four}
use Rattle.laws.proofs.Tests.{same_or}
use Rattle.memory.specs.Parity.{Memory, memory, dp_of, lane_bit, dp_at, wrong_at, wrong_in}
use Rattle.memory.proofs.Bits.{dp_below}
use Rattle.parts.specs.Parts.{due_bits, bits_in}

-- the lowest bit of a number, and the others
mod_step : (x n : ℕ) → x % (2 * n) ≡ x % 2 + 2 * (x / 2 % n)
mod_step x n =
    let q = x / (2 * n) in
    let d : n * (x / 2 / n) ≡ n * q = ap (λ (y : ℕ). n * y) (div-div-eq-div-mul x 2 n) in
    let t : 2 * n * q ≡ 2 * (n * q) = mul_assoc 2 n q in
    parted x (n * q) (x % (2 * n)) (x / 2 % n) (mod_def x (2 * n) ∙ rw t) (mod_def (x / 2) n ∙ rw d) (rw d at (mul-div-le (x / 2) n))
  where
    parted : (x t a b : ℕ) → a ≡ x - 2 * t → b ≡ x / 2 - t → t ≤ x / 2 → a ≡ x % 2 + 2 * b
    parted x t a b p q l = omega arith

bits_step : (x lane n : ℕ) → bits_in x lane (suc n) ≡ lane_bit x lane + 2 * bits_in x (suc lane) n
unfolding lane_bit
bits_step x lane n =
    let h : x / 2 ^ lane / 2 ≡ x / 2 ^ suc lane = div-div-eq-div-mul x (2 ^ lane) 2 ∙ rw (pow-suc 2 lane) in
    rw (pow-suc 2 n, mul_comm (2 ^ n) 2) (mod_step (x / 2 ^ lane) (2 ^ n) ∙ rw h)

-- two numbers differ in their lowest bits, or in the others
differ : (b c x y : ℕ) → b < 2 → c < 2 → not (eqb (b + 2 * x) (c + 2 * y)) ≡ (not (eqb b c) || not (eqb x y))
differ b c x y h k =
    same_or _ b c
    (λ e.
    same_or _ x y
    (λ f. rw (eq-eqb (b + 2 * x) (c + 2 * y) (omega arith), eq-eqb b c e, eq-eqb x y f))
    (λ n. rw (ne_eqb (b + 2 * x) (c + 2 * y) (λ z. n (omega arith)), eq-eqb b c e, ne_eqb x y n)))
    (λ n. rw (ne_eqb (b + 2 * x) (c + 2 * y) (λ z. n (omega arith)), ne_eqb b c n))

bit_below : (x lane : ℕ) → lane_bit x lane < 2
unfolding lane_bit
bit_below x lane = omega arith

-- the bytes of so many lanes are wrong where the bits of these lanes differ
lanes_wrong : (m : Memory) (p d base : ℕ) → ((lane : ℕ) → lane < 4 → wrong_at m (base + lane) ≡ not (eqb (lane_bit p lane) (lane_bit d lane))) →
    (n lane : ℕ) → lane + n ≤ 4 → not (eqb (bits_in p lane n) (bits_in d lane n)) ≡ wrong_in m (base + lane) n
unfolding wrong_in
lanes_wrong m p d base h zero lane l = rw (eq-eqb (bits_in p lane 0) (bits_in d lane 0) (omega arith))
lanes_wrong m p d base h (suc n) lane l =
    let e : base + suc lane ≡ suc (base + lane) = omega arith in
    let r : not (eqb (bits_in p (suc lane) n) (bits_in d (suc lane) n)) ≡ wrong_in m (suc (base + lane)) n = lanes_wrong m p d base h n (suc lane) (omega arith) ∙ rw e in
    rw (bits_step p lane n, bits_step d lane n, h lane (omega arith), ← r)
    (differ (lane_bit p lane) (lane_bit d lane) (bits_in p (suc lane) n) (bits_in d (suc lane) n) (bit_below p lane) (bit_below d lane))

-- the bit that a byte of a doubleword asks for
due_bit : (ram : List ℕ) (base lane : ℕ) → lane < 4 → lane_bit (due_bits ram base) lane ≡ dp_of (get_or ram (base + lane) 0)
unfolding lane_bit
due_bit ram base lane l =
    let a = dp_below (get_or ram base 0) in
    let b = dp_below (get_or ram (base + 1) 0) in
    let c = dp_below (get_or ram (base + 2) 0) in
    let d = dp_below (get_or ram (base + 3) 0) in
    four (λ k. due_bits ram base / 2 ^ k % 2 ≡ dp_of (get_or ram (base + k) 0))
    (rw (add-zero base) (lowest (dp_of (get_or ram base 0)) _ _ _ a))
    (second (dp_of (get_or ram base 0)) (dp_of (get_or ram (base + 1) 0)) _ _ a b)
    (third (dp_of (get_or ram base 0)) (dp_of (get_or ram (base + 1) 0)) (dp_of (get_or ram (base + 2) 0)) _ a b c)
    (highest (dp_of (get_or ram base 0)) (dp_of (get_or ram (base + 1) 0)) (dp_of (get_or ram (base + 2) 0)) (dp_of (get_or ram (base + 3) 0)) a b c d)
    lane
    l
  where
    lowest : (a b c d : ℕ) → a < 2 → (a + 2 * b + 4 * c + 8 * d) / 1 % 2 ≡ a
    lowest a b c d h = omega arith

    second : (a b c d : ℕ) → a < 2 → b < 2 → (a + 2 * b + 4 * c + 8 * d) / 2 % 2 ≡ b
    second a b c d h i = omega arith

    third : (a b c d : ℕ) → a < 2 → b < 2 → c < 2 → (a + 2 * b + 4 * c + 8 * d) / 4 % 2 ≡ c
    third a b c d h i j = omega arith

    highest : (a b c d : ℕ) → a < 2 → b < 2 → c < 2 → d < 2 → (a + 2 * b + 4 * c + 8 * d) / 8 % 2 ≡ d
    highest a b c d h i j k = omega arith

-- the lanes of a doubleword of RAM that its parity byte is wrong for
pub part_wrong : (ram parity : List ℕ) (base lane count : ℕ) → base % 4 ≡ 0 → lane + count ≤ 4 →
    not (eqb (bits_in (get_or parity (base / 4) 0) lane count) (bits_in (due_bits ram base) lane count)) ≡ wrong_in (memory ram parity) (base + lane) count
unfolding wrong_at dp_at
part_wrong ram parity base lane count al l =
    lanes_wrong (memory ram parity) (get_or parity (base / 4) 0) (due_bits ram base) base
    (λ k h.
    let e : (base + k) / 4 ≡ base / 4 = omega arith in
    let f : (base + k) % 4 ≡ k = omega arith in
    rw (due_bit ram base k h, e, f))
    count
    lane
    l

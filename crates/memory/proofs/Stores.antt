-- Laws of a number stored with its parity: the bits of several lanes of a parity byte replaced at once.
use Prim.Native.Nat.{ℕ, zero, suc, ◌+◌, ◌*◌, ◌-◌, ◌/◌, ◌%◌, ◌^◌, ◌≤◌, ◌<◌}
use mathlib.Core.Path.{◌≡◌, refl, sym, ◌∙◌, ap}
use mathlib.Core.List.{List, [], ◌∷◌}
use native.Mathlib.Omega.{arith}
use native.Mathlib.Nat.{add-zero, add_comm, add-mul, mul_assoc, mul_comm, pow-suc, mod-lt, mod-eq_of_lt, div-lt_iff_lt-mul}
use lib.Arith.{digits_lt, digits_div, digits_mod}
use lib.Bits.{bit_and, and_high}
use lib.ListN.{length, get_or, set, length-set}
use lib.Pow.{pow_pos, pow-add, mod-mod-pow, mod-pow-add, split, shr-shr}
use lib.Seq.{sets, set-set, set-get_or, get_or-set_same}
use Rattle.std.proofs.lemmas.Nat.{and-not, and_comm, and_le_r, and_mod}
use Rattle.words.specs.Bytes.{bytes_of, lanes_mask, lanes_value, lanes_word}
use Rattle.words.proofs.Numbers.{of_length}
use Rattle.words.proofs.Parts.{powers_some}
use Rattle.memory.specs.Parity.{Memory, memory, ones_of, dp_of, dps_of, with_dp, put, stored}
use Rattle.memory.proofs.Bits.{dp_below}

-- THE BITS OF THE BYTES OF A NUMBER

-- a bit for each byte
dps_below : (l : List ℕ) → dps_of l < 2 ^ length l
unfolding dps_of
dps_below [] = omega arith
dps_below (b ∷ l) = omega (arith, dp_below b, dps_below l, pow-suc 2 (length l))

pub bits_below : (v : ℕ) → dps_of (bytes_of 4 v) < 16
bits_below v = rw (of_length 4 v) at (dps_below (bytes_of 4 v))

-- the bits of zeros are 0
no_bit : dp_of 0 ≡ 0
unfolding dp_of ones_of
no_bit = refl

no_bits : (n : ℕ) → dps_of (bytes_of n 0) ≡ 0
unfolding dps_of bytes_of
no_bits zero = refl
no_bits (suc n) = rw (no_bit, no_bits n)

-- bytes above a number are 0, and so are their bits
bits_above : (count rest v : ℕ) → v < 256 ^ count → dps_of (bytes_of (count + rest) v) ≡ dps_of (bytes_of count v)
unfolding dps_of bytes_of
bits_above zero rest v h =
    let e : v ≡ 0 = omega arith in
    let z : 0 + rest ≡ rest = omega arith in
    rw (e, z) (no_bits rest)
bits_above (suc count) rest v h =
    let e : suc count + rest ≡ suc (count + rest) = omega arith in
    rw (e, bits_above count rest (v / 256) (omega (arith, pow-suc 256 count)))

-- a number some lanes up has its bits as many lanes up
bits_up : (lane n v : ℕ) → dps_of (bytes_of (lane + n) (v * 256 ^ lane)) ≡ dps_of (bytes_of n v) * 2 ^ lane
unfolding dps_of bytes_of
bits_up zero n v =
    let z : 0 + n ≡ n = omega arith in
    let o : v * 1 ≡ v = omega arith in
    rw (z, o) (omega arith)
bits_up (suc lane) n v =
    let e : suc lane + n ≡ suc (lane + n) = omega arith in
    let w = v * 256 ^ lane in
    let f : v * 256 ^ suc lane ≡ w * 256 = rw (pow-suc 256 lane) (sym (mul_assoc v (256 ^ lane) 256)) in
    let m : w * 256 % 256 ≡ 0 = omega arith in
    let d : w * 256 / 256 ≡ w = omega arith in
    let g : dps_of (bytes_of n v) * 2 ^ suc lane ≡ dps_of (bytes_of n v) * 2 ^ lane * 2 = rw (pow-suc 2 lane) (sym (mul_assoc (dps_of (bytes_of n v)) (2 ^ lane) 2)) in
    rw (e, f, m, d, no_bit, bits_up lane n v, g) (omega arith)

-- a number put in its lanes has its bits in place
pub bits_placed : (lane count v : ℕ) → lane + count ≤ 4 → v < 256 ^ count → dps_of (bytes_of 4 (v * 256 ^ lane)) ≡ dps_of (bytes_of count v) * 2 ^ lane
bits_placed lane count v h k =
    let rest = 4 - (lane + count) in
    let e : 4 ≡ lane + (count + rest) = omega arith in
    ap (λ (n : ℕ). dps_of (bytes_of n (v * 256 ^ lane))) e
    ∙ bits_up lane (count + rest) v
    ∙ rw (bits_above count rest v k)

-- SEVERAL LANES OF A PARITY BYTE

-- a parity byte with the bits of so many lanes replaced by bits that stand in place
abbrev pub with_part : ℕ → ℕ → ℕ → ℕ → ℕ
with_part p lane n bits = p % 2 ^ lane + bits + p % 16 / 2 ^ (lane + n) * 2 ^ (lane + n)

-- what a mask makes of it
module _ (p lane count bits mask : ℕ) (h : lane + count ≤ 4) (is : mask ≡ lanes_mask lane count) where
  -- the lanes that the mask takes
  taken : bit_and p mask ≡ p / 2 ^ lane % 2 ^ count * 2 ^ lane
  unfolding lanes_mask
  taken = rw is (and_high p count lane)

  -- the lanes above these, these, and those below
  in_three : p % 16 ≡ p % 16 / 2 ^ (lane + count) * 2 ^ (lane + count) + (bit_and p mask + p % 2 ^ lane)
  in_three =
      let k = count + lane in
      let e : 16 ≡ 2 ^ (4 - k + k) = ap (λ (n : ℕ). 2 ^ n) (whole lane count h) in
      let f : p % 16 % 2 ^ k ≡ p % 2 ^ k = ap (λ (n : ℕ). p % n % 2 ^ k) e ∙ mod-mod-pow p (4 - k) k in
      rw (taken, add_comm lane count, ← mod-pow-add p count lane, ← f) (sym (split (p % 16) k))
    where
      whole : (lane count : ℕ) → lane + count ≤ 4 → 4 ≡ 4 - (count + lane) + (count + lane)
      whole lane count h = omega arith

  -- the bits of the other lanes
  others : mask ≤ 15 → bit_and p (15 - mask) ≡ p % 16 - bit_and p mask
  others l =
      let rest = and-not 4 mask (p % 16) (omega arith) (omega arith) in
      let low : bit_and (15 - mask) (p % 16) ≡ bit_and p (15 - mask) = and_comm (15 - mask) (p % 16) ∙ sym (in_four (15 - mask) (omega arith)) in
      let own : bit_and mask (p % 16) ≡ bit_and p mask = and_comm mask (p % 16) ∙ sym (in_four mask l) in
      omega arith
    where
      in_four : (k : ℕ) → k ≤ 15 → bit_and p k ≡ bit_and (p % 16) k
      in_four k l =
          let e = and_mod p k 4 in
          let f : k % 16 ≡ k = omega arith in
          let g = and_le_r p k in
          let h : bit_and p k % 16 ≡ bit_and p k = omega arith in
          sym h ∙ rw f at e

  pub masked_part : mask ≤ 15 → bit_and p (15 - mask) + bits ≡ with_part p lane count bits
  masked_part l = omega (arith, others l, in_three)

-- one lane replaced, then those above it
module _ (p lane d : ℕ) (h : lane < 4) (k : d < 2) where
  abbrev low : ℕ
  low = p % 2 ^ lane + d * 2 ^ lane

  abbrev high : ℕ
  high = p % 16 / 2 ^ suc lane

  low_below : low < 2 ^ suc lane
  low_below = rw (pow-suc 2 lane, mul_comm (2 ^ lane) 2, add_comm (p % 2 ^ lane) (d * 2 ^ lane)) (digits_lt k (mod-lt p (pow_pos lane)))

  high_below : high * 2 ^ suc lane + low < 16
  high_below =
      let e : 2 ^ (3 - lane) * 2 ^ suc lane ≡ 16 = sym (pow-add 2 (3 - lane) (suc lane)) ∙ ap (λ (n : ℕ). 2 ^ n) (whole lane h) in
      let u : high < 2 ^ (3 - lane) = (div-lt_iff_lt-mul (pow_pos (suc lane))).1 (rw e (omega arith)) in
      rw e at (digits_lt u low_below)
    where
      whole : (n : ℕ) → n < 4 → 3 - n + suc n ≡ 4
      whole n h = omega arith

  one_lane : with_dp p lane d ≡ high * 2 ^ suc lane + low
  unfolding with_dp
  one_lane = let e : lane + 1 ≡ suc lane = omega arith in rw e (add_comm low (high * 2 ^ suc lane))

  pub lanes_above : (n e : ℕ) → with_part (with_dp p lane d) (suc lane) n (e * 2 ^ suc lane) ≡ with_part p lane (suc n) ((d + 2 * e) * 2 ^ lane)
  lanes_above n e =
      let f : suc lane + n ≡ lane + suc n = omega arith in
      rw (one_lane, mod-eq_of_lt high_below, digits_mod high low_below, ← f, ← shr-shr (high * 2 ^ suc lane + low) (suc lane) n, digits_div high low_below, shr-shr (p % 16) (suc lane) n)
      (ap (λ (x : ℕ). x + p % 16 / 2 ^ (suc lane + n) * 2 ^ (suc lane + n)) (rw (pow-suc 2 lane) (doubled (p % 2 ^ lane) e (2 ^ lane))))
    where
      doubled : (r e q : ℕ) → r + d * q + e * (q * 2) ≡ r + (d + 2 * e) * q
      doubled r e q =
          let a = sym (mul_assoc e q 2) in
          let b = add-mul d (2 * e) q in
          let c = mul_assoc 2 e q in
          rw (a, b, c) (omega arith)

-- the bits of bytes replaced one after another
with_dps : ℕ → ℕ → List ℕ → ℕ
with_dps p lane [] = p
with_dps p lane (b ∷ bytes) = with_dps (with_dp p lane (dp_of b)) (suc lane) bytes

-- and at once
at_once : (p lane b : ℕ) (bytes : List ℕ) → lane + length (b ∷ bytes) ≤ 4 → with_dps p lane (b ∷ bytes) ≡ with_part p lane (length (b ∷ bytes)) (dps_of (b ∷ bytes) * 2 ^ lane)
unfolding with_dps with_dp dps_of
at_once p lane b [] h = rw (add-zero (dp_of b))
at_once p lane b (b' ∷ bytes) h =
    at_once (with_dp p lane (dp_of b)) (suc lane) b' bytes (omega arith)
    ∙ lanes_above p lane (dp_of b) (omega arith) (dp_below b) (length (b' ∷ bytes)) (dps_of (b' ∷ bytes))

number_at_once : (p lane count v : ℕ) → 0 < count → lane + count ≤ 4 → with_dps p lane (bytes_of count v) ≡ with_part p lane count (dps_of (bytes_of count v) * 2 ^ lane)
unfolding bytes_of
number_at_once p lane zero v some h = absurd (omega arith)
number_at_once p lane (suc n) v some h =
    let e = of_length n (v / 256) in
    rw e at (at_once p lane (v % 256) (bytes_of n (v / 256)) (rw e h))

-- bytes stored within one doubleword
in_one : (m : Memory) (i lane : ℕ) (bytes : List ℕ) → lane + length bytes ≤ 4 → i < length m.parity →
    memory (sets m.ram (4 * i + lane) bytes) (set m.parity i (with_dps (get_or m.parity i 0) lane bytes)) ≡ stored m (4 * i + lane) bytes
unfolding stored put with_dps
in_one m i lane [] h k = rw (set-get_or m.parity i 0)
in_one m i lane (b ∷ bytes) h k =
    let a = 4 * i + lane in
    let e : a / 4 ≡ i = omega arith in
    let f : a % 4 ≡ lane = omega arith in
    let g : suc a ≡ 4 * i + suc lane = omega arith in
    let q = with_dp (get_or m.parity i 0) lane (dp_of b) in
    let next = in_one (memory (set m.ram a b) (set m.parity i q)) i (suc lane) bytes (omega arith) (rw length-set k) in
    rw (e, f, g) (rw (get_or-set_same m.parity i q 0 k, set-set) at next)

-- LANES STORED

-- the parity byte with the bits of the lanes of a doubleword replaced, whose other lanes are 0
module _ (m : Memory) (base lane count word bits : ℕ) (some : 0 < count) (h : lane + count ≤ 4) (al : base % 4 ≡ 0) (room : base / 4 < length m.parity)
    (is : word ≡ lanes_word word lane count) (own : bits ≡ dps_of (bytes_of 4 word)) where
  in_place : bits ≡ dps_of (bytes_of count (lanes_value word lane count)) * 2 ^ lane
  unfolding lanes_word lanes_value
  in_place = own ∙ ap (λ (w : ℕ). dps_of (bytes_of 4 w)) is ∙ bits_placed lane count (lanes_value word lane count) h (mod-lt _ (powers_some count))

  pub lanes_stored : memory (sets m.ram (base + lane) (bytes_of count (lanes_value word lane count))) (set m.parity (base / 4) (with_part (get_or m.parity (base / 4) 0) lane count bits))
      ≡ stored m (base + lane) (bytes_of count (lanes_value word lane count))
  lanes_stored =
      let e : 4 * (base / 4) ≡ base = omega arith in
      let v = lanes_value word lane count in
      rw (in_place, ← number_at_once (get_or m.parity (base / 4) 0) lane count v some h)
      (rw e at (in_one m (base / 4) lane (bytes_of count v) (rw (of_length count v) h) room))

-- Some lanes of a doubleword: the number of their bytes as a part of the doubleword's number, and bytes replaced in it.
use Prim.Native.Nat.{ℕ, zero, suc, ◌+◌, ◌*◌, ◌-◌, ◌/◌, ◌%◌, ◌^◌, ◌≤◌, ◌<◌}
use mathlib.Core.Path.{◌≡◌, refl, sym, ◌∙◌, ap}
use mathlib.Core.List.{List, ◌++◌, append_assoc}
use native.Mathlib.Omega.{arith}
use native.Mathlib.Nat.{one-mul, add_comm}
use lib.Arith.{digits_div, digits_mod}
use lib.ListN.{length, get_or, take, drop, replicate}
use lib.Pow.{pow_pos, shl_exact}
use lib.Seq.{sets-eq, length-take-le}
use Rattle.words.specs.Bytes.{bytes_at, value_of, word_in, lanes_value, lanes_word}
use Rattle.words.proofs.Places.{bytes_length}
use Rattle.words.proofs.Spans.{bytes_split}
use Rattle.words.proofs.Numbers.{byte_powers, value_append, bytes_small, value_below}

-- SHIFTS BY WHOLE BYTES

-- a power of 256 is not 0
pub powers_some : (n : ℕ) → 0 < 256 ^ n
powers_some n = rw (byte_powers n) (pow_pos (8 * n))

-- a number shifted by whole bytes, at a width that holds it
pub bytes_shifted : (w v n k : ℕ) → v < 256 ^ n → 8 * n + 8 * k ≤ w → v * 2 ^ (8 * k) % 2 ^ w ≡ v * 256 ^ k
bytes_shifted w v n k h l =
    let b : v < 2 ^ (8 * n) = rw (byte_powers n) at h in
    rw (byte_powers k) (shl_exact (8 * n) (8 * k) w b l)

-- a one shifted by whole bytes
pub one_shifted : (n : ℕ) → n ≤ 4 → 1 * 2 ^ (8 * n) % 2 ^ 64 ≡ 256 ^ n
one_shifted n h = bytes_shifted 64 1 1 n (omega arith) (omega arith) ∙ one-mul (256 ^ n)

-- A NUMBER IN THREE PARTS

-- a number below others, so many powers above it
module _ (p q x y z : ℕ) (h : x < p) (k : y < q) where
  middle_part : (x + (y + z * q) * p) / p % q ≡ y
  middle_part = rw (add_comm x ((y + z * q) * p), digits_div (y + z * q) h, add_comm y (z * q), digits_mod z k)

-- DOUBLEWORDS OF BYTES

-- zeros say 0
taken_zeros : (n i : ℕ) → value_of (take i (replicate n 0)) ≡ 0
unfolding value_of
taken_zeros n zero = refl
taken_zeros zero (suc i) = refl
taken_zeros (suc n) (suc i) = rw (taken_zeros n i)

left_zeros : (n i : ℕ) → value_of (drop i (replicate n 0)) ≡ 0
unfolding value_of
left_zeros zero zero = refl
left_zeros (suc n) zero = rw (left_zeros n zero)
left_zeros zero (suc i) = refl
left_zeros (suc n) (suc i) = left_zeros n i

-- the doubleword of bytes in a lane is their number, so many powers up
pub word_in_lem : (lane : ℕ) (bytes : List ℕ) → lane + length bytes ≤ 4 → word_in lane bytes ≡ value_of bytes * 256 ^ lane
word_in_lem lane bytes h =
    let zeros = replicate {A = ℕ} 4 0 in
    let n : length (take lane zeros) ≡ lane = length-take-le lane zeros (omega arith) in
    ap value_of (sets-eq bytes zeros lane h ∙ append_assoc (take lane zeros) bytes (drop (lane + length bytes) zeros))
    ∙ value_append (take lane zeros) (bytes ++ drop (lane + length bytes) zeros)
    ∙ rw (taken_zeros 4 lane, n, value_append bytes (drop (lane + length bytes) zeros), left_zeros 4 (lane + length bytes)) (plain (value_of bytes) (256 ^ length bytes) (256 ^ lane))
  where
    plain : (v p q : ℕ) → 0 + (v + 0 * p) * q ≡ v * q
    plain v p q = let e : v + 0 * p ≡ v = omega arith in rw e (omega arith)

-- the doubleword of four bytes is their number
pub word_of_all : (l : List ℕ) (b : ℕ) → word_in 0 (bytes_at l b 4) ≡ value_of (bytes_at l b 4)
unfolding bytes_at
word_of_all l b = refl

-- a span of bytes in three
pub in_three : (l : List ℕ) (b lane count rest : ℕ) → lane + (count + rest) ≡ 4 →
    value_of (bytes_at l b 4) ≡ value_of (bytes_at l b lane) + (value_of (bytes_at l (b + lane) count) + value_of (bytes_at l (b + lane + count) rest) * 256 ^ count) * 256 ^ lane
in_three l b lane count rest e =
    ap (λ (n : ℕ). value_of (bytes_at l b n)) (sym e)
    ∙ rw (bytes_split l b lane (count + rest), bytes_split l (b + lane) count rest)
    (value_append (bytes_at l b lane) _
    ∙ rw (value_append (bytes_at l (b + lane) count) (bytes_at l (b + lane + count) rest), bytes_length l b lane, bytes_length l (b + lane) count))

module _ (l : List ℕ) (small : (i : ℕ) → get_or l i 0 < 256) (b lane count : ℕ) (h : lane + count ≤ 4) where
  span_below : (i n : ℕ) → value_of (bytes_at l i n) < 256 ^ n
  span_below i n = rw (bytes_length l i n) at (value_below (bytes_at l i n) (bytes_small l small i n))

  -- the number of some bytes of a doubleword is the lanes' value
  pub value_in_lanes : value_of (bytes_at l (b + lane) count) ≡ lanes_value (value_of (bytes_at l b 4)) lane count
  unfolding lanes_value
  value_in_lanes =
      rw (in_three l b lane count (4 - (lane + count)) (omega arith))
      (sym (middle_part (256 ^ lane) (256 ^ count) _ _ _ (span_below b lane) (span_below (b + lane) count)))

  -- some bytes of a doubleword in their own lanes
  pub word_in_lanes : word_in lane (bytes_at l (b + lane) count) ≡ lanes_word (word_in 0 (bytes_at l b 4)) lane count
  unfolding lanes_word
  word_in_lanes =
      let n = bytes_length l (b + lane) count in
      word_in_lem lane (bytes_at l (b + lane) count) (rw n h)
      ∙ rw (value_in_lanes, word_of_all l b)

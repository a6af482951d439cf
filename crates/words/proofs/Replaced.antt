-- Some lanes of a doubleword of a list replaced: what putting back the whole doubleword with them does.
use Prim.Native.Nat.{ℕ, zero, suc, ◌+◌, ◌*◌, ◌-◌, ◌/◌, ◌%◌, ◌^◌, ◌≤◌, ◌<◌}
use mathlib.Core.Path.{◌≡◌, refl, sym, ◌∙◌, ap}
use mathlib.Core.Logic.{⊎_elim}
use mathlib.Core.List.{List, ◌++◌}
use native.Mathlib.Omega.{arith}
use native.Mathlib.Nat.{add-zero, div-one, eq-or-lt_of_le, pow-suc, add-mul, mod-le, mod-lt, mod-eq_of_lt, mul-le-mul_right, div-mul-le_self}
use lib.ListN.{length, get_or, length-append}
use lib.Pow.{pow_mono}
use lib.Seq.{sets, set-get_or}
use Rattle.laws.proofs.Lists.{sets_append}
use Rattle.words.specs.Bytes.{bytes_at, bytes_of, value_of, word_in, lanes_mask, lanes_value, lanes_word}
use Rattle.words.proofs.Places.{bytes_length, sets_above}
use Rattle.words.proofs.Spans.{bytes_same}
use Rattle.words.proofs.Numbers.{Small, value_append, append_small, bytes_small, of_small, of_length, value_below, bytes_of_value, value_of_bytes, bytes_of_lower}
use Rattle.words.proofs.Parts.{powers_some, in_three, value_in_lanes, word_of_all}

-- the bytes of a list put back change nothing
sets_back : (l : List ℕ) (i n : ℕ) → sets l i (bytes_at l i n) ≡ l
unfolding bytes_at
sets_back l i zero = refl
sets_back l i (suc n) = ap (λ (k : List ℕ). sets k (suc i) (bytes_at l (suc i) n)) (set-get_or l i 0) ∙ sets_back l (suc i) n

-- the lanes of a number in their places are at most the number
pub lanes_at_most : (w lane count : ℕ) → lanes_word w lane count ≤ w
unfolding lanes_word lanes_value
lanes_at_most w lane count =
    let p = 256 ^ lane in
    omega (arith, mul-le-mul_right p (mod-le (w / p) (256 ^ count)), div-mul-le_self w p)

module _ (l : List ℕ) (small : (i : ℕ) → get_or l i 0 < 256) (b lane : ℕ) (bytes : List ℕ) (low : Small bytes) (h : lane + length bytes ≤ 4) where
  -- the bytes of the doubleword with some of them replaced
  abbrev replaced : List ℕ
  replaced = bytes_at l b lane ++ (bytes ++ bytes_at l (b + lane + length bytes) (4 - (lane + length bytes)))

  replaced_length : length replaced ≡ 4
  replaced_length = simp (length-append, bytes_length) (omega arith)

  replaced_small : Small replaced
  replaced_small = append_small (bytes_at l b lane) _ (bytes_small l small b lane) (append_small bytes _ low (bytes_small l small _ _))

  -- put in whole they are the replacing ones put in
  replaced_put : sets l b replaced ≡ sets l (b + lane) bytes
  replaced_put =
      let at = b + lane + length bytes in
      let n = 4 - (lane + length bytes) in
      let k = sets l (b + lane) bytes in
      let e : bytes_at l at n ≡ bytes_at k at n = bytes_same l k at at n (λ o u. sym (sets_above l (b + lane) bytes (at + o) (omega arith))) in
      sets_append l b (bytes_at l b lane) (bytes ++ bytes_at l at n)
      ∙ rw (sets_back l b lane, bytes_length l b lane, sets_append l (b + lane) bytes (bytes_at l at n), e) (sets_back k at n)

  -- the number that they say
  replaced_value : value_of (bytes_at l b 4) - lanes_word (value_of (bytes_at l b 4)) lane (length bytes) + value_of bytes * 256 ^ lane ≡ value_of replaced
  unfolding lanes_word
  replaced_value =
      let at = b + lane + length bytes in
      let n = 4 - (lane + length bytes) in
      let e = value_in_lanes l small b lane (length bytes) h in
      let whole = in_three l b lane (length bytes) n (omega arith) in
      rw (← e, whole, value_append (bytes_at l b lane) (bytes ++ bytes_at l at n), value_append bytes (bytes_at l at n), bytes_length l b lane)
      (changed (value_of (bytes_at l b lane)) (value_of (bytes_at l (b + lane) (length bytes))) (value_of bytes) (value_of (bytes_at l at n) * 256 ^ length bytes) (256 ^ lane))
    where
      changed : (x y v z p : ℕ) → x + (y + z) * p - y * p + v * p ≡ x + (v + z) * p
      changed x y v z p = rw (add-mul y z p, add-mul v z p) (omega arith)

  -- the doubleword put back with some bytes replaced
  bytes_replaced : sets l b (bytes_of 4 (value_of (bytes_at l b 4) - lanes_word (value_of (bytes_at l b 4)) lane (length bytes) + value_of bytes * 256 ^ lane)) ≡ sets l (b + lane) bytes
  bytes_replaced = rw replaced_value (ap (sets l b) (rw replaced_length at (bytes_of_value replaced replaced_small)) ∙ replaced_put)

  bytes_below : value_of (bytes_at l b 4) - lanes_word (value_of (bytes_at l b 4)) lane (length bytes) + value_of bytes * 256 ^ lane < 256 ^ 4
  bytes_below = rw replaced_value (rw replaced_length at (value_below replaced replaced_small))

-- the doubleword put back with the lanes of another one, whose other lanes are 0
module _ (l : List ℕ) (small : (i : ℕ) → get_or l i 0 < 256) (b lane count word old own : ℕ) (h : lane + count ≤ 4) (is : word ≡ lanes_word word lane count)
    (from : old ≡ word_in 0 (bytes_at l b 4)) (part : own ≡ lanes_word old lane count) where
  abbrev bytes : List ℕ
  bytes = bytes_of count (lanes_value word lane count)

  room : lane + length bytes ≤ 4
  room = rw (of_length count (lanes_value word lane count)) h

  mixed : old - own + word ≡ value_of (bytes_at l b 4) - lanes_word (value_of (bytes_at l b 4)) lane (length bytes) + value_of bytes * 256 ^ lane
  unfolding lanes_word lanes_value
  mixed =
      let v = lanes_value word lane count in
      let e : old ≡ value_of (bytes_at l b 4) = from ∙ word_of_all l b in
      let u : word ≡ v % 256 ^ count * 256 ^ lane = is ∙ rw (mod-eq_of_lt {n = v} {m = 256 ^ count} (mod-lt _ (powers_some count))) in
      rw (of_length count v, value_of_bytes count v, part, ← u, e)

  pub lanes_put : sets l b (bytes_of 4 (old - own + word)) ≡ sets l (b + lane) bytes
  lanes_put = rw mixed (bytes_replaced l small b lane bytes (of_small count _) room)

  pub lanes_fit : old - own + word < 2 ^ 32
  lanes_fit = rw mixed (bytes_below l small b lane bytes (of_small count _) room)

-- the mask of all four lanes is of no others
pub whole_mask : (lane count : ℕ) → lane + count ≤ 4 → lanes_mask lane count ≡ 15 → (lane ≡ 0) × (count ≡ 4)
unfolding lanes_mask
whole_mask zero count h e =
    let m = rw (add-zero count) at e in
    let few : count < 4 → count ≡ 4 = λ k. absurd (omega (arith, m, pow_mono {i = count} {j = 3} (omega arith))) in
    (refl, ⊎_elim (λ k. k) few (eq-or-lt_of_le {n = count} {m = 4} (omega arith)))
whole_mask (suc lane) count h e =
    let s : count + suc lane ≡ suc (count + lane) = omega arith in
    let k = rw (s, pow-suc 2 lane, pow-suc 2 (count + lane)) at e in
    absurd (omega arith)

-- the bytes of a whole doubleword
pub whole_put : (l : List ℕ) (b lane count word : ℕ) → (lane ≡ 0) × (count ≡ 4) → sets l b (bytes_of 4 word) ≡ sets l (b + lane) (bytes_of count (lanes_value word lane count))
unfolding lanes_value
whole_put l b lane count word w = rw (w.0, w.1, add-zero b, div-one word, bytes_of_lower 4 word)

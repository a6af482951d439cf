-- Masks of lanes: the bits that a mask names, and what an `and` with them leaves.
use Prim.Native.Nat.{ℕ, zero, suc, ◌+◌, ◌*◌, ◌-◌, ◌/◌, ◌%◌, ◌^◌, ◌≤◌, ◌<◌}
use mathlib.Core.Path.{◌≡◌, refl, sym, ◌∙◌, ap}
use mathlib.Core.List.{List, [], ◌∷◌}
use native.Mathlib.Omega.{arith}
use native.Mathlib.Nat.{mod-eq_of_lt, one-mul}
use lib.Bits.{bit_and, and_high}
use lib.ListN.{get_or}
use lib.Pow.{pow_pos, pow_mono, high_ones, shl_exact, shl-shr, field, mod-mod-pow}
use Rattle.words.specs.Bytes.{lanes_mask, lanes_value, lanes_word}
use Rattle.words.proofs.Numbers.{byte_powers}

-- a mask of four lanes is below 16
pub mask_below : (lane count : ℕ) → lane + count ≤ 4 → lanes_mask lane count ≤ 15
unfolding lanes_mask
mask_below lane count h =
    let a = pow_pos lane in
    let e : count + lane ≤ 4 = omega arith in
    let b : 2 ^ (count + lane) ≤ 2 ^ 4 = pow_mono e in
    omega arith

-- a 1 shifted, in 32 bits
pub one_shl : (n : ℕ) → n < 32 → 1 * 2 ^ n % 2 ^ 32 ≡ 2 ^ n
one_shl n h = shl_exact {a = 1} 1 n 32 (omega arith) (omega arith) ∙ one-mul (2 ^ n)

-- a mask by shifts, in 32 bits
pub mask_shifted : (lane count : ℕ) → lane + count ≤ 4 → (1 * 2 ^ count % 2 ^ 32 - 1) * 2 ^ lane % 2 ^ 32 ≡ lanes_mask lane count
unfolding lanes_mask
mask_shifted lane count h =
    let b = mask_below lane count h in
    rw (one_shl count (omega arith), sym (high_ones count lane)) (mod-eq_of_lt (omega arith))

-- the bits of the lanes that each mask names
abbrev pub lane_bits : List ℕ
lane_bits =
    0 ∷ 255 ∷ 65280 ∷ 65535 ∷ 16711680 ∷ 16711935 ∷ 16776960 ∷ 16777215 ∷ 4278190080 ∷ 4278190335 ∷ 4278255360 ∷ 4278255615 ∷ 4294901760 ∷ 4294902015 ∷ 4294967040 ∷ 4294967295 ∷ []

bits_in_table : (lane count : ℕ) → lane + count ≤ 4 → get_or lane_bits (lanes_mask lane count) 0 ≡ 2 ^ (8 * count + 8 * lane) - 2 ^ (8 * lane)
unfolding lanes_mask
bits_in_table zero zero h = refl
bits_in_table zero (suc zero) h = refl
bits_in_table zero (suc (suc zero)) h = refl
bits_in_table zero (suc (suc (suc zero))) h = refl
bits_in_table zero (suc (suc (suc (suc zero)))) h = refl
bits_in_table (suc zero) zero h = refl
bits_in_table (suc zero) (suc zero) h = refl
bits_in_table (suc zero) (suc (suc zero)) h = refl
bits_in_table (suc zero) (suc (suc (suc zero))) h = refl
bits_in_table (suc (suc zero)) zero h = refl
bits_in_table (suc (suc zero)) (suc zero) h = refl
bits_in_table (suc (suc zero)) (suc (suc zero)) h = refl
bits_in_table (suc (suc (suc zero))) zero h = refl
bits_in_table (suc (suc (suc zero))) (suc zero) h = refl
bits_in_table (suc (suc (suc (suc zero)))) zero h = refl
bits_in_table zero (suc (suc (suc (suc (suc c))))) h = omega arith
bits_in_table (suc zero) (suc (suc (suc (suc c)))) h = omega arith
bits_in_table (suc (suc zero)) (suc (suc (suc c))) h = omega arith
bits_in_table (suc (suc (suc zero))) (suc (suc c)) h = omega arith
bits_in_table (suc (suc (suc (suc zero)))) (suc c) h = omega arith
bits_in_table (suc (suc (suc (suc (suc l))))) c h = omega arith

-- the entry of a mask
pub mask_bits : (mask lane count : ℕ) → lane + count ≤ 4 → mask ≡ lanes_mask lane count → get_or lane_bits (mask % 16) 0 ≡ 2 ^ (8 * count + 8 * lane) - 2 ^ (8 * lane)
mask_bits mask lane count h m =
    let b = mask_below lane count h in
    let e : mask % 16 ≡ lanes_mask lane count = omega arith in
    rw e (bits_in_table lane count h)

-- an `and` with the bits of some lanes leaves these
pub masked_word : (word lane count : ℕ) → bit_and word (2 ^ (8 * count + 8 * lane) - 2 ^ (8 * lane)) ≡ lanes_word word lane count
unfolding lanes_word lanes_value
masked_word word lane count = and_high word (8 * count) (8 * lane) ∙ rw (byte_powers lane, byte_powers count)

-- bytes of a number moved into lanes and masked
pub placed_masked : (value place lane count : ℕ) → lane + count ≤ 4 →
    lanes_word (value / 2 ^ (8 * place) * 2 ^ (8 * lane) % 2 ^ 64 % 2 ^ 32) lane count ≡ lanes_value value place count * 256 ^ lane
unfolding lanes_word lanes_value
placed_masked value place lane count h =
    let j = 8 * (4 - lane) in
    let v = value / 2 ^ (8 * place) in
    let l = mod-mod-pow (v * 2 ^ (8 * lane)) 32 32 in
    let e : 32 ≡ j + 8 * lane = omega arith in
    let f : j ≡ (j - 8 * count) + 8 * count = omega arith in
    let a : v * 2 ^ (8 * lane) % 2 ^ 32 / 2 ^ (8 * lane) ≡ v % 2 ^ j = ap (λ (n : ℕ). v * 2 ^ (8 * lane) % 2 ^ n / 2 ^ (8 * lane)) e ∙ field (v * 2 ^ (8 * lane)) j (8 * lane) ∙ rw (shl-shr v (8 * lane)) in
    let b : v % 2 ^ j % 2 ^ (8 * count) ≡ v % 2 ^ (8 * count) = ap (λ (n : ℕ). v % 2 ^ n % 2 ^ (8 * count)) f ∙ mod-mod-pow v (j - 8 * count) (8 * count) in
    rw (byte_powers lane, byte_powers count, byte_powers place, l, a, b)

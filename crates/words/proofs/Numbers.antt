-- Bytes as numbers: the number of bytes that follow others, the bytes of a number, and how the two go into each other.
use Prim.Native.Nat.{ℕ, zero, suc, ◌+◌, ◌*◌, ◌/◌, ◌%◌, ◌^◌, ◌≤◌, ◌<◌}
use mathlib.Core.Path.{◌≡◌, refl, sym, ◌∙◌, ap}
use mathlib.Core.List.{List, [], ◌∷◌, ◌++◌}
use native.Mathlib.Omega.{arith}
use native.Mathlib.Nat.{pow-suc, mul_assoc, mul_comm, div-div-eq-div-mul}
use lib.ListN.{length, get_or}
use lib.Pow.{pow-add, mod-pow-add}
use Rattle.words.specs.Bytes.{bytes_at, bytes_of, value_of}

-- a power of 256 as one of 2
pub byte_powers : (n : ℕ) → 256 ^ n ≡ 2 ^ (8 * n)
byte_powers zero = refl
byte_powers (suc n) =
    let e : 8 * suc n ≡ 8 * n + 8 = omega arith in
    rw (e, pow-suc 256 n, pow-add 2 (8 * n) 8, byte_powers n)

-- the number of some bytes and others above them
pub value_append : (a b : List ℕ) → value_of (a ++ b) ≡ value_of a + value_of b * 256 ^ length a
unfolding value_of
value_append [] b = omega arith
value_append (x ∷ a) b =
    let e = value_append a b in
    let f : value_of b * 256 ^ suc (length a) ≡ 256 * (value_of b * 256 ^ length a) = ap (λ (y : ℕ). value_of b * y) (pow-suc 256 (length a)) ∙ sym (mul_assoc (value_of b) (256 ^ length a) 256) ∙ mul_comm (value_of b * 256 ^ length a) 256 in
    rw f (sum x (value_of a) (value_of b * 256 ^ length a) (value_of (a ++ b)) e)
  where
    sum : (x a y s : ℕ) → s ≡ a + y → x + 256 * s ≡ x + 256 * a + 256 * y
    sum x a y s e = omega arith

-- each below 256
abbrev pub Small : List ℕ → Type 0
Small [] = Unit {0}
Small (b ∷ l) = (b < 256) × Small l

-- bytes of a list of bytes, those of a number, and bytes after others
pub bytes_small : (l : List ℕ) → ((i : ℕ) → get_or l i 0 < 256) → (i n : ℕ) → Small (bytes_at l i n)
unfolding bytes_at
bytes_small l h i zero = tt
bytes_small l h i (suc n) = (h i, bytes_small l h (suc i) n)

pub of_small : (n v : ℕ) → Small (bytes_of n v)
unfolding bytes_of
of_small zero v = tt
of_small (suc n) v = (omega arith, of_small n (v / 256))

pub append_small : (a b : List ℕ) → Small a → Small b → Small (a ++ b)
append_small [] b h k = k
append_small (x ∷ a) b h k = (h.0, append_small a b h.1 k)

-- bytes say a number below a power of 256
pub value_below : (l : List ℕ) → Small l → value_of l < 256 ^ length l
unfolding value_of
value_below [] h = omega arith
value_below (b ∷ l) h =
    let e : value_of l < 256 ^ length l = value_below l h.1 in
    rw (pow-suc 256 (length l)) (omega arith)

-- the bytes of the number that bytes say are these
pub bytes_of_value : (l : List ℕ) → Small l → bytes_of (length l) (value_of l) ≡ l
unfolding value_of bytes_of
bytes_of_value [] h = refl
bytes_of_value (b ∷ l) h =
    let e : (b + 256 * value_of l) % 256 ≡ b = omega arith in
    let f : (b + 256 * value_of l) / 256 ≡ value_of l = omega arith in
    rw (e, f, bytes_of_value l h.1)

-- as many bytes as are asked for
pub of_length : (n v : ℕ) → length (bytes_of n v) ≡ n
unfolding bytes_of
of_length zero v = refl
of_length (suc n) v = ap suc (of_length n (v / 256))

-- the number of the bytes of a number
pub value_of_bytes : (n v : ℕ) → value_of (bytes_of n v) ≡ v % 256 ^ n
unfolding value_of bytes_of
value_of_bytes zero v = omega arith
value_of_bytes (suc n) v =
    let e : 8 * suc n ≡ 8 * n + 8 = omega arith in
    rw (byte_powers (suc n), e, mod-pow-add v (8 * n) 8, value_of_bytes n (v / 256), byte_powers n) (omega arith)

-- only the lower bytes of a number matter
pub bytes_of_lower : (n v : ℕ) → bytes_of n (v % 256 ^ n) ≡ bytes_of n v
bytes_of_lower n v =
    let e = bytes_of_value (bytes_of n v) (of_small n v) in
    rw (← value_of_bytes n v) (rw (of_length n v) at e)

-- one byte of a number
byte_of : (m v i : ℕ) → i < m → get_or (bytes_of m v) i 0 ≡ v / 256 ^ i % 256
unfolding bytes_of
byte_of zero v i h = absurd (omega arith)
byte_of (suc m) v zero h = omega arith
byte_of (suc m) v (suc i) h =
    let e : v / 256 ^ suc i ≡ v / 256 / 256 ^ i = rw (pow-suc 256 i, mul_comm (256 ^ i) 256) (sym (div-div-eq-div-mul v 256 (256 ^ i))) in
    rw e (byte_of m (v / 256) i (omega arith))

-- so many bytes of a number, from a place on
pub bytes_of_part : (m v p n : ℕ) → p + n ≤ m → bytes_at (bytes_of m v) p n ≡ bytes_of n (v / 256 ^ p)
unfolding bytes_at bytes_of
bytes_of_part m v p zero h = refl
bytes_of_part m v p (suc n) h =
    let e : v / 256 ^ p / 256 ≡ v / 256 ^ suc p = div-div-eq-div-mul v (256 ^ p) 256 ∙ rw (pow-suc 256 p) in
    rw (byte_of m v p (omega arith), e, bytes_of_part m v (suc p) n (omega arith))

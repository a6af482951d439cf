-- Laws of hex pairs, and of the bytes that they say put at the start of zeros.
use Prim.Native.Nat.{ℕ, suc, ◌+◌, ◌*◌, ◌/◌, ◌≤◌, ◌<◌}
use mathlib.Core.Path.{◌≡◌, refl, sym, ap, ◌∙◌}
use mathlib.Core.Bool.{Bool, ◌&&◌, and_assoc, and-true}
use mathlib.Core.List.{List, [], ◌∷◌}
use native.Mathlib.Numerals.{add-one}
use native.Mathlib.Omega.{arith}
use lib.ListN.{length, take, drop, get_or, set, replicate, length-drop, length-replicate, drop_of_length-le}
use lib.Seq.{sets, drop-cons, take_at, sets-eq, length-sets}
use Rattle.std.specs.List.{list_all}
use Rattle.fields.specs.Fields.{hex_of, pair_bytes}

-- what was found of the bytes before the k-th takes in the k-th, and at the end it is what was found of all
pub all_and : (test : ℕ → Bool) (l : List ℕ) (k : ℕ) (found : Bool) → k < length l → (found && test (get_or l k 0) && list_all test (drop (k + 1) l)) ≡ (found && list_all test (drop k l))
all_and test l k found h = rw (add-one k, drop-cons l k 0, and_assoc)

pub all_and_end : (test : ℕ → Bool) (l : List ℕ) (k : ℕ) (found : Bool) → length l ≤ k → (found && list_all test (drop k l)) ≡ found
all_and_end test l k found h = rw (drop_of_length-le l h) (and-true found)

-- the next pair
pairs_cons : (l : List ℕ) (k : ℕ) → 2 * k + 1 < length l → pair_bytes (drop (2 * k) l) ≡ (hex_of (get_or l (2 * k) 0) * 16 + hex_of (get_or l (2 * k + 1) 0)) ∷ pair_bytes (drop (2 * (k + 1)) l)
unfolding pair_bytes
pairs_cons l k h =
    let e : 2 * (k + 1) ≡ suc (suc (2 * k)) = omega arith in
    rw (e, add-one (2 * k), drop-cons l (2 * k) 0 (omega arith), drop-cons l (suc (2 * k)) 0 (omega arith))

pub pair_next : (out l : List ℕ) (k high low : ℕ)
    → 2 * k + 1 < length l
    → high ≡ hex_of (get_or l (2 * k) 0)
    → low ≡ hex_of (get_or l (2 * k + 1) 0)
    → sets (set out k (high * 16 + low)) (k + 1) (pair_bytes (drop (2 * (k + 1)) l)) ≡ sets out k (pair_bytes (drop (2 * k) l))
pair_next out l k high low h e f = rw (e, f, pairs_cons l k h, add-one k)

-- less than a pair says no byte
pairs_short : (l : List ℕ) → length l ≤ 1 → pair_bytes l ≡ []
unfolding pair_bytes
pairs_short [] h = refl
pairs_short (c ∷ []) h = refl
pairs_short (c ∷ d ∷ l) h = absurd (omega (arith, h))

pub pair_none : (out l : List ℕ) (k : ℕ) → length l / 2 ≤ k → sets out k (pair_bytes (drop (2 * k) l)) ≡ out
pair_none out l k h = rw (pairs_short (drop (2 * k) l) (omega (arith, length-drop (2 * k) l)))

pub pairs_length : (l : List ℕ) → length (pair_bytes l) ≡ length l / 2
unfolding pair_bytes
pairs_length [] = omega arith
pairs_length (c ∷ []) = omega arith
pairs_length (c ∷ d ∷ l) = omega (arith, pairs_length l)

-- bytes put at the start of zeros are what the start then holds
front_bytes : (n : ℕ) (bytes : List ℕ) → length bytes ≤ n → take (length bytes) (sets (replicate n 0) 0 bytes) ≡ bytes
front_bytes n bytes h =
    rw (sets-eq bytes (replicate n 0) 0 (omega (arith, length-replicate {A = ℕ} n 0))) (take_at bytes _ (length bytes) refl)

-- a count of bytes put at the start of zeros is within them, and takes those bytes
pub front_count : (n count : ℕ) (bytes zeros : List ℕ)
    → count ≡ length bytes
    → zeros ≡ sets (replicate n 0) 0 bytes
    → length bytes ≤ n
    → (count ≤ length zeros) × (count ≡ length (take count zeros)) × (take count zeros ≡ bytes)
front_count n count bytes zeros c z h =
    let t : take count zeros ≡ bytes = rw (c, z) (front_bytes n bytes h) in
    let l : length zeros ≡ n = rw z (length-sets (replicate n 0) 0 bytes ∙ length-replicate {A = ℕ} n 0) in
    (omega (arith, c, l), c ∙ ap length (sym t), t)

-- Bytes read from a list, and put into one from a place on, byte by byte.
use Prim.Native.Nat.{ℕ, zero, suc, ◌+◌, ◌≤◌, ◌<◌}
use mathlib.Core.Path.{◌≡◌, refl, ◌∙◌, ap}
use mathlib.Core.List.{List, [], ◌∷◌}
use native.Mathlib.Omega.{arith}
use native.Mathlib.Nat.{add-zero}
use lib.ListN.{length, get_or, set, replicate, length-set}
use lib.Seq.{sets, get_or-set_same, get_or-set_other}
use Rattle.words.specs.Bytes.{bytes_at}

-- as many bytes as are read
pub bytes_length : (l : List ℕ) (i n : ℕ) → length (bytes_at l i n) ≡ n
unfolding bytes_at
bytes_length l i zero = refl
bytes_length l i (suc n) = ap suc (bytes_length l (suc i) n)

-- a byte of those read
pub bytes_at_lem : (l : List ℕ) (i n o : ℕ) → o < n → get_or (bytes_at l i n) o 0 ≡ get_or l (i + o) 0
unfolding bytes_at
bytes_at_lem l i zero o h = absurd (omega arith)
bytes_at_lem l i (suc n) zero h = rw (add-zero i)
bytes_at_lem l i (suc n) (suc o) h = let e : i + suc o ≡ suc i + o = omega arith in rw e (bytes_at_lem l (suc i) n o (omega arith))

-- below and above what is put in, nothing changes
pub sets_below : (l : List ℕ) (i : ℕ) (x : List ℕ) (k : ℕ) → k < i → get_or (sets l i x) k 0 ≡ get_or l k 0
sets_below l i [] k h = refl
sets_below l i (b ∷ x) k h = sets_below (set l i b) (suc i) x k (omega arith) ∙ get_or-set_other l i k b 0 (λ e. omega arith)

pub sets_above : (l : List ℕ) (i : ℕ) (x : List ℕ) (k : ℕ) → i + length x ≤ k → get_or (sets l i x) k 0 ≡ get_or l k 0
sets_above l i [] k h = refl
sets_above l i (b ∷ x) k h = sets_above (set l i b) (suc i) x k (omega arith) ∙ get_or-set_other l i k b 0 (λ e. omega arith)

-- what is put in is there
pub sets_in : (l : List ℕ) (i : ℕ) (x : List ℕ) (o : ℕ) → o < length x → i + o < length l → get_or (sets l i x) (i + o) 0 ≡ get_or x o 0
sets_in l i [] o h b = absurd (omega arith)
sets_in l i (v ∷ x) zero h b =
    rw (add-zero i) (sets_below (set l i v) (suc i) x i (omega arith) ∙ get_or-set_same l i v 0 (omega arith))
sets_in l i (v ∷ x) (suc o) h b =
    let e : i + suc o ≡ suc i + o = omega arith in
    rw e (sets_in (set l i v) (suc i) x o (omega arith) (rw length-set (omega arith)))

-- a list of zeros has 0 everywhere
pub zeros_at : (n i : ℕ) → ◌≡◌ {A = ℕ} (get_or (replicate n 0) i 0) 0
zeros_at zero i = refl
zeros_at (suc n) zero = refl
zeros_at (suc n) (suc i) = zeros_at n i

-- all bytes of a list
bytes_shift : (x : ℕ) (l : List ℕ) (i n : ℕ) → bytes_at (x ∷ l) (suc i) n ≡ bytes_at l i n
unfolding bytes_at
bytes_shift x l i zero = refl
bytes_shift x l i (suc n) = ap (λ (r : List ℕ). get_or l i 0 ∷ r) (bytes_shift x l (suc i) n)

pub bytes_all : (l : List ℕ) → bytes_at l 0 (length l) ≡ l
unfolding bytes_at
bytes_all [] = refl
bytes_all (x ∷ l) = ap (λ (r : List ℕ). x ∷ r) (bytes_shift x l 0 (length l) ∙ bytes_all l)

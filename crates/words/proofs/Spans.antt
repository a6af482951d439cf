-- Spans of bytes of a list: split in two, and the same byte by byte.
use Prim.Native.Nat.{ℕ, zero, suc, ◌+◌, ◌<◌}
use mathlib.Core.Path.{◌≡◌, refl, ap}
use mathlib.Core.List.{List, ◌∷◌, ◌++◌}
use native.Mathlib.Omega.{arith}
use native.Mathlib.Nat.{zero-add, add-zero, suc-add}
use lib.ListN.{get_or}
use Rattle.words.specs.Bytes.{bytes_at}

pub bytes_split : (l : List ℕ) (i m n : ℕ) → bytes_at l i (m + n) ≡ bytes_at l i m ++ bytes_at l (i + m) n
unfolding bytes_at
bytes_split l i zero n = rw (zero-add, add-zero)
bytes_split l i (suc m) n =
    let e : i + suc m ≡ suc i + m = omega arith in
    rw (suc-add m n, e) (ap {B = List ℕ} (λ r. get_or l i 0 ∷ r) (bytes_split l (suc i) m n))

-- bytes that are the same one by one
pub bytes_same : (x y : List ℕ) (j k n : ℕ) → ((o : ℕ) → o < n → get_or x (j + o) 0 ≡ get_or y (k + o) 0) → bytes_at x j n ≡ bytes_at y k n
unfolding bytes_at
bytes_same x y j k zero h = refl
bytes_same x y j k (suc n) h =
    let a : get_or x j 0 ≡ get_or y k 0 = rw (add-zero j, add-zero k) at (h 0 (omega arith)) in
    let b : bytes_at x (suc j) n ≡ bytes_at y (suc k) n = bytes_same x y (suc j) (suc k) n (λ o l.
    let c : suc j + o ≡ j + suc o = omega arith in
    let d : suc k + o ≡ k + suc o = omega arith in
    rw (c, d) (h (suc o) (omega arith))) in
    rw (a, b)

-- Bytes moved as one part of a slice, or one after another, by the list edits of the contracts.
use Prim.Native.Nat.{ℕ, zero, suc, ◌+◌, ◌-◌, ◌≤◌, ◌<◌}
use mathlib.Core.Path.{◌≡◌, refl, ◌∙◌}
use mathlib.Core.List.{List, ◌∷◌, append_assoc}
use native.Mathlib.Omega.{arith}
use lib.ListN.{length, take, drop, get_or, set}
use lib.Seq.{sets, sets-eq, drop-cons, drop-drop}
use borrow.Rule.Slice.PartMut.{put_mid}
use Rattle.words.specs.Bytes.{bytes_at}
use Rattle.words.proofs.Places.{bytes_length}

-- the bytes from a place on are a part of the list
pub bytes_taken : (l : List ℕ) (i n : ℕ) → i + n ≤ length l → take n (drop i l) ≡ bytes_at l i n
unfolding bytes_at
bytes_taken l i zero h = refl
bytes_taken l i (suc n) h =
    let m : i < length l = omega arith in
    let e = bytes_taken l (suc i) n (omega arith) in
    rw (drop-cons l i 0 m, e)

-- a part replaced by as many bytes is these put in
pub part_replaced : (l x : List ℕ) (i n : ℕ) → i + n ≤ length l → length x ≡ n → put_mid i (i + n - i) l x ≡ sets l i x
part_replaced l x i n h e =
    let m : i + n - i ≡ n = omega arith in
    let f : i + length x ≤ length l = omega arith in
    rw (m, sets-eq x l i f, drop-drop, e, append_assoc)

-- a part of one list copied over one of another
pub part_copied : (src dst x : List ℕ) (s d n : ℕ) → s + n ≤ length src → d + n ≤ length dst → x ≡ take (s + n - s) (drop s src) → put_mid d (d + n - d) dst x ≡ sets dst d (bytes_at src s n)
part_copied src dst x s d n h k e =
    let m : s + n - s ≡ n = omega arith in
    let f : x ≡ bytes_at src s n = e ∙ rw m (bytes_taken src s n h) in
    rw f (part_replaced dst (bytes_at src s n) d n k (bytes_length src s n))

-- The bytes from the k-th on are the k-th and those after it.
bytes_next : (l : List ℕ) (i n k : ℕ) → k < n → bytes_at l (i + k) (n - k) ≡ get_or l (i + k) 0 ∷ bytes_at l (i + (k + 1)) (n - (k + 1))
unfolding bytes_at
bytes_next l i n k h =
    let e : n - k ≡ suc (n - (k + 1)) = omega arith in
    let f : i + (k + 1) ≡ suc (i + k) = omega arith in
    rw (e, f)

-- A copy goes on: the k-th byte is put, the others are left to put.
pub copy_next : (src dst : List ℕ) (s d n k : ℕ) → k < n
    → sets (set dst (d + k) (get_or src (s + k) 0)) (d + (k + 1)) (bytes_at src (s + (k + 1)) (n - (k + 1)))
    ≡ sets dst (d + k) (bytes_at src (s + k) (n - k))
copy_next src dst s d n k h =
    let f : d + (k + 1) ≡ suc (d + k) = omega arith in
    rw (f, bytes_next src s n k h)

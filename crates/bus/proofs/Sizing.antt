-- Laws of sizing: how many of the wanted bytes a cycle moves.
use Prim.Native.Nat.{ℕ, suc, ◌+◌, ◌-◌, ◌/◌, ◌%◌, ◌^◌, ◌≤◌, ◌<◌, min}
use mathlib.Core.Path.{◌≡◌, refl, ◌∙◌}
use mathlib.Core.Bool.{cond, not, ◌&&◌}
use native.Mathlib.Omega.{arith}
use native.Mathlib.Nat.{div-div-eq-div-mul, pow-suc, add_comm}
use native.Mathlib.Numerals.{add-one}
use lib.Dec.{eqb}
use borrow.Author.Tests.{eqb-true, eqb-false, eq-eqb, ne_eqb}
use Rattle.laws.proofs.Below.{four}
use Rattle.laws.proofs.Tests.{by_test, same_or}
use Rattle.words.specs.Bytes.{lanes_mask}
use Rattle.bus.specs.Bus.{bs8, bs16, run, size_limit, size_of}

limit_some : (x from : ℕ) → 0 < size_limit x from
unfolding size_limit
limit_some x from =
    by_test (λ b. 0 < cond b 1 (cond (bs16 x) (2 - from % 2) (4 - from % 4))) (bs8 x) (λ _. omega arith)
    (λ _. by_test (λ b. 0 < cond b (2 - from % 2) (4 - from % 4)) (bs16 x) (λ _. omega arith) (λ _. omega arith))

-- a cycle moves at least one byte of those wanted, and no others
pub size_some : (x from count : ℕ) → 0 < count → 0 < size_of x (run from count)
unfolding size_of
size_some x from count h = let r = limit_some x from in omega arith

pub size_most : (x from count : ℕ) → size_of x (run from count) ≤ count
unfolding size_of
size_most x from count = omega arith

-- neither BS8# nor BS16#: all that is wanted
pub size_whole : (x from count : ℕ) → x / 2 % 4 ≡ 0 → from % 4 + count ≤ 4 → size_of x (run from count) ≡ count
unfolding size_of size_limit
size_whole x from count h l = rw (ne_eqb (x / 2 % 2) 1 (λ e. omega arith), ne_eqb (x / 4 % 2) 1 (λ e. omega arith)) (omega arith)

-- BS8#: one byte
pub size_byte : (x from count : ℕ) → (x / 2 % 2 ≡ 0 → ⊥) → 0 < count → size_of x (run from count) ≡ 1
unfolding size_of size_limit
size_byte x from count h l = rw (eq-eqb (x / 2 % 2) 1 (omega arith)) (omega arith)

-- BS16# alone: what is wanted of a half
pub size_half : (x from count : ℕ) → x / 2 % 2 ≡ 0 → (x / 2 % 4 ≡ 0 → ⊥) → size_of x (run from count) ≡ min count (2 - from % 2)
unfolding size_of size_limit
size_half x from count h n = rw (ne_eqb (x / 2 % 2) 1 (λ e. omega arith), eq-eqb (x / 4 % 2) 1 (rw (div-div-eq-div-mul x 2 2) at (odd (x / 2) h n)))
  where
    odd : (y : ℕ) → y % 2 ≡ 0 → (y % 4 ≡ 0 → ⊥) → y / 2 % 2 ≡ 1
    odd y h n = omega arith

-- BS8# or BS16#, from an odd lane on: one byte
pub size_odd : (x from count : ℕ) → (x / 2 % 4 ≡ 0 → ⊥) → from % 2 ≡ 1 → 0 < count → size_of x (run from count) ≡ 1
size_odd x from count n o l =
    same_or _ (x / 2 % 2) 0 (λ e. size_half x from count e n ∙ omega arith) (λ k. size_byte x from count k l)

-- no BS8#, from lane 2 on: both bytes
pub size_upper : (x from : ℕ) → x / 2 % 2 ≡ 0 → from % 4 ≡ 2 → size_of x (run from 2) ≡ 2
size_upper x from h o =
    same_or _ (x / 2 % 4) 0 (λ e. size_whole x from 2 e (omega arith)) (λ n. size_half x from 2 h n ∙ omega arith)

-- one byte is moved whatever the answer is
pub size_one : (x from : ℕ) → size_of x (run from 1) ≡ 1
size_one x from = let a = size_some x from 1 (omega arith) in let b = size_most x from 1 in omega arith

-- only the lane that a run starts in matters
pub size_lane : (x a b count : ℕ) → a % 4 ≡ b % 4 → size_of x (run a count) ≡ size_of x (run b count)
unfolding size_of size_limit
size_lane x a b count e = let h : a % 2 ≡ b % 2 = omega arith in rw (e, h)

-- MASKS OF LANES

-- the mask of one lane
pub mask_one : (lane : ℕ) → lanes_mask lane 1 ≡ 2 ^ lane
unfolding lanes_mask
mask_one lane = rw (add_comm 1 lane, add-one lane) (omega (arith, pow-suc 2 lane))

-- a mask's lanes in the half of its lowest one: those of the lower half, or all where none lies there
abbrev Half : ℕ → ℕ → Type 0
Half lane n = let m = lanes_mask lane (suc n) in lane + suc n ≤ 4 → cond (not (eqb (m % 4) 0)) (m % 4) m ≡ lanes_mask lane (min (suc n) (2 - lane % 2))

half_lanes : (lane n : ℕ) → Half lane n
unfolding lanes_mask
half_lanes lane n l =
    four (λ k. Half k n)
    (four (Half 0) (λ _. refl) (λ _. refl) (λ _. refl) (λ _. refl) n (omega arith))
    (four (Half 1) (λ _. refl) (λ _. refl) (λ _. refl) (λ h. absurd (omega arith)) n (omega arith))
    (four (Half 2) (λ _. refl) (λ _. refl) (λ h. absurd (omega arith)) (λ h. absurd (omega arith)) n (omega arith))
    (four (Half 3) (λ _. refl) (λ h. absurd (omega arith)) (λ h. absurd (omega arith)) (λ h. absurd (omega arith)) n (omega arith))
    lane
    (omega arith)
    l

-- no BS8#: the lanes that are moved, by the mask of those wanted
pub moved_more : (x lane count m : ℕ) → (x / 2 % 2 ≡ 1 → ⊥) → 0 < count → lane + count ≤ 4 → m ≡ lanes_mask lane count →
    cond (bs16 x && not (eqb (m % 4) 0)) (m % 4) m ≡ lanes_mask lane (size_of x (run lane count))
moved_more x lane count m b some l w =
    let e : suc (count - 1) ≡ count = omega arith in
    by_test (λ t. bs16 x ≡ t → cond (t && not (eqb (m % 4) 0)) (m % 4) m ≡ lanes_mask lane (size_of x (run lane count)))
    (bs16 x)
    (λ _ h.
    let k = eqb-true (x / 4 % 2) 1 h in
    rw (w, size_half x lane count (omega arith) (λ z. omega arith)) (rw e at (half_lanes lane (count - 1) (omega arith))))
    (λ _ h. rw (w, size_whole x lane count (neither (x / 2) b (rw (div-div-eq-div-mul x 2 2) (eqb-false (x / 4 % 2) 1 h))) (omega arith)))
    refl
  where
    neither : (y : ℕ) → (y % 2 ≡ 1 → ⊥) → (y / 2 % 2 ≡ 1 → ⊥) → y % 4 ≡ 0
    neither y h k = omega arith

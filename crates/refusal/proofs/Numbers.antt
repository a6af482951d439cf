-- Laws of the numbers that turn a call away.
use Prim.Native.Nat.{ℕ, ◌+◌, ◌*◌, ◌/◌, ◌^◌, ◌<◌, ◌≤◌}
use mathlib.Core.Path.{◌≡◌}
use mathlib.Core.Bool.{Bool, true, ◌||◌, or_assoc, or-false}
use mathlib.Core.List.{List}
use native.Mathlib.Nat.{pow-le-pow_right, div-eq_of_lt, div-eq-sub-div}
use native.Mathlib.Numerals.{add-one}
use native.Mathlib.Omega.{arith}
use lib.Dec.{eqb, ltb}
use lib.ListN.{length, get_or, drop, drop_of_length-le}
use lib.Seq.{drop-cons}
use borrow.Author.Tests.{ltb-true, ltb-false, lt-ltb, eq-eqb, ne_eqb}
use Rattle.laws.proofs.Tests.{by_test}
use Rattle.words.proofs.Numbers.{byte_powers}
use Rattle.words.proofs.Parts.{powers_some}
use Rattle.refusal.specs.Refusal.{any_above}

-- the k-th answer is looked at, the others are left
pub above_step : (limit : ℕ) (l : List ℕ) (k : ℕ) (above : Bool) → k < length l → (above || ltb limit (get_or l k 0) || any_above limit (drop (k + 1) l)) ≡ (above || any_above limit (drop k l))
unfolding any_above
above_step limit l k above h = rw (add-one k, drop-cons l k 0, or_assoc)

-- no answer is left
pub above_end : (limit : ℕ) (l : List ℕ) (k : ℕ) (above : Bool) → length l ≤ k → (above || any_above limit (drop k l)) ≡ above
unfolding any_above
above_end limit l k above h = rw (drop_of_length-le l h) (or-false above)

-- a value fits where nothing is left of it above its width
pub nothing_above : (width value : ℕ) → eqb (value / 2 ^ (8 * width)) 0 ≡ ltb value (256 ^ width)
nothing_above width value =
    let p = 256 ^ width in
    rw (← byte_powers width)
    (by_test (λ t. eqb (value / p) 0 ≡ t) (ltb value p)
    (λ e. eq-eqb (value / p) 0 (div-eq_of_lt (ltb-true value p e)))
    (λ e. ne_eqb (value / p) 0 (λ z. let d = div-eq-sub-div (powers_some width) (ltb-false value p e) in omega arith)))

-- a value of 64 bits fits into eight bytes and more
pub fits : (width value : ℕ) → 8 ≤ width → value < 2 ^ 64 → ltb value (256 ^ width) ≡ true
fits width value h v = lt-ltb value (256 ^ width) (omega (arith, pow-le-pow_right {n = 256} (omega arith) h))

-- Laws of the text of a number, and that scanning gives back what was printed.
use Prim.Native.Nat.{ℕ, zero, suc, ◌+◌, ◌/◌, ◌%◌, ◌^◌, ◌≤◌, ◌<◌}
use mathlib.Core.Path.{◌≡◌, refl, sym}
use mathlib.Core.Bool.{true, cond}
use mathlib.Core.List.{[], ◌∷◌, ◌++◌}
use native.Mathlib.Nat.{pow-suc, pow-succ', one-le-pow, mod-eq_of_lt, div-one, div-div-eq-div-mul}
use native.Mathlib.Omega.{arith}
use lib.Dec.{ltb}
use lib.ListN.{length, length-append}
use borrow.Author.Tests.{ltb-true, ltb-false, lt-ltb, le-ltb}
use Rattle.laws.proofs.Tests.{by_test}
use Rattle.std.specs.Prelude.{Some}
use Rattle.std.specs.List.{list_all}
use Rattle.fields.specs.Number.{is_digit, value_after, decimal_value, number_within}
use Rattle.fields.proofs.Digits.{value_snoc, all_snoc, a_digit, number_value}
use Rattle.rows.specs.Decimal.{digits_of, decimal}

-- the digits of a number, whatever the limit above it
digits_same : (a b n : ℕ) → n < a → n < b → digits_of a n ≡ digits_of b n
unfolding digits_of
digits_same zero b n h j = absurd (omega (arith, h))
digits_same (suc a) zero n h j = absurd (omega (arith, j))
digits_same (suc a) (suc b) n h j =
    by_test (λ t. ltb n 10 ≡ t → cond t [] (digits_of a (n / 10)) ++ ((48 + n % 10) ∷ []) ≡ cond t [] (digits_of b (n / 10)) ++ ((48 + n % 10) ∷ [])) (ltb n 10)
    (λ _ _. refl)
    (λ _ e. let m : 10 ≤ n = ltb-false n 10 e in rw (digits_same a b (n / 10) (omega (arith, h)) (omega (arith, j))))
    refl

pub decimal_below : (n : ℕ) → n < 10 → decimal n ≡ (48 + n) ∷ []
unfolding decimal digits_of
decimal_below n h = rw (lt-ltb n 10 h, mod-eq_of_lt h)

pub decimal_above : (n : ℕ) → 10 ≤ n → decimal n ≡ decimal (n / 10) ++ ((48 + n % 10) ∷ [])
unfolding decimal digits_of
decimal_above n h = rw (le-ltb n 10 h, digits_same n (suc (n / 10)) (n / 10) (omega arith) (omega arith))

-- how many digits there are, and how many a digit less
pub one_digit : (n : ℕ) → n < 10 → 1 ≡ length (decimal n)
one_digit n h = rw (decimal_below n h)

pub digit_place : (n : ℕ) → 10 ≤ n → length (decimal n) ≡ length (decimal (n / 10)) + 1
digit_place n h = rw (decimal_above n h) (length-append (decimal (n / 10)) ((48 + n % 10) ∷ []))

pub more_digits : (k n : ℕ) → 10 ^ suc k ≤ n → n < 10 ^ suc (suc k) → suc (suc k) ≡ length (decimal n)
more_digits zero n h l = omega (arith, digit_place n (omega (arith, h)), one_digit (n / 10) (omega (arith, l)))
more_digits (suc k) n h l =
    let m = rw (pow-suc 10 (suc k)) at h in
    let b = rw (pow-suc 10 (suc (suc k))) at l in
    omega (arith, digit_place n (omega arith), more_digits k (n / 10) (omega arith) (omega arith))

-- the digits in front of the last k
pub digits_before : (k n : ℕ) → 10 ^ k ≤ n → length (decimal n) ≡ k + length (decimal (n / 10 ^ k))
digits_before zero n h = rw (div-one n) (omega arith)
digits_before (suc k) n h =
    let m = rw (pow-suc 10 k) at h in
    let some : 1 ≤ 10 ^ k = one-le-pow k 10 (omega arith) in
    let e : n / 10 ^ suc k ≡ n / 10 / 10 ^ k = rw (pow-succ' 10 k) (sym (div-div-eq-div-mul n 10 (10 ^ k))) in
    rw e (omega (arith, digit_place n (omega arith), digits_before k (n / 10) (omega arith)))

-- The text of a number has its value, digits only, and no more of them than its size asks for.
digits_value : (most n : ℕ) → n < most → decimal_value (digits_of most n) ≡ n
unfolding digits_of value_after
digits_value zero n h = absurd (omega (arith, h))
digits_value (suc most) n h =
    by_test (λ t. ltb n 10 ≡ t → decimal_value (cond t [] (digits_of most (n / 10)) ++ ((48 + n % 10) ∷ [])) ≡ n) (ltb n 10)
    (λ _ e. omega (arith, ltb-true n 10 e))
    (λ _ e. let m : 10 ≤ n = ltb-false n 10 e in rw (value_snoc 0 (digits_of most (n / 10)) (48 + n % 10), digits_value most (n / 10) (omega (arith, h))) (omega arith))
    refl

digits_all : (most n : ℕ) → list_all is_digit (digits_of most n) ≡ true
unfolding digits_of
digits_all zero n = refl
digits_all (suc most) n =
    by_test (λ t. list_all is_digit (cond t [] (digits_of most (n / 10)) ++ ((48 + n % 10) ∷ [])) ≡ true) (ltb n 10)
    (λ _. all_snoc is_digit [] (48 + n % 10) refl (a_digit (48 + n % 10) (omega arith) (omega arith)))
    (λ _. all_snoc is_digit (digits_of most (n / 10)) (48 + n % 10) (digits_all most (n / 10)) (a_digit (48 + n % 10) (omega arith) (omega arith)))

pub decimal_digits : (n : ℕ) → list_all is_digit (decimal n) ≡ true
unfolding decimal
decimal_digits n = digits_all (suc n) n

digits_most : (most k n : ℕ) → n < 10 ^ suc k → length (digits_of most n) ≤ suc k
unfolding digits_of
digits_most zero k n h = omega arith
digits_most (suc most) zero n h = rw (lt-ltb n 10 (omega (arith, h))) (omega arith)
digits_most (suc most) (suc k) n h =
    by_test (λ t. length (cond t [] (digits_of most (n / 10)) ++ ((48 + n % 10) ∷ [])) ≤ suc (suc k)) (ltb n 10)
    (λ _. omega arith)
    (λ _. rw (length-append (digits_of most (n / 10)) ((48 + n % 10) ∷ [])) (omega (arith, digits_most most k (n / 10) (omega (arith, rw (pow-suc 10 (suc k)) at h)))))

digits_some : (most n : ℕ) → 1 ≤ length (digits_of (suc most) n)
unfolding digits_of
digits_some most n =
    by_test (λ t. 1 ≤ length (cond t [] (digits_of most (n / 10)) ++ ((48 + n % 10) ∷ []))) (ltb n 10) (λ _. omega arith)
    (λ _. rw (length-append (digits_of most (n / 10)) ((48 + n % 10) ∷ [])) (omega arith))

pub decimal_most : (k n : ℕ) → n < 10 ^ suc k → length (decimal n) ≤ suc k
unfolding decimal
decimal_most k n h = digits_most (suc n) k n h

-- Scanning what was printed gives the number back, where so many digits are room enough for every number up to the limit.
pub printed_scanned : (k limit n : ℕ) → limit < 10 ^ suc k → n ≤ limit → number_within (suc k) limit (decimal n) ≡ Some n
unfolding decimal
printed_scanned k limit n room h =
    let v : decimal_value (digits_of (suc n) n) ≡ n = digits_value (suc n) n (omega arith) in
    let few = decimal_most k n (omega (arith, room, h)) in
    sym (rw v at (number_value (suc k) limit (digits_of (suc n) n) (digits_some n n) few (digits_all (suc n) n) (rw v h)))

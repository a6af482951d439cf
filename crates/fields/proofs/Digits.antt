-- Laws of numbers as text: what the scanning of a field finds.
use Prim.Native.Nat.{ℕ, ◌+◌, ◌*◌, ◌-◌, ◌≤◌, ◌<◌}
use mathlib.Core.Path.{◌≡◌, refl, sym, ◌∙◌}
use mathlib.Core.Bool.{Bool, true, false, cond, and-false}
use mathlib.Core.List.{List, [], ◌∷◌, ◌++◌}
use native.Mathlib.Numerals.{add-one}
use native.Mathlib.Omega.{arith}
use lib.Dec.{eqb, leb}
use lib.ListN.{length, get_or, take, drop, drop_of_length-le}
use lib.Seq.{drop-cons, take_all}
use Rattle.std.specs.Prelude.{Some, None}
use Rattle.std.specs.List.{list_all}
use Rattle.std.specs.Bool.{then_some}
use Rattle.std.proofs.lemmas.List.Folds.{list_all-append, list_all_at, list_all_more}
use borrow.Author.Tests.{eqb-false, le-leb, lt-leb}
use Rattle.laws.proofs.Tests.{by_test}
use Rattle.fields.specs.Number.{is_digit, value_after, decimal_value, is_number, number_within, bit_of}

-- one digit more is read
value_step : (n : ℕ) (l : List ℕ) (k : ℕ) → k < length l → value_after n (drop k l) ≡ value_after (n * 10 + (get_or l k 0 - 48)) (drop (k + 1) l)
unfolding value_after
value_step n l k h = rw (add-one k, drop-cons l k 0)

-- a byte more at the end
pub value_snoc : (m : ℕ) (l : List ℕ) (c : ℕ) → value_after m (l ++ (c ∷ [])) ≡ value_after m l * 10 + (c - 48)
unfolding value_after
value_snoc m [] c = refl
value_snoc m (d ∷ l) c = value_snoc (m * 10 + (d - 48)) l c

pub all_snoc : (test : ℕ → Bool) (l : List ℕ) (c : ℕ) → list_all test l ≡ true → test c ≡ true → list_all test (l ++ (c ∷ [])) ≡ true
all_snoc test l c a e = rw (list_all-append test l (c ∷ []), a, e)

-- a number only grows as digits go on
value_grows : (n : ℕ) (l : List ℕ) → n ≤ value_after n l
unfolding value_after
value_grows n [] = omega arith
value_grows n (c ∷ l) = omega (arith, value_grows (n * 10 + (c - 48)) l)

module _ (digits limit : ℕ) (field : List ℕ) where
  -- the fields that are no number
  pub number_empty : length field ≡ 0 → None ≡ number_within digits limit field
  unfolding number_within is_number
  number_empty e = rw e

  pub number_long : digits < length field → None ≡ number_within digits limit field
  unfolding number_within is_number
  number_long h = simp (lt-leb (length field) digits h, and-false)

  pub number_other : list_all is_digit field ≡ false → None ≡ number_within digits limit field
  unfolding number_within is_number
  number_other e = simp (e, and-false)

  pub number_large : limit < decimal_value field → None ≡ number_within digits limit field
  unfolding number_within is_number
  number_large h = simp (lt-leb (decimal_value field) limit h, and-false)

  -- a field that is a number
  pub number_value : 1 ≤ length field → length field ≤ digits → list_all is_digit field ≡ true → decimal_value field ≤ limit → Some (decimal_value field) ≡ number_within digits limit field
  unfolding number_within is_number
  number_value some few all small =
      simp (le-leb 1 (length field) some, le-leb (length field) digits few, all, le-leb (decimal_value field) limit small)

pub a_digit : (c : ℕ) → 48 ≤ c → c ≤ 57 → is_digit c ≡ true
a_digit c h j = rw (le-leb 48 c h, le-leb c 57 j)

-- What the scanning of a field keeps: the bytes that it has passed are digits, and what is left says the number after the value.
pub record ScanInvariant (field : List ℕ) (value k : ℕ) : Type 0 where
  pub digits : list_all is_digit (take k field) ≡ true
  pub says : value_after value (drop k field) ≡ decimal_value field

module _ (field : List ℕ) (value k : ℕ) (inv : ScanInvariant field value k) where
  -- a byte is left: one that is no digit, and a digit that is taken in
  module _ (h : k < length field) where
    pub scan_other : (most limit : ℕ) → is_digit (get_or field k 0) ≡ false → None ≡ number_within most limit field
    scan_other most limit e = number_other most limit field (list_all_at is_digit field k 0 h e)

    taken : value_after (value * 10 + (get_or field k 0 - 48)) (drop (k + 1) field) ≡ decimal_value field
    taken = sym (value_step value field k h) ∙ inv.says

    pub scan_large : (most limit : ℕ) → limit < value * 10 + (get_or field k 0 - 48) → None ≡ number_within most limit field
    scan_large most limit n = number_large most limit field (omega (arith, n, taken, value_grows (value * 10 + (get_or field k 0 - 48)) (drop (k + 1) field)))

    pub scan_next : is_digit (get_or field k 0) ≡ true → ScanInvariant field (value * 10 + (get_or field k 0 - 48)) (k + 1)
    scan_next e = record { digits = rw (list_all_more is_digit field k 0 h, inv.digits, e); says = taken }

  -- none is left
  pub scan_done : (most limit : ℕ) → length field ≤ k → eqb (length field) 0 ≡ false → length field ≤ most → then_some (leb value limit) value ≡ number_within most limit field
  unfolding number_within is_number value_after
  scan_done most limit h some few =
      let all : decimal_value field ≡ value = sym inv.says ∙ rw (drop_of_length-le field h) in
      let digits : list_all is_digit field ≡ true = rw (take_all k field h) at inv.digits in
      let more : 1 ≤ length field = omega (arith, eqb-false (length field) 0 some) in
      rw (le-leb 1 (length field) more, le-leb (length field) most few, digits, all)
      (by_test (λ b. then_some b value ≡ cond b (Some value) None) (leb value limit) (λ _. refl) (λ _. refl))

-- a field of none or more bytes than one is no bit
pub bit_other : (field : List ℕ) → (length field ≡ 1 → ⊥) → None ≡ bit_of field
unfolding bit_of
bit_other [] n = refl
bit_other (c ∷ []) n = absurd (n refl)
bit_other (c ∷ d ∷ cs) n = refl

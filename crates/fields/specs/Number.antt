-- Document 01, 'Board table and program', with document 02, C-15: numbers as text.
use Rattle.std.specs.Prelude.{ℕ, ◌+◌, ◌*◌, ◌-◌, Bool, true, false, cond, ◌&&◌, Option, Some, None, List, [], ◌∷◌, eqb, leb, length}
use Rattle.std.specs.List.{list_all}

-- The bytes `0` to `9`.
abbrev pub is_digit : ℕ → Bool
is_digit c = leb 48 c && leb c 57

-- The number that digits go on to say, the most significant first.
unfoldable pub value_after : ℕ → List ℕ → ℕ
value_after n [] = n
value_after n (c ∷ cs) = value_after (n * 10 + (c - 48)) cs

-- The number that digits say.
abbrev pub decimal_value : List ℕ → ℕ
decimal_value digits = value_after 0 digits

-- A number of 1 to so many decimal digits, up to a limit.
unfoldable pub is_number : ℕ → ℕ → List ℕ → Bool
is_number digits limit field =
    leb 1 (length field) && leb (length field) digits && list_all is_digit field && leb (decimal_value field) limit

-- The number that such a field says; any other says none.
unfoldable pub number_within : ℕ → ℕ → List ℕ → Option ℕ
number_within digits limit field = cond (is_number digits limit field) (Some (decimal_value field)) None

-- "Other numbers: 1 to 10 decimal digits, up to 4,294,967,295"
abbrev pub number_of : List ℕ → Option ℕ
number_of = number_within 10 4294967295

-- C-15: "W's value field takes any 64-bit number, 1 to 20 digits."
abbrev pub value_field_of : List ℕ → Option ℕ
value_field_of = number_within 20 18446744073709551615

-- "PCD, CD, NW one digit 0 or 1"
unfoldable pub bit_of : List ℕ → Option Bool
bit_of [] = None
bit_of (c ∷ []) = cond (eqb c 48) (Some false) (cond (eqb c 49) (Some true) None)
bit_of (c ∷ d ∷ cs) = None

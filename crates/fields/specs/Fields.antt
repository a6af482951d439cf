-- Document 01, 'Board table and program': lines and fields, and the bytes of an external write.
use Rattle.std.specs.Prelude.{ℕ, ◌+◌, ◌*◌, ◌-◌, ◌%◌, Bool, cond, ◌&&◌, ◌||◌, Option, Some, None, List, [], ◌∷◌, eqb, leb, ltb, length, take}
use Rattle.std.specs.List.{list_all, position_or_len}
use Rattle.fields.specs.Number.{is_digit, number_of}

-- The bytes that part a text.
abbrev pub tab : ℕ
tab = 9

abbrev pub newline : ℕ
newline = 10

-- The place of the first byte that is the separator, or the text's length where none is.
unfoldable pub index_of : ℕ → List ℕ → ℕ
index_of separator text = position_or_len (λ c. eqb c separator) text

-- A byte put in front of the first part.
unfoldable pub in_front : ℕ → List (List ℕ) → List (List ℕ)
in_front c [] = (c ∷ []) ∷ []
in_front c (part ∷ parts) = (c ∷ part) ∷ parts

-- A text parted at each byte that is the separator: one part more than there are separators.
unfoldable pub parts_of : ℕ → List ℕ → List (List ℕ)
parts_of separator [] = [] ∷ []
parts_of separator (c ∷ cs) =
    cond (eqb c separator) ([] ∷ parts_of separator cs) (in_front c (parts_of separator cs))

-- "tab-parted lines"
abbrev pub fields_of : List ℕ → List (List ℕ)
fields_of line = parts_of tab line

-- The number before the first tab of a text and the place after that tab, where there are such.
unfoldable pub leading_with : Option ℕ → ℕ → Option (ℕ × ℕ)
leading_with (Some n) next = Some (n, next)
leading_with None next = None

unfoldable pub leading_of : List ℕ → Option (ℕ × ℕ)
leading_of text =
    cond (ltb (index_of tab text) (length text))
    (leading_with (number_of (take (index_of tab text) text)) (index_of tab text + 1))
    None

-- "the last newline optional": what stands after the last newline is a line unless it is empty.
unfoldable pub without_empty_end : List (List ℕ) → List (List ℕ)
without_empty_end [] = []
without_empty_end (line ∷ []) = cond (eqb (length line) 0) [] (line ∷ [])
without_empty_end (line ∷ next ∷ lines) = line ∷ without_empty_end (next ∷ lines)

-- The lines of an input.
unfoldable pub lines_of : List ℕ → List (List ℕ)
lines_of input = without_empty_end (parts_of newline input)

-- The bytes `A` to `F`.
abbrev pub is_upper_hex : ℕ → Bool
is_upper_hex c = leb 65 c && leb c 70

-- An uppercase hex digit.
abbrev pub is_hex : ℕ → Bool
is_hex c = is_digit c || is_upper_hex c

-- The number that a hex digit stands for.
unfoldable pub hex_of : ℕ → ℕ
hex_of c = cond (is_digit c) (c - 48) (cond (is_upper_hex c) (c - 55) 0)

-- "uppercase hex pairs; an empty field is well formed"
unfoldable pub is_pairs : List ℕ → Bool
is_pairs field = eqb (length field % 2) 0 && list_all is_hex field

-- The bytes that the pairs say.
unfoldable pub pair_bytes : List ℕ → List ℕ
pair_bytes [] = []
pair_bytes (c ∷ []) = []
pair_bytes (c ∷ d ∷ rest) = (hex_of c * 16 + hex_of d) ∷ pair_bytes rest

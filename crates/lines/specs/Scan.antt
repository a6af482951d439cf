-- Document 01, 'Board table and program', with document 02, C-15: the event of a line.
use Rattle.std.specs.Prelude.{ℕ, ◌+◌, cond, Option, Some, None, List, [], ◌∷◌, eqb, ltb, length}
use Rattle.fields.specs.Number.{number_of, value_field_of, bit_of}
use Rattle.fields.specs.Fields.{fields_of, is_pairs}
use Rattle.lines.specs.declared.Event.{Event}
use Rattle.lines.specs.declared.Event.TheVariants.{Read, Write, External, Snoop, Flush, Control, Reset}

-- A line that has a number where one belongs, or is malformed. A malformed line has no event.
unfoldable pub with : {A : Type 0} → Option A → (A → Option Event) → Option Event
with (Some n) event = event n
with None event = None

-- A line with no field after its letter, or a malformed one.
unfoldable pub of_none : Option Event → List (List ℕ) → Option Event
of_none event [] = event
of_none event (a ∷ rest) = None

-- A line with one field after its letter, or a malformed one.
unfoldable pub of_one : (List ℕ → Option Event) → List (List ℕ) → Option Event
of_one event [] = None
of_one event (a ∷ rest) = of_none (event a) rest

-- A line with two fields after its letter, or a malformed one.
unfoldable pub of_two : (List ℕ → List ℕ → Option Event) → List (List ℕ) → Option Event
of_two event [] = None
of_two event (a ∷ rest) = of_one (event a) rest

-- A line with three fields after its letter, or a malformed one.
unfoldable pub of_three : (List ℕ → List ℕ → List ℕ → Option Event) → List (List ℕ) → Option Event
of_three event [] = None
of_three event (a ∷ rest) = of_two (event a) rest

-- An access with an address, a width and what its third field says.
unfoldable pub access_of : (ℕ → ℕ → List ℕ → Option Event) → List ℕ → List ℕ → List ℕ → Option Event
access_of last a w x = with (number_of a) (λ address. with (number_of w) (λ width. last address width x))

-- "R address width PCD"
unfoldable pub read_with : ℕ → ℕ → List ℕ → Option Event
read_with address width p = with (bit_of p) (λ pcd. Some (Read address width pcd))

unfoldable pub read_of : List ℕ → List ℕ → List ℕ → Option Event
read_of = access_of read_with

-- "W address width value"; the value by C-15
unfoldable pub write_with : ℕ → ℕ → List ℕ → Option Event
write_with address width v = with (value_field_of v) (λ value. Some (Write address width value))

unfoldable pub write_of : List ℕ → List ℕ → List ℕ → Option Event
write_of = access_of write_with

-- "X address bytes": the event names where its pairs begin, after the letter, a tab, the address and a tab.
unfoldable pub external_of : List ℕ → List ℕ → Option Event
external_of a pairs = with (number_of a) (λ address. cond (is_pairs pairs) (Some (External address (length a + 3))) None)

-- "S address"
unfoldable pub snoop_of : List ℕ → Option Event
snoop_of a = with (number_of a) (λ address. Some (Snoop address))

-- "C CD NW"
unfoldable pub control_of : List ℕ → List ℕ → Option Event
control_of c n = with (bit_of c) (λ cd. with (bit_of n) (λ nw. Some (Control cd nw)))

-- "R ..; W ..; X ..; S ..; F; C ..; Z (reset)", by the letter's byte.
unfoldable pub form_of : ℕ → List (List ℕ) → Option Event
form_of letter fields =
    cond (eqb letter 82) (of_three read_of fields)
    (cond (eqb letter 87) (of_three write_of fields)
    (cond (eqb letter 88) (of_two external_of fields)
    (cond (eqb letter 83) (of_one snoop_of fields)
    (cond (eqb letter 70) (of_none (Some Flush) fields)
    (cond (eqb letter 67) (of_two control_of fields)
    (cond (eqb letter 90) (of_none (Some Reset) fields) None))))))

-- The first field is one letter.
unfoldable pub event_of : List (List ℕ) → Option Event
event_of [] = None
event_of ([] ∷ fields) = None
event_of ((letter ∷ []) ∷ fields) = form_of letter fields
event_of ((c ∷ d ∷ cs) ∷ fields) = None

-- "lines of at most 80 bytes before the newline"
abbrev pub longest_line : ℕ
longest_line = 80

unfoldable pub scanned : List ℕ → Option Event
scanned line = cond (ltb longest_line (length line)) None (event_of (fields_of line))

-- Document 01, 'Turned away because of the input' and '.. of the state': the number of each call, 0 where it is accepted.
use Rattle.std.specs.Prelude.{ℕ, ◌+◌, ◌-◌, ◌/◌, ◌%◌, ◌^◌, Bool, true, false, cond, not, ◌&&◌, ◌||◌, List, [], ◌∷◌, eqb, ltb, length}
use Rattle.directory.specs.declared.steps.Directory.{Directory}
use Rattle.ways.specs.Address.{set_of, data_size}
use Rattle.ways.specs.State.{state_number_in}
use Rattle.ranges.specs.declared.Ranges.{Ranges}
use Rattle.ranges.specs.Ranges.{Range, ranges_of, any_bad}
use Rattle.carried.specs.Carried.{Carried}
use Rattle.bus.specs.Groups.{bad_width, answer_count, highest_answer, log_size}

-- A number where a test holds; and "Lowest number first": the first of two that is met.
abbrev pub when : Bool → ℕ → ℕ
when bad number = cond bad number 0

abbrev pub or_else : ℕ → ℕ → ℕ
or_else number next = cond (eqb number 0) next number

-- "RAM has 16 to 16,777,216 bytes, a multiple of 16."
abbrev pub bad_ram : ℕ → Bool
bad_ram ram = ltb ram 16 || ltb 16777216 ram || not (eqb (ram % 16) 0)

-- "1. RAM length. 2. Parity length is not RAM / 4. 3. Data array is not 8,192 bytes.": of the lengths of what is lent.
abbrev pub ram_number : ℕ → ℕ
ram_number ram = when (bad_ram ram) 1

abbrev pub array_number : ℕ → ℕ
array_number array = when (not (eqb array data_size)) 3

-- 1 and 2, for a call that receives RAM with its parity.
unfoldable pub memory_number : ℕ → ℕ → ℕ
memory_number ram parity = or_else (ram_number ram) (when (not (eqb parity (ram / 4))) 2)

-- 1 to 3, for a call that receives the data array too.
unfoldable pub lent_number : ℕ → ℕ → ℕ → ℕ
lent_number ram parity array = or_else (memory_number ram parity) (array_number array)

-- "(view: address not in RAM)": number 5 of a view, which has no width.
abbrev pub view_address_number : ℕ → ℕ → ℕ
view_address_number ram address = when (not (ltb address ram)) 5

-- 1, 3 and 5, for a view.
unfoldable pub view_input_number : ℕ → ℕ → ℕ → ℕ
view_input_number ram array address = or_else (ram_number ram) (or_else (array_number array) (view_address_number ram address))

-- Whether any of some answers is above a limit.
unfoldable pub any_above : ℕ → List ℕ → Bool
any_above limit [] = false
any_above limit (x ∷ xs) = ltb limit x || any_above limit xs

-- "6. Not 32 answers, or one above 7.", 48 by C-15.
abbrev pub bad_answers : List ℕ → Bool
bad_answers answers = not (eqb (length answers) answer_count) || any_above highest_answer answers

-- 4 to 7, of a read's or a write's own arguments: "4. Width not 1, 2, 4." (`bad_width`); "5. Address + width beyond RAM"; "7. Log below 96
-- words." C-15: "Numbers 4, 6, 7 and 8 read with these sizes, for all widths".
unfoldable pub argument_number : ℕ → ℕ → ℕ → List ℕ → ℕ → ℕ
argument_number ram address width answers log =
    or_else (when (bad_width width) 4)
    (or_else (when (ltb ram (address + width)) 5)
    (or_else (when (bad_answers answers) 6) (when (ltb log log_size) 7)))

-- "8. Value too large for its width."
unfoldable pub value_number : ℕ → ℕ → ℕ
value_number width value = when (not (ltb value (256 ^ width))) 8

-- "10. External write empty, over 16 bytes, across lines or beyond RAM.", of its number of bytes.
unfoldable pub external_number : ℕ → ℕ → ℕ → ℕ
external_number ram address count =
    when (eqb count 0 || ltb 16 count || ltb 16 (address % 16 + count) || ltb ram (address + count)) 10

-- "they aren't in cycle order": none is numbered below the one before it.
unfoldable pub in_order : List Carried → Bool
in_order [] = true
in_order (w ∷ []) = true
in_order (w ∷ x ∷ ws) = not (ltb x.cycle w.cycle) && in_order (x ∷ ws)

-- "one would be refused by 10"
unfoldable pub any_refused : ℕ → List Carried → Bool
any_refused ram [] = false
any_refused ram (w ∷ ws) = not (eqb (external_number ram w.address (length w.bytes)) 0) || any_refused ram ws

-- Document 02, C-12: "33 where there are more than four writes, they aren't in cycle order or one would be refused by 10".
unfoldable pub carried_number : ℕ → List Carried → ℕ
carried_number ram ws = when (ltb 4 (length ws) || not (in_order ws) || any_refused ram ws) 33

-- Document 02, C-17: "every other call given directory and RAM tests them by 37 and 38 too"; "37 where a range is empty, not whole lines or beyond RAM, after
-- 10; 38 for more than eight, after 37": of some ranges and how many they are, by RAM's length.
unfoldable pub ranges_number : ℕ → List Range → ℕ → ℕ
ranges_number ram rs count = or_else (when (any_bad ram rs) 37) (when (ltb 8 count) 38)

-- Of those that a directory keeps, whose count may be any.
abbrev pub kept_number : ℕ → Ranges → ℕ
kept_number ram kept = ranges_number ram (ranges_of kept) kept.count

-- "Checked in every touched set, the lower address's set first": of the first and the last byte of an access. "All of one set comes before the next set."
unfoldable pub states_number_in : List ℕ → List Bool → List ℕ → ℕ → ℕ → ℕ
states_number_in tags valid lru address count =
    or_else (state_number_in tags valid lru (set_of address)) (state_number_in tags valid lru (set_of (address + count - 1)))

-- The same, of a directory.
abbrev pub states_number_of : Directory → ℕ → ℕ → ℕ
states_number_of d address count = states_number_in d.tags d.valid d.lru address count

-- "then the writes' in list order"
unfoldable pub carried_states_number_in : List ℕ → List Bool → List ℕ → List Carried → ℕ
carried_states_number_in tags valid lru [] = 0
carried_states_number_in tags valid lru (w ∷ ws) =
    or_else (states_number_in tags valid lru w.address (length w.bytes)) (carried_states_number_in tags valid lru ws)

-- The same, of a directory.
abbrev pub carried_states_number : Directory → List Carried → ℕ
carried_states_number d ws = carried_states_number_in d.tags d.valid d.lru ws

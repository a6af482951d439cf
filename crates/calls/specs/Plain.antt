-- Document 01, 'Other masters, views, and the plain memory': "The plain memory is a list of bytes", and has no cache.
use Rattle.std.specs.Prelude.{ℕ, zero, suc, ◌+◌, ◌*◌, ◌/◌, ◌%◌, ◌^◌, Bool, false, cond, not, ◌&&◌, ◌||◌, List, [], ◌∷◌, ◌++◌, eqb, ltb, length, get_or, set}
use Rattle.words.specs.Bytes.{bytes_at, value_of, bytes_of}
use Rattle.ranges.specs.Ranges.{Range, ranges_in, read_only, any_bad}
use Rattle.carried.specs.Carried.{Carried}
use Rattle.bus.specs.Groups.{bad_width, answer_count, highest_answer, log_size}
use Rattle.bus.specs.Record.{Record}
use Rattle.refusal.specs.Call.{State}
use Rattle.calls.specs.Calls.{Call, read, write, external, snoop, flush, control, view, reset, test_write, test_read, set_ranges, step, records_left}

-- Document 02, C-17: "The plain memory ignores them too.": its bytes, and the read-only ranges that the setting call gave it.
pub record PlainMemory : Type 0 where
  pub bytes : List ℕ
  pub rom : List Range

abbrev pub plain_memory : List ℕ → List Range → PlainMemory
plain_memory bytes rom = record { bytes = bytes; rom = rom }

-- Bytes replaced from an address on, but those in a range.
unfoldable pub replaced : List Range → List ℕ → ℕ → List ℕ → List ℕ
replaced rom m a [] = m
replaced rom m a (b ∷ bs) = replaced rom (cond (read_only rom a) m (set m a b)) (suc a) bs

-- What it answers to a call, and what it is afterwards.
pub record Plain : Type 0 where
  pub number : ℕ
  pub value : ℕ
  pub shown : List ℕ
  pub memory : PlainMemory

-- "Lowest number first": of some tests with their numbers, the number of the first that holds, 0 where none does.
abbrev pub first_met : List (Bool × ℕ) → ℕ
first_met [] = 0
first_met (t ∷ ts) = cond t.0 t.1 (first_met ts)

-- "one above 7": whether any of some answers is above a limit.
unfoldable pub some_above : ℕ → List ℕ → Bool
some_above limit [] = false
some_above limit (x ∷ xs) = ltb limit x || some_above limit xs

-- "4. Width not 1, 2, 4. 5. Address + width beyond RAM", "6. Not 32 answers, or one above 7. 7. Log below 96 words.", with the sizes of C-15.
abbrev pub access_tests : ℕ → ℕ → ℕ → List ℕ → ℕ → List (Bool × ℕ)
access_tests ram address width answers log =
    (bad_width width, 4)
    ∷ (ltb ram (address + width), 5)
    ∷ (not (eqb (length answers) answer_count) || some_above highest_answer answers, 6)
    ∷ (ltb log log_size, 7)
    ∷ []

-- "8. Value too large for its width."
abbrev pub value_test : ℕ → ℕ → Bool × ℕ
value_test width value = (not (ltb value (256 ^ width)), 8)

-- "9. A control call with CD = 0 and NW = 1"
abbrev pub control_test : Bool → Bool → Bool × ℕ
control_test cd nw = (not cd && nw, 9)

-- "10. External write empty, over 16 bytes, across lines or beyond RAM."
abbrev pub external_test : ℕ → ℕ → ℕ → Bool × ℕ
external_test ram address count =
    (eqb count 0 || ltb 16 count || ltb 16 (address % 16 + count) || ltb ram (address + count), 10)

-- "they aren't in cycle order": one is numbered below the one before it.
unfoldable pub out_of_order : List Carried → Bool
out_of_order [] = false
out_of_order (w ∷ []) = false
out_of_order (w ∷ x ∷ ws) = ltb x.cycle w.cycle || out_of_order (x ∷ ws)

-- "or one would be refused by 10"
unfoldable pub some_refused : ℕ → List Carried → Bool
some_refused ram [] = false
some_refused ram (w ∷ ws) = (external_test ram w.address (length w.bytes)).0 || some_refused ram ws

-- Document 02, C-12: "33 where there are more than four writes, they aren't in cycle order or one would be refused by 10, after 10."
abbrev pub carried_test : ℕ → List Carried → Bool × ℕ
carried_test ram writes = (ltb 4 (length writes) || out_of_order writes || some_refused ram writes, 33)

-- "37 where a range is empty, not whole lines or beyond RAM, after 10; 38 for more than eight, after 37": of those that are given.
abbrev pub ranges_tests : ℕ → List Range → List (Bool × ℕ)
ranges_tests ram given = (any_bad ram given, 37) ∷ (ltb 8 (length given), 38) ∷ []

-- The number of a call that meets 4 to 10, from its own arguments; "For the plain memory 33 counts as 4 to 10 do"; "Any other call answers 0." RAM's length
-- is the plain memory's own, and no function of the unit is asked: it shares the sizes of an access, and what a range is. Of a setting call 37 and 38 count as
-- 4 to 10 do.
unfoldable pub plain_number : List ℕ → Call → ℕ
plain_number m (read address width pcd answers log writes) =
    first_met (access_tests (length m) address width answers (length log) ++ (carried_test (length m) writes ∷ []))
plain_number m (write address width value answers log) =
    first_met (access_tests (length m) address width answers (length log) ++ (value_test width value ∷ []))
plain_number m (external address bytes) = first_met (external_test (length m) address (length bytes) ∷ [])
plain_number m (snoop address) = 0
plain_number m flush = 0
plain_number m (control cd nw) = first_met (control_test cd nw ∷ [])
plain_number m (view address) = first_met ((not (ltb address (length m)), 5) ∷ [])
plain_number m reset = 0
plain_number m (test_write set way tag mark bytes) = 0
plain_number m (test_read set way) = 0
plain_number m (set_ranges words) = first_met (ranges_tests (length m) (ranges_in words))

-- Document 02, C-12: a read with the writes that it carries. "The plain memory takes the writes in between, told by the read's records where its cycles
-- fall": its bytes when so many cycles of the read are made. The writes numbered below have been put in. "Equal numbers land in list order."
unfoldable pub held_after : List Range → List ℕ → List Carried → ℕ → List ℕ
held_after rom m [] n = m
held_after rom m (w ∷ ws) n = held_after rom (cond (ltb w.cycle n) (replaced rom m w.address w.bytes) m) ws n

-- "Writes numbered past the last cycle, and all where there is none, land after the value is taken."
unfoldable pub held_at_end : List Range → List ℕ → List Carried → List ℕ
held_at_end rom m [] = m
held_at_end rom m (w ∷ ws) = held_at_end rom (replaced rom m w.address w.bytes) ws

-- "64 the last cycle made for this doubleword of the access, in a fill only its very last": the records in groups, one for each doubleword that made cycles.
abbrev pub with_first : Record → List (List Record) → List (List Record)
with_first r [] = (r ∷ []) ∷ []
with_first r (g ∷ gs) = (r ∷ g) ∷ gs

unfoldable pub groups_of : List Record → List (List Record)
groups_of [] = []
groups_of (r ∷ rs) = cond (eqb (r.flags / 64 % 2) 1) ((r ∷ []) ∷ groups_of rs) (with_first r (groups_of rs))

-- The doubleword of a group is that of its first record: a fill starts with it, and has records at the line's other doublewords too.
abbrev pub named_by : List Record → ℕ
named_by [] = 0
named_by (r ∷ rs) = r.address

-- "doubleword address; flags", of which "1, 2, 4, 8 for moved bytes 0 to 3": whether a record's cycle moved the byte at an address.
abbrev pub moves : Record → ℕ → Bool
moves r a = eqb r.address (a / 4 * 4) && eqb (r.flags / 2 ^ (a % 4) % 2) 1

-- "every wanted byte is what it holds at that byte's cycle": the byte at an address, by the cycles of a group from number n on, or another where none moved
-- it. Before cycle n the writes numbered up to n have been put in.
unfoldable pub byte_moved : List Range → List ℕ → List Carried → ℕ → List Record → ℕ → ℕ → ℕ
byte_moved rom m ws n [] a unmoved = unmoved
byte_moved rom m ws n (r ∷ rs) a unmoved =
    cond (moves r a) (get_or (held_after rom m ws (suc n)) a 0) (byte_moved rom m ws (suc n) rs a unmoved)

-- "or at the lookup for a hit": the byte at an address, by the groups of the cycles from number n on. "the lower one completed first (H)": groups of lower
-- doublewords come before its lookup. Without a group its doubleword hit.
unfoldable pub byte_read : List Range → List ℕ → List Carried → ℕ → List (List Record) → ℕ → ℕ
byte_read rom m ws n [] a = get_or (held_after rom m ws n) a 0
byte_read rom m ws n (g ∷ gs) a =
    cond (ltb (named_by g) (a / 4 * 4)) (byte_read rom m ws (n + length g) gs a)
    (byte_moved rom m ws n (cond (eqb (named_by g) (a / 4 * 4)) g []) a (get_or (held_after rom m ws n) a 0))

-- So many bytes from an address on, each by the same rule.
unfoldable pub bytes_by : (ℕ → ℕ) → ℕ → ℕ → List ℕ
bytes_by byte a zero = []
bytes_by byte a (suc n) = byte a ∷ bytes_by byte (suc a) n

-- The bytes that a read wants.
abbrev pub bytes_read : List Range → List ℕ → List Carried → List Record → ℕ → ℕ → List ℕ
bytes_read rom m writes rs address width = bytes_by (byte_read rom m writes 0 (groups_of rs)) address width

-- A call that is done.
abbrev pub plain_accepted : ℕ → List ℕ → PlainMemory → Plain
plain_accepted value bytes m = record { number = 0; value = value; shown = bytes; memory = m }

-- One after which it has other bytes.
abbrev pub with_bytes : PlainMemory → List ℕ → PlainMemory
with_bytes m bytes = plain_memory bytes m.rom

-- "A write or external write replaces its bytes; a read gives its bytes; a view gives its sixteen; snoop, flush, control and reset do nothing";
-- a read's value is that "with the bytes taken little-endian". Test calls change no RAM, so it does nothing at them either. "One call sets them all anew". It is
-- told the records that the call left. Only a read asks for them, and one that carries nothing gives the same bytes whatever they are (`told_alone`).
unfoldable pub plain_done : PlainMemory → Call → List Record → Plain
plain_done m (read address width pcd answers log writes) rs =
    plain_accepted (value_of (bytes_read m.rom m.bytes writes rs address width)) [] (with_bytes m (held_at_end m.rom m.bytes writes))
plain_done m (write address width value answers log) rs =
    plain_accepted 0 [] (with_bytes m (replaced m.rom m.bytes address (bytes_of width value)))
plain_done m (external address bytes) rs = plain_accepted 0 [] (with_bytes m (replaced m.rom m.bytes address bytes))
plain_done m (snoop address) rs = plain_accepted 0 [] m
plain_done m flush rs = plain_accepted 0 [] m
plain_done m (control cd nw) rs = plain_accepted 0 [] m
plain_done m (view address) rs = plain_accepted 0 (bytes_at m.bytes (address / 16 * 16) 16) m
plain_done m reset rs = plain_accepted 0 [] m
plain_done m (test_write set way tag mark bytes) rs = plain_accepted 0 [] m
plain_done m (test_read set way) rs = plain_accepted 0 [] m
plain_done m (set_ranges words) rs = plain_accepted 0 [] (plain_memory m.bytes (ranges_in words))

-- "a call meeting 4 to 10 does nothing and answers that number."; so does one meeting 33, 37 or 38.
abbrev pub plain_refused : ℕ → PlainMemory → Plain
plain_refused number m = record { number = number; value = 0; shown = []; memory = m }

-- A call, done or refused.
unfoldable pub plain : PlainMemory → Call → List Record → Plain
plain m c rs =
    cond (eqb (plain_number m.bytes c) 0) (plain_done m c rs) (plain_refused (plain_number m.bytes c) m)

-- Beside the unit it is "told by the read's records where its cycles fall": the records that the unit's call left.
abbrev pub plain_told : State → PlainMemory → Call → Plain
plain_told s m c = plain m c (records_left (step s c))

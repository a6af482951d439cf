-- Demand 3 for one call: what is compared after it.
use Rattle.std.specs.Prelude.{ℕ, ◌+◌, ◌*◌, ◌/◌, ◌%◌, ◌≤◌, ◌<◌, ◌≡◌, Bool, true, false, not, ◌&&◌, ◌||◌, List, [], ◌∷◌, eqb, length, get_or}
use Rattle.directory.specs.Steps.{control_refused}
use Rattle.ranges.specs.Ranges.{Range, read_only}
use Rattle.bus.specs.Bus.{ken}
use Rattle.bus.specs.Groups.{group_count}
use Rattle.doubleword.specs.Doubleword.{Doubleword, doublewords_of}
use Rattle.refusal.specs.Call.{After}
use Rattle.calls.specs.Calls.{Call, read, write, external, snoop, flush, control, view, reset, test_write, test_read, set_ranges}
use Rattle.calls.specs.Plain.{Plain}

-- "No record that a call of the list leaves carries 128.": the records that a call counts are in its log, three words each, and 128 is not among the
-- flags, the second of the three. That the count is the number of records is demand 2's.
pub record NoParityError (a : After) : Type 0 where
  pub there : 3 * a.outcome.cycles ≤ length a.log
  pub clear : (k : ℕ) → k < a.outcome.cycles → get_or a.log (3 * k + 1) 0 / 128 % 2 ≡ 0

-- What document 02 tells apart among calls: test calls, flushes and resets (C-11), reads (C-12), setting calls (C-17).
pub data Kind : Type 0 where
  test_writing : Kind
  test_reading : Kind
  emptying : Kind
  reading : Kind
  setting : Kind
  other : Kind

abbrev pub kind_of : Call → Kind
kind_of (read address width pcd answers log writes) = reading
kind_of (write address width value answers log) = other
kind_of (external address bytes) = other
kind_of (snoop address) = other
kind_of flush = emptying
kind_of (control cd nw) = other
kind_of (view address) = other
kind_of reset = emptying
kind_of (test_write set way tag mark bytes) = test_writing
kind_of (test_read set way) = test_reading
kind_of (set_ranges words) = setting

-- A test call.
abbrev pub testing : Kind → Bool
testing test_writing = true
testing test_reading = true
testing emptying = false
testing reading = false
testing setting = false
testing other = false

-- An "accepted test write", by its number.
abbrev pub plants : Kind → ℕ → Bool
plants test_writing number = eqb number 0
plants test_reading number = false
plants emptying number = false
plants reading number = false
plants setting number = false
plants other number = false

-- A "flush or reset".
abbrev pub empties : Kind → Bool
empties test_writing = false
empties test_reading = false
empties emptying = true
empties reading = false
empties setting = false
empties other = false

-- An accepted setting call, by its number.
abbrev pub alters : Kind → ℕ → Bool
alters test_writing number = false
alters test_reading number = false
alters emptying number = false
alters reading number = false
alters setting number = eqb number 0
alters other number = false

-- C-17: "agreement now needs KEN# inactive throughout these ranges": for reads, and there it is enough that the first answer of a doubleword which lies in
-- a range has no KEN#.
unfoldable pub EachQuiet : List Range → List Doubleword → Type 0
EachQuiet rom [] = Unit {0}
EachQuiet rom (w ∷ ws) = (read_only rom w.line ≡ true → ken (get_or w.answers 0 0) ≡ false) × EachQuiet rom ws

abbrev pub KenInactive : List Range → Call → Type 0
KenInactive rom (read address width pcd answers log writes) = EachQuiet rom (doublewords_of group_count answers address width 0)
KenInactive rom (write address width value answers log) = Unit {0}
KenInactive rom (external address bytes) = Unit {0}
KenInactive rom (snoop address) = Unit {0}
KenInactive rom flush = Unit {0}
KenInactive rom (control cd nw) = Unit {0}
KenInactive rom (view address) = Unit {0}
KenInactive rom reset = Unit {0}
KenInactive rom (test_write set way tag mark bytes) = Unit {0}
KenInactive rom (test_read set way) = Unit {0}
KenInactive rom (set_ranges words) = Unit {0}

-- The results of a call: "the number (a view's is its companion question's), an accepted read's value", "an accepted view's sixteen bytes".
pub record SameResults (x : After) (p : Plain) : Type 0 where
  pub numbers : x.outcome.number ≡ p.number
  pub values : x.outcome.value ≡ p.value
  pub views : x.shown ≡ p.shown

-- "Compared after each call": its results, "and all of RAM"; and no record carries 128. For every call, refused ones too (D50); but "the results of
-- test calls are not compared".
pub record Matches (c : Call) (x : After) (p : Plain) : Type 0 where
  pub results : testing (kind_of c) ≡ false → SameResults x p
  pub rams : x.memory.ram ≡ p.memory.bytes
  pub no_parity_error : NoParityError x

-- An accepted control call that sets NW to 1. One with CD = 0 and NW = 1 is refused by 9 and sets nothing.
abbrev pub sets_nw : Call → Bool
sets_nw (read address width pcd answers log writes) = false
sets_nw (write address width value answers log) = false
sets_nw (external address bytes) = false
sets_nw (snoop address) = false
sets_nw flush = false
sets_nw (control cd nw) = not (control_refused cd nw) && nw
sets_nw (view address) = false
sets_nw reset = false
sets_nw (test_write set way tag mark bytes) = false
sets_nw (test_read set way) = false
sets_nw (set_ranges words) = false

-- "Under demand 3's premises 1 to 3 and 21 to 23 never arise.": each number is 0 or one of 4 to 10, of a read also 33, of a test
-- call 0, 31 or 32, of a setting call 0, 37 or 38.
abbrev pub numbers_of : Kind → List ℕ
numbers_of test_writing = 0 ∷ 31 ∷ 32 ∷ []
numbers_of test_reading = 0 ∷ 31 ∷ 32 ∷ []
numbers_of emptying = 0 ∷ 4 ∷ 5 ∷ 6 ∷ 7 ∷ 8 ∷ 9 ∷ 10 ∷ []
numbers_of reading = 0 ∷ 4 ∷ 5 ∷ 6 ∷ 7 ∷ 8 ∷ 9 ∷ 10 ∷ 33 ∷ []
numbers_of setting = 0 ∷ 37 ∷ 38 ∷ []
numbers_of other = 0 ∷ 4 ∷ 5 ∷ 6 ∷ 7 ∷ 8 ∷ 9 ∷ 10 ∷ []

abbrev pub one_of : ℕ → List ℕ → Bool
one_of n [] = false
one_of n (x ∷ xs) = eqb n x || one_of n xs

abbrev pub Arises : Kind → ℕ → Type 0
Arises kind n = one_of n (numbers_of kind) ≡ true

-- Document 01, 'Other masters, views, and the plain memory': the calls of a list, and one step of the unit.
use Rattle.std.specs.Prelude.{ℕ, zero, suc, ◌+◌, Bool, List, [], ◌∷◌, length, get_or}
use Rattle.directory.specs.declared.steps.Directory.{Directory}
use Rattle.directory.specs.Outcome.{outcome}
use Rattle.directory.specs.Steps.{snoop_call, control_call, after_flush, flush_call, reset_call}
use Rattle.carried.specs.Carried.{Carried}
use Rattle.bus.specs.Record.{Record}
use Rattle.refusal.specs.Call.{State, After, on_directory}
use Rattle.access.specs.Access.{read_call, write_call}
use Rattle.masters.specs.Masters.{external_call}
use Rattle.views.specs.View.{view_number_in, view_in}
use Rattle.diagnostics.specs.Diagnostics.{test_write_call, test_read_line}
use Rattle.read_only_ranges.specs.SetRanges.{set_ranges_call}

-- "the calls' arguments except directory, RAM, parity and data array": "The log, the board's answers and an external write's bytes are each call's own and may be anything."
-- Numbers are ℕ, so that the claim covers lists that no caller can make too; the contracts tie steps with 32-bit arguments, 64-bit
-- values and 8-bit bytes to the code. Document 02, C-12: "Let a read carry up to four external writes"; the call `read` carries none.
pub data Call : Type 0 where
  read : (address width : ℕ) → (pcd : Bool) → (answers log : List ℕ) → (writes : List Carried) → Call
  write : (address width value : ℕ) → (answers log : List ℕ) → Call
  external : (address : ℕ) → (bytes : List ℕ) → Call
  snoop : (address : ℕ) → Call
  flush : Call
  control : (cd nw : Bool) → Call
  view : (address : ℕ) → Call
  reset : Call
  test_write : (set way tag : ℕ) → (mark : Bool) → (bytes : List ℕ) → Call
  test_read : (set way : ℕ) → Call
  set_ranges : (words : List ℕ) → Call

-- A view and its number, of the state of the unit: those that `views` gives for its arrays.
abbrev pub view_number_of : State → ℕ → ℕ
view_number_of s address =
    view_number_in s.directory.tags s.directory.valid s.directory.lru s.directory.ranges (length s.memory.ram) (length s.array) address

abbrev pub view_of : State → ℕ → List ℕ
view_of s address =
    view_in s.directory.tags s.directory.valid s.directory.lru s.directory.ranges s.memory.ram s.array address

-- "the number (a view's is its companion question's)"; views change nothing.
abbrev pub view_call : State → ℕ → After
view_call s address =
    record {
      outcome = outcome s.directory (view_number_of s address) 0 0;
      memory = s.memory;
      array = s.array;
      log = [];
      shown = view_of s address;
    }

-- A test read changes nothing; of what it answers, the list keeps the number.
abbrev pub test_read_call : State → ℕ → ℕ → After
test_read_call s set way = on_directory s (outcome s.directory (test_read_line s.directory s.array set way).number 0 0)

-- One step of the unit, by the definitions that the contracts of the calls cite, and by a rule that says what a flush leaves of the directory.
unfoldable pub step_by : (Directory → Directory) → State → Call → After
step_by rule s (read address width pcd answers log writes) = read_call s address width pcd answers log writes
step_by rule s (write address width value answers log) = write_call s address width value answers log
step_by rule s (external address bytes) = external_call s address bytes
step_by rule s (snoop address) = on_directory s (snoop_call s.directory address)
step_by rule s flush = on_directory s (flush_call rule s.directory)
step_by rule s (control cd nw) = on_directory s (control_call s.directory cd nw)
step_by rule s (view address) = view_call s address
step_by rule s reset = on_directory s (reset_call s.directory)
step_by rule s (test_write set way tag mark bytes) = test_write_call s set way tag mark bytes
step_by rule s (test_read set way) = test_read_call s set way
step_by rule s (set_ranges words) = set_ranges_call s words

-- Document 02, C-14: "Comparisons use the new one."
abbrev pub step : State → Call → After
step = step_by after_flush

-- "Each cycle leaves three 32-bit words in the log": so many records, from a place of the log on.
unfoldable pub records_from : List ℕ → ℕ → ℕ → List Record
records_from log i zero = []
records_from log i (suc n) =
    record { address = get_or log i 0; flags = get_or log (i + 1) 0; word = get_or log (i + 2) 0 } ∷ records_from log (i + 3) n

-- The records that a call leaves: as many as it counts, at the start of its log.
abbrev pub records_left : After → List Record
records_left a = records_from a.log 0 a.outcome.cycles

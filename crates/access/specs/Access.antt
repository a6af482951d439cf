-- Reads and writes: their doublewords one after the other, and what the whole call leaves.
use Rattle.std.specs.Prelude.{ℕ, ◌+◌, Bool, cond, not, ◌&&◌, List, [], ◌∷◌, ◌++◌, eqb, length}
use Rattle.ways.specs.Address.{set_of}
use Rattle.ranges.specs.Ranges.{Range}
use Rattle.directory.specs.declared.steps.Directory.{Directory}
use Rattle.directory.specs.Outcome.{outcome}
use Rattle.directory.specs.Steps.{ranges_kept, lookup_of, victim_of, after_snoop}
use Rattle.words.specs.Bytes.{value_of, bytes_of}
use Rattle.carried.specs.Carried.{Carried, due, later, landed}
use Rattle.bus.specs.Record.{Record, logged}
use Rattle.bus.specs.Groups.{group_count, widest}
use Rattle.doubleword.specs.Doubleword.{Doubleword, doublewords_of, changed, Done}
use Rattle.reading.specs.Reading.{read_miss, read_done}
use Rattle.writing.specs.Writing.{write_done}
use Rattle.access.specs.declared.CallResult.{CallResult}
use Rattle.refusal.specs.Call.{State, state, After, after, refused}
use Rattle.refusal.specs.Refusal.{or_else, lent_number, argument_number, value_number, carried_number, kept_number, states_number_of, carried_states_number}

-- What doublewords did so far: the state, the bytes read, the records.
pub record Progress : Type 0 where
  pub state : State
  pub bytes : List ℕ
  pub records : List Record

abbrev pub progress : State → List ℕ → List Record → Progress
progress s bytes records = record { state = s; bytes = bytes; records = records }

-- A doubleword of a write by the directory as it is then, read-only ranges and operand given: "the lower one completed first (H)".
unfoldable pub write_one : List Range → List ℕ → State → Doubleword → Done
write_one rs operand s w =
    write_done (lookup_of s.directory w.line) (s.directory.cd && s.directory.nw) rs s.memory s.array operand w

-- The state after a doubleword.
abbrev pub next : State → Doubleword → Done → State
next s w done = state (changed s.directory w.line done.change) done.memory done.array

-- What a doubleword did, and then the rest.
abbrev pub then_rest : Done → Progress → Progress
then_rest here rest = progress rest.state (here.bytes ++ rest.bytes) (here.records ++ rest.records)

-- All doublewords of a write, each by the same rule.
unfoldable pub all_of : (State → Doubleword → Done) → State → List Doubleword → Progress
all_of one s [] = progress s [] []
all_of one s (w ∷ ws) = let here = one s w in then_rest here (all_of one (next s w here) ws)

-- A read before one of its doublewords: the unit, the writes that it carries and that have not landed, the number of the next cycle, "counted from 0 over
-- the access".
pub record UnderWay : Type 0 where
  pub unit : State
  pub writes : List Carried
  pub cycle : ℕ

abbrev pub under_way : State → List Carried → ℕ → UnderWay
under_way s writes cycle = record { unit = s; writes = writes; cycle = cycle }

-- "One in any other line snoops as usual.", in list order. The line being filled is not held, so that the snoop of a write into it changes nothing.
unfoldable pub snooped_by : List Carried → Directory → Directory
snooped_by [] d = d
snooped_by (w ∷ ws) d = snooped_by ws (after_snoop d w.address)

-- The directory after so many cycles of a doubleword. The cycles ask nothing of it, so the snoops of what landed before them follow the last.
abbrev pub directory_after : UnderWay → ℕ → Directory
directory_after u n = snooped_by (due (u.cycle + n) u.writes) u.unit.directory

-- A doubleword of a read by the directory as it is then: "the lower one completed first (H)". "The victim is chosen after a fill's last cycle."
unfoldable pub read_one : Bool → List Range → UnderWay → Doubleword → Done
read_one pcd rs u w =
    let d = u.unit.directory in
    let mayFill = not d.cd && not pcd in
    let cycles = length (read_miss mayFill rs u.unit.memory u.writes u.cycle w).records in
    read_done (lookup_of d w.line) (victim_of (directory_after u cycles) (set_of w.line)) mayFill rs u.unit.memory u.writes u.cycle u.unit.array w

-- The read after a doubleword: what landed during its cycles has snooped, then the directory is changed.
abbrev pub read_next : UnderWay → Doubleword → Done → UnderWay
read_next u w done =
    let n = length done.records in
    under_way (state (changed (directory_after u n) w.line done.change) done.memory done.array) (later (u.cycle + n) u.writes) (u.cycle + n)

-- "Writes numbered past the last cycle, and all where there is none, land after the value is taken."
unfoldable pub landed_after : List Range → UnderWay → State
landed_after rs u = state (snooped_by u.writes u.unit.directory) (landed rs u.writes u.unit.memory) u.unit.array

-- All doublewords of a read, and what is left of the writes after them.
unfoldable pub read_each : Bool → List Range → UnderWay → List Doubleword → Progress
read_each pcd rs u [] = progress (landed_after rs u) [] []
read_each pcd rs u (w ∷ ws) = let here = read_one pcd rs u w in then_rest here (read_each pcd rs (read_next u w here) ws)

-- A call that was done: the records of its cycles are at the start of the log.
abbrev pub accepted : ℕ → Progress → List ℕ → After
accepted value p log =
    after (outcome p.state.directory 0 value (length p.records)) p.state.memory p.state.array
    (logged log 0 p.records)

-- What a call in place leaves: its answer, the state that the lent references hold at exit, and the log.
abbrev pub leaves : CallResult → State → List ℕ → After
leaves r s log = after (outcome s.directory r.number r.value r.cycles) s.memory s.array log

-- The number of a read: the input's first, then 37 and 38 of the ranges that the directory keeps, then the state's. "33 .., after 10"; "State numbers: the read's sets first, then the writes' in list order."
unfoldable pub read_number : State → ℕ → ℕ → List ℕ → List ℕ → List Carried → ℕ
read_number s address width answers log writes =
    or_else (lent_number (length s.memory.ram) (length s.memory.parity) (length s.array))
    (or_else (argument_number (length s.memory.ram) address width answers (length log))
    (or_else (carried_number (length s.memory.ram) writes)
    (or_else (kept_number (length s.memory.ram) s.directory.ranges)
    (or_else (states_number_of s.directory address width) (carried_states_number s.directory writes)))))

-- The number of a write, which has 8 as well.
unfoldable pub write_number : State → ℕ → ℕ → ℕ → List ℕ → List ℕ → ℕ
write_number s address width value answers log =
    or_else (lent_number (length s.memory.ram) (length s.memory.parity) (length s.array))
    (or_else (argument_number (length s.memory.ram) address width answers (length log))
    (or_else (value_number width value)
    (or_else (kept_number (length s.memory.ram) s.directory.ranges) (states_number_of s.directory address width))))

-- All doublewords of an accepted read.
unfoldable pub read_all : State → ℕ → ℕ → Bool → List ℕ → List Carried → Progress
read_all s address width pcd answers writes = read_each pcd (ranges_kept s.directory) (under_way s writes 0) (doublewords_of group_count answers address width 0)

-- "little-endian": the bytes of a value, of which a write moves as many as its width.
abbrev pub operand_of : ℕ → List ℕ
operand_of value = bytes_of widest value

-- All doublewords of an accepted write.
unfoldable pub write_all : State → ℕ → ℕ → ℕ → List ℕ → Progress
write_all s address width value answers = all_of (write_one (ranges_kept s.directory) (operand_of value)) s (doublewords_of group_count answers address width 0)

-- The read call with the writes that it carries, refused or not. `read` carries none.
unfoldable pub read_call : State → ℕ → ℕ → Bool → List ℕ → List ℕ → List Carried → After
read_call s address width pcd answers log writes =
    let number = read_number s address width answers log writes in
    let done = read_all s address width pcd answers writes in
    cond (eqb number 0) (accepted (value_of done.bytes) done log) (refused number s log)

-- The write call, whose value is 0.
unfoldable pub write_call : State → ℕ → ℕ → ℕ → List ℕ → List ℕ → After
write_call s address width value answers log =
    let number = write_number s address width value answers log in
    cond (eqb number 0) (accepted 0 (write_all s address width value answers) log) (refused number s log)

-- What the parts of the code of a read that carries writes leave. The writes have the bytes that RAM takes of them, so that no range is asked here.
use Rattle.std.specs.Prelude.{ℕ, suc, ◌+◌, ◌*◌, ◌-◌, ◌%◌, ◌^◌, ◌≤◌, ◌<◌, ◌≡◌, Bool, false, cond, not, ◌&&◌, ◌||◌, List, [], ◌∷◌, ltb, length, get_or, map, replicate, Option, Some, None}
use Rattle.ways.specs.Address.{data_offset}
use Rattle.words.specs.Bytes.{bytes_at, value_of}
use Rattle.memory.specs.Parity.{Memory}
use Rattle.carried.specs.declared.CarriedWrites.{CarriedWrites}
use Rattle.carried.specs.Carried.{Carried, due, later, landed, memory_at, in_line}
use Rattle.carried.specs.CarriedCode.{writes_from, left_from, CarriedNeeds}
use Rattle.bus.specs.Bus.{Run, run, Cycle, buffer_after}
use Rattle.bus.specs.Groups.{group_size}
use Rattle.bus.specs.Record.{Record, read_record, logged}
use Rattle.parts.specs.Parts.{moving}
use Rattle.doubleword.specs.declared.change.Change.{Change}
use Rattle.doubleword.specs.declared.change.Change.TheVariants.{Unchanged, Use, Fill}
use Rattle.doubleword.specs.declared.cursor.AccessCursor.{AccessCursor}
use Rattle.doubleword.specs.Doubleword.{Doubleword}
use Rattle.doubleword.specs.Cursor.{line_address, count_of}
use Rattle.reading.specs.Reading.{buffer_of, records_of, read_miss}
use Rattle.carrying.specs.declared.cycle.Brought.{Brought}
use Rattle.carrying.specs.declared.next.CarriedRead.{CarriedRead}

-- ONE CYCLE

-- What landing before cycle n leaves.
pub record LandsDue (carried : CarriedWrites) (line n : ℕ) (at r : Brought) (m₀ m : Memory) : Type 0 where
  pub memories : m ≡ landed [] (due (suc n) (left_from carried at.landed)) m₀
  pub those : writes_from carried at.landed (r.landed - at.landed) ≡ due (suc n) (left_from carried at.landed)
  pub lefts : left_from carried r.landed ≡ later (suc n) (left_from carried at.landed)
  pub above : at.landed ≤ r.landed
  pub within : r.landed ≤ carried.count
  pub same : r.used ≡ at.used
  pub spoils : r.spoiled ≡ (at.spoiled || (ltb 0 at.used && in_line line (due (suc n) (left_from carried at.landed))))

-- What a cycle of so many bytes, from an offset of a line on, leaves.
pub record MovesBytes (kind : ℕ) (m : Memory) (line from count : ℕ) (last : Bool) (place : ℕ) (at r : Brought) (buffer₀ buffer log₀ log : List ℕ) : Type 0 where
  pub logs : log ≡ logged log₀ place (read_record kind m line (moving from count last) ∷ [])
  pub buffers : buffer ≡ buffer_after m.ram line (run from count) buffer₀
  pub makes : r.used ≡ at.used + 1
  pub same : r.landed ≡ at.landed
  pub spoils : r.spoiled ≡ at.spoiled

-- SOME CYCLES

-- Memory and the writes once n cycles of the access are made, of those from a place on.
pub record LandedTo (carried : CarriedWrites) (from : ℕ) (m₀ : Memory) (n : ℕ) (m : Memory) (to : ℕ) : Type 0 where
  pub memories : m ≡ landed [] (due n (left_from carried from)) m₀
  pub those : writes_from carried from (to - from) ≡ due n (left_from carried from)
  pub lefts : left_from carried to ≡ later n (left_from carried from)
  pub above : from ≤ to
  pub within : to ≤ carried.count

-- Whether one of them landed in the line after the doubleword's first cycle.
abbrev pub spoiled_at : CarriedWrites → ℕ → ℕ → ℕ → ℕ → Bool
spoiled_at carried from line first n = in_line line (due n (later (suc first) (left_from carried from)))

-- What cycles of a doubleword leave, by memory as it is at each of them.
pub record CyclesBrought (kind line first : ℕ) (carried : CarriedWrites) (from : ℕ) (m₀ : Memory) (cs : List Cycle) (at r : Brought) (m : Memory) (buffer₀ buffer log₀ log : List ℕ) : Type 0 where
  pub made : r.used ≡ at.used + length cs
  pub logs : log ≡ logged log₀ (first + at.used) (records_of kind (memory_at [] m₀ (left_from carried from)) line (first + at.used) cs)
  pub buffers : buffer ≡ buffer_of (memory_at [] m₀ (left_from carried from)) line (first + at.used) cs buffer₀
  pub lands : LandedTo carried from m₀ (first + r.used) m r.landed
  pub spoils : at.spoiled ≡ spoiled_at carried from line first (first + at.used) → r.spoiled ≡ spoiled_at carried from line first (first + r.used)

-- What the cycles of so many bytes need, from an offset of a line on.
pub record RunNeeds (line from count first used ram parity answers log : ℕ) : Type 0 where
  pub aligned : line % 16 ≡ 0
  pub inside : line + 16 ≤ ram
  pub small : ram ≤ 16777216
  pub bits : ram ≤ 4 * parity
  pub some : 0 < count
  pub lanes : from % 4 + count ≤ 4
  pub short : from < 16
  pub served : used + count ≤ answers
  pub records : 3 * (first + used + count) ≤ log
  pub few : first + used + count ≤ 64

-- ONE DOUBLEWORD

-- Before its first cycle nothing is brought.
abbrev pub none_brought : ℕ → Brought
none_brought landed = record { used = 0; landed = landed; spoiled = false }

-- What the cycles of a miss need.
pub record MissNeeds (carried : CarriedWrites) (line first from ram parity answers log : ℕ) : Type 0 where
  pub aligned : line % 16 ≡ 0
  pub inside : line + 16 ≤ ram
  pub small : ram ≤ 16777216
  pub bits : ram ≤ 4 * parity
  pub served : answers ≡ group_size
  pub records : 3 * (first + group_size) ≤ log
  pub few : first ≤ 48
  pub writes : CarriedNeeds carried ram parity
  pub within : from ≤ carried.count
  pub due : due first (left_from carried from) ≡ []

-- Turns, each of so many bytes of a doubleword, from the offset that an order names for it.
abbrev pub turns : List ℕ → ℕ → List Run
turns order count = map (λ from. run from count) order

pub record TurnNeeds (order : List ℕ) (count : ℕ) : Type 0 where
  pub few : length order ≤ 4
  pub some : 0 < count
  pub most : count ≤ 4
  pub lanes : (turn : ℕ) → turn < length order → get_or order turn 0 % 4 + count ≤ 4
  pub short : (turn : ℕ) → turn < length order → get_or order turn 0 < 16

-- What the lookup and the cycles of a doubleword brought, by what the lookup found.
pub record Begun : Type 0 where
  pub kept : Bool
  pub buffer : List ℕ
  pub bytes : List ℕ
  pub records : List Record

unfoldable pub begun_by : Option ℕ → Bool → Memory → List Carried → ℕ → List ℕ → Doubleword → Begun
begun_by (Some way) mayFill m ws first array w =
    record {
      kept = false;
      buffer = replicate 16 0;
      bytes = bytes_at array (data_offset w.line way + w.wanted.from) w.wanted.count;
      records = [];
    }
begun_by None mayFill m ws first array w =
    let missed = read_miss mayFill [] m ws first w in
    record {
      kept = missed.kept;
      buffer = missed.buffer;
      bytes = bytes_at missed.buffer w.wanted.from w.wanted.count;
      records = missed.records;
    }

-- What the code hands back, from what was found and brought.
abbrev pub carried_read : ℕ → Option ℕ → Brought → Bool → List ℕ → ℕ → ℕ → CarriedRead
carried_read line f b ken buffer count value =
    record {
      line = line;
      found = f;
      ken = ken;
      spoiled = b.spoiled;
      buffer = buffer;
      count = count;
      value = value;
      cycles = b.used;
      landed = b.landed;
    }

-- Whether the line is kept, whatever NW is.
abbrev pub keeps : CarriedRead → Bool
keeps r = not r.spoiled && r.ken

-- What the code hands back and leaves for that.
pub record CarriedNext (f : Option ℕ) (b : Begun) (carried : CarriedWrites) (from : ℕ) (m₀ : Memory) (cursor : AccessCursor) (log₀ : List ℕ) (r : CarriedRead) (m : Memory) (log : List ℕ) : Type 0 where
  pub line : r.line ≡ line_address cursor
  pub counts : r.count ≡ count_of cursor
  pub founds : r.found ≡ f
  pub kept : keeps r ≡ b.kept
  pub buffers : r.buffer ≡ b.buffer
  pub gives : r.value ≡ value_of b.bytes
  pub fits : r.value < 256 ^ count_of cursor
  pub made : r.cycles ≡ length b.records
  pub most : r.cycles ≤ group_size
  pub logs : log ≡ logged log₀ cursor.cycles b.records
  pub lands : LandedTo carried from m₀ (cursor.cycles + r.cycles) m r.landed

-- The directory's change at the end of a doubleword: a kept fill, or a use of the way that was found.
abbrev pub use_of : Option ℕ → Change
use_of (Some way) = Use way
use_of None = Unchanged

abbrev pub settled_change : Bool → ℕ → Option ℕ → Change
settled_change kept victim f = cond kept (Fill victim) (use_of f)

-- A way that was found is below 4.
abbrev pub FoundBelow : Option ℕ → Type 0
FoundBelow (Some way) = way < 4
FoundBelow None = Unit {0}

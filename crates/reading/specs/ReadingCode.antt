-- What the parts of the code of a read leave.
use Rattle.std.specs.Prelude.{ℕ, ◌^◌, ◌≤◌, ◌<◌, ◌≡◌, Bool, List, [], length, Option}
use Rattle.words.specs.Bytes.{value_of}
use Rattle.memory.specs.Parity.{Memory}
use Rattle.bus.specs.Groups.{group_size}
use Rattle.bus.specs.Record.{logged}
use Rattle.doubleword.specs.declared.change.Change.{Change}
use Rattle.doubleword.specs.declared.cursor.AccessCursor.{AccessCursor}
use Rattle.doubleword.specs.Doubleword.{Doubleword, Done}
use Rattle.doubleword.specs.DoublewordCode.{BelowFour}
use Rattle.doubleword.specs.Cursor.{count_of, line_address}
use Rattle.reading.specs.Reading.{read_done}
use Rattle.reading.specs.declared.next.NextRead.{NextRead}

-- What the code hands back and leaves in the buffers for what a doubleword of a read does: of so many wanted bytes, with its records after the first ones.
pub record Reads (done : Done) (count first : ℕ) (log₀ : List ℕ) (change : Change) (value cycles : ℕ) (array log : List ℕ) : Type 0 where
  pub changes : change ≡ done.change
  pub below : BelowFour change
  pub arrays : array ≡ done.array
  pub logs : log ≡ logged log₀ first done.records
  pub gives : value ≡ value_of done.bytes
  pub fits : value < 256 ^ count
  pub made : cycles ≡ length done.records
  pub most : cycles ≤ group_size

-- What the code hands back and leaves in the buffers for what the next doubleword of a read does.
pub record ReadNext (done : Done) (cursor : AccessCursor) (log₀ : List ℕ) (r : NextRead) (array log : List ℕ) : Type 0 where
  pub line : r.line ≡ line_address cursor
  pub counts : r.count ≡ count_of cursor
  pub reads : Reads done (count_of cursor) cursor.cycles log₀ r.change r.value r.cycles array log

-- A doubleword of a read that carries nothing, so that no range is asked.
abbrev pub read_alone : Option ℕ → ℕ → Bool → Memory → List ℕ → Doubleword → Done
read_alone f victim mayFill m array w = read_done f victim mayFill [] m [] 0 array w

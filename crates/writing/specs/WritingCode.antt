-- What the parts of the code of a write leave.
use Rattle.std.specs.Prelude.{ℕ, ◌≤◌, ◌≡◌, List, length}
use Rattle.memory.specs.Parity.{Memory}
use Rattle.bus.specs.Groups.{group_size}
use Rattle.bus.specs.Record.{logged}
use Rattle.doubleword.specs.declared.change.Change.{Change}
use Rattle.doubleword.specs.declared.cursor.AccessCursor.{AccessCursor}
use Rattle.doubleword.specs.Doubleword.{Done}
use Rattle.doubleword.specs.DoublewordCode.{BelowFour}
use Rattle.doubleword.specs.Cursor.{count_of, line_address}
use Rattle.writing.specs.declared.next.NextWritten.{NextWritten}

-- What the code hands back and leaves in the buffers for what a doubleword of a write does, with its records after the first ones.
pub record Writes (done : Done) (first : ℕ) (log₀ : List ℕ) (change : Change) (cycles : ℕ) (m : Memory) (array log : List ℕ) : Type 0 where
  pub changes : change ≡ done.change
  pub below : BelowFour change
  pub memories : m ≡ done.memory
  pub arrays : array ≡ done.array
  pub logs : log ≡ logged log₀ first done.records
  pub made : cycles ≡ length done.records
  pub most : cycles ≤ group_size

-- What the code hands back and leaves in the buffers for what the next doubleword of a write does.
pub record WriteNext (done : Done) (cursor : AccessCursor) (log₀ : List ℕ) (r : NextWritten) (m : Memory) (array log : List ℕ) : Type 0 where
  pub line : r.line ≡ line_address cursor
  pub counts : r.count ≡ count_of cursor
  pub writes : Writes done cursor.cycles log₀ r.change r.cycles m array log

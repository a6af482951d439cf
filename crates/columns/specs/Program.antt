-- Demand 3 carried to the program: the answer and value columns of its rows, by the plain memory.
use Rattle.std.specs.Prelude.{ℕ, suc, ◌≡◌, Bool, false, cond, Option, Some, None, List, [], ◌∷◌, ◌++◌, ltb, length, get_or, drop, replicate}
use Rattle.refusal.specs.Call.{State, next_state}
use Rattle.calls.specs.Calls.{Call}
use Rattle.board.specs.Board.{block_answers, GoodTable}
use Rattle.block_table.specs.Load.{load_call}
use Rattle.fields.specs.Fields.{lines_of}
use Rattle.rows.specs.Row.{header, row_of}
use Rattle.performing.specs.Perform.{line_call, line_done}
use Rattle.events.specs.Output.{start, output_of}
use Rattle.calls.specs.Plain.{PlainMemory, plain_memory, Plain, plain, plain_refused}
use Rattle.calls.specs.Matches.{sets_nw}

-- The plain memory's answer to a line: to the call that its event makes, and 11 to a malformed line, which "changes nothing". No event's read carries
-- writes, so that it asks for no records.
unfoldable pub plain_call : PlainMemory → Option Call → Plain
plain_call m None = plain_refused 11 m
plain_call m (Some c) = plain m c []

-- The plain memory has no table, and looks at a call's answers for number 6 alone: every table of answers up to 7 gives the same (`plain_same`). Ours is
-- taken.
abbrev pub plain_line : PlainMemory → List ℕ → Plain
plain_line m line = plain_call m (line_call block_answers line)

-- Rows whose answers and values are the plain memory's, and whose counts of cycles are given.
unfoldable pub plain_rows : PlainMemory → ℕ → List (List ℕ) → List ℕ → List ℕ
plain_rows m event [] counts = []
plain_rows m event (line ∷ lines) counts =
    row_of event (plain_line m line).number (plain_line m line).value (get_or counts 0 0)
    ++ plain_rows (plain_line m line).memory (suc event) lines (drop 1 counts)

-- The counts of cycles of the unit's own rows, with a table.
unfoldable pub counts_of : List ℕ → State → List (List ℕ) → List ℕ
counts_of table s [] = []
counts_of table s (line ∷ lines) =
    (line_done table s line).outcome.cycles ∷ counts_of table (next_state (line_done table s line)) lines

-- The output of a program on the plain memory, whose 65,536 bytes are 0 at first; it has no range, since no line sets one.
unfoldable pub plain_output : List ℕ → List ℕ → List ℕ
plain_output input counts =
    header
    ++ cond (ltb 65536 (length input)) (row_of 0 12 0 0) (plain_rows (plain_memory (replicate 65536 0) []) 1 (lines_of input) counts)

-- An accepted control line that sets NW to 1.
abbrev pub line_sets_nw : Option Call → Bool
line_sets_nw None = false
line_sets_nw (Some c) = sets_nw c

-- No line of an input is such a one. A control line asks for no answers, so that every table gives the same (`sets_same`).
abbrev pub NoLineSetsNw : List (List ℕ) → Type 0
NoLineSetsNw [] = Unit {0}
NoLineSetsNw (line ∷ lines) = (line_sets_nw (line_call block_answers line) ≡ false) × NoLineSetsNw lines

-- For every input without such a line, the answer and value columns of the run with a table are those of the plain memory.
abbrev pub ColumnsWith : List ℕ → Type 0
ColumnsWith table =
    (input : List ℕ) → NoLineSetsNw (lines_of input) →
    output_of table input ≡ plain_output input (counts_of table start (lines_of input))

-- The claim for every table whose answers are at most 7.
abbrev pub EveryTable : Type 0
EveryTable = (table : List ℕ) → GoodTable table → ColumnsWith table

-- Document 02, C-16: so for every text that loads as a table.
abbrev pub EveryLoaded : Type 0
EveryLoaded = (given text : List ℕ) → (load_call given text).number ≡ 0 → ColumnsWith (load_call given text).table

-- The claim for the program, which "itself uses ours".
abbrev pub Columns : Type 0
Columns = ColumnsWith block_answers

-- Document 01, 'Board table and program', with document 02, C-16: the output of every input.
use Rattle.std.specs.Prelude.{ℕ, suc, ◌/◌, cond, List, [], ◌∷◌, ◌++◌, ltb, length, replicate}
use Rattle.ways.specs.Address.{data_size}
use Rattle.directory.specs.Steps.{first_reset}
use Rattle.memory.specs.Parity.{memory}
use Rattle.directory.specs.declared.steps.Outcome.{Outcome}
use Rattle.refusal.specs.Call.{State, state, next_state}
use Rattle.fields.specs.Fields.{lines_of}
use Rattle.rows.specs.Row.{header, row_of}
use Rattle.performing.specs.Perform.{line_done}

-- "The program has 65,536 zero RAM bytes"; "12. Program: over 65,536 input bytes."
abbrev pub ram_size : ℕ
ram_size = 65536

abbrev pub longest_input : ℕ
longest_input = 65536

-- No rule: no output is longer. A header of 26 bytes, and at most 54 for each line and for one more.
abbrev pub longest_output : ℕ
longest_output = 3539024

-- A row shows an event's answer.
abbrev pub row_for : ℕ → Outcome → List ℕ
row_for event o = row_of event o.number o.value o.cycles

-- The rows of lines, the first with this event number, with the board's answers by a table.
unfoldable pub rows_of : List ℕ → State → ℕ → List (List ℕ) → List ℕ
rows_of table s event [] = []
rows_of table s event (line ∷ lines) =
    row_for event (line_done table s line).outcome ++ rows_of table (next_state (line_done table s line)) (suc event) lines

-- "The program has 65,536 zero RAM bytes, zero parity, a zero data array, a reset directory."
unfoldable pub start : State
start = state first_reset (memory (replicate ram_size 0) (replicate (ram_size / 4) 0)) (replicate data_size 0)

-- "Output starts with the fixed header line"; "Number 12 prints the header and the one row 0, 12, 0, 0." Document 02, C-16: "the run over event lines takes it",
-- the table, "and the program itself uses ours", `block_answers`.
unfoldable pub output_of : List ℕ → List ℕ → List ℕ
output_of table input =
    header ++ cond (ltb longest_input (length input)) (row_of 0 12 0 0) (rows_of table start 1 (lines_of input))

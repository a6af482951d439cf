-- Document 02, C-16, 'The plant's own block table': what loading a text gives.
use Rattle.std.specs.Prelude.{ℕ, zero, suc, cond, Option, Some, None, Result, Ok, Err, List, [], ◌∷◌, eqb, ltb}
use Rattle.bus.specs.Groups.{highest_answer}
use Rattle.refusal.specs.Refusal.{or_else}
use Rattle.board.specs.Board.{block_count}
use Rattle.fields.specs.Number.{number_of}
use Rattle.fields.specs.Fields.{fields_of, lines_of}
use Rattle.block_table.specs.declared.TableFault.{TableFault}
use Rattle.block_table.specs.declared.TableFault.TheVariants.{WrongLine, WrongBlock, LargeAnswer}
use Rattle.block_table.specs.declared.LoadedTable.{LoadedTable}

-- "34 for a malformed, missing or seventeenth line; 35 for a wrong or repeated block; 36 for an answer above 7"
abbrev pub fault_number : TableFault → ℕ
fault_number WrongLine = 34
fault_number WrongBlock = 35
fault_number LargeAnswer = 36

-- What a line has for its block: an answer, or what refuses the line. The number is 0 where there is an answer.
abbrev pub Entry : Type 0
Entry = Result ℕ TableFault

abbrev pub entry_number : Entry → ℕ
entry_number (Ok answer) = 0
entry_number (Err fault) = fault_number fault

abbrev pub entry_answer : Entry → ℕ
entry_answer (Ok answer) = answer
entry_answer (Err fault) = 0

-- "lowest number first": of what the two fields say. A block that was on an earlier line is not the one that belongs here.
unfoldable pub entry_with : ℕ → Option ℕ → Option ℕ → Entry
entry_with block (Some b) (Some a) =
    cond (eqb b block) (cond (ltb highest_answer a) (Err LargeAnswer) (Ok a)) (Err WrongBlock)
entry_with block (Some b) None = Err WrongLine
entry_with block None a = Err WrongLine

-- "tab-parted lines, block number and answer, written as the program's". No line of more than the program's 80 bytes is well formed by this alone
-- (`long_refused`).
unfoldable pub entry_of : ℕ → List (List ℕ) → Entry
entry_of block [] = Err WrongLine
entry_of block (b ∷ []) = Err WrongLine
entry_of block (b ∷ a ∷ []) = entry_with block (number_of b) (number_of a)
entry_of block (b ∷ a ∷ c ∷ fields) = Err WrongLine

abbrev pub entry_on : ℕ → List ℕ → Entry
entry_on block line = entry_of block (fields_of line)

-- "blocks ascending from 0": so many lines belong here, the first for this block. "34 for a .. missing or seventeenth line"; "reported for the
-- earliest bad line".
unfoldable pub number_from : ℕ → ℕ → List (List ℕ) → ℕ
number_from block zero [] = 0
number_from block zero (line ∷ lines) = 34
number_from block (suc more) [] = 34
number_from block (suc more) (line ∷ lines) = or_else (entry_number (entry_on block line)) (number_from (suc block) more lines)

-- The number of a text: "sixteen .. lines".
unfoldable pub table_number : List ℕ → ℕ
table_number text = number_from 0 block_count (lines_of text)

-- The answers on lines, the first for this block.
unfoldable pub answers_from : ℕ → List (List ℕ) → List ℕ
answers_from block [] = []
answers_from block (line ∷ lines) = entry_answer (entry_on block line) ∷ answers_from (suc block) lines

abbrev pub table_of : List ℕ → List ℕ
table_of text = answers_from 0 (lines_of text)

-- "hands back the table in force"
abbrev pub loaded : List ℕ → ℕ → LoadedTable
loaded table number = record { table = table; number = number }

-- "Check it whole before use; a rejected table leaves the old one"
unfoldable pub load_call : List ℕ → List ℕ → LoadedTable
load_call given text =
    cond (eqb (table_number text) 0) (loaded (table_of text) 0) (loaded given (table_number text))

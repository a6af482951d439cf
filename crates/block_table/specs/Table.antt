-- What is claimed of loading a block table: its answers are those on the text's lines, and the text of a table loads as that table.
use Rattle.std.specs.Prelude.{ℕ, suc, ◌<◌, ◌≡◌, Some, Err, List, [], ◌∷◌, length, get_or}
use Rattle.board.specs.Board.{block_count, GoodTable}
use Rattle.fields.specs.Number.{number_of}
use Rattle.fields.specs.Fields.{tab, newline, fields_of, lines_of}
use Rattle.rows.specs.Row.{column}
use Rattle.block_table.specs.declared.TableFault.TheVariants.{WrongLine}
use Rattle.block_table.specs.Load.{entry_on, loaded, load_call}

-- "tab-parted lines, block number and answer": a line of two fields that say these.
pub record Says (line : List ℕ) (block answer : ℕ) : Type 0 where
  pub block_field : List ℕ
  pub answer_field : List ℕ
  pub fields : fields_of line ≡ block_field ∷ answer_field ∷ []
  pub says_block : number_of block_field ≡ Some block
  pub says_answer : number_of answer_field ≡ Some answer

-- "written as the program's", whose lines have "at most 80 bytes before the newline": two numbers and a tab are never longer.
abbrev pub LongRefused : Type 0
LongRefused = (block : ℕ) (line : List ℕ) → 80 < length line → entry_on block line ≡ Err WrongLine

-- "a loaded one gives each block exactly the answer on its line", and a good table of sixteen is loaded.
pub record Gives (text table : List ℕ) : Type 0 where
  pub blocks : length table ≡ block_count
  pub lines : length (lines_of text) ≡ block_count
  pub each : (block : ℕ) → block < block_count → Says (get_or (lines_of text) block []) block (get_or table block 0)
  pub good : GoodTable table

abbrev pub LoadedGives : Type 0
LoadedGives = (given text : List ℕ) → (load_call given text).number ≡ 0 → Gives text (load_call given text).table

-- "a rejected table leaves the old one"
abbrev pub RejectedLeaves : Type 0
RejectedLeaves = (given text : List ℕ) → ((load_call given text).number ≡ 0 → ⊥) → (load_call given text).table ≡ given

-- The text of a table, from a block on.
unfoldable pub printed_from : ℕ → List ℕ → List ℕ
printed_from block [] = []
printed_from block (answer ∷ table) = column block tab (column answer newline (printed_from (suc block) table))

abbrev pub PrintedLoads : Type 0
PrintedLoads =
    (given table : List ℕ) → length table ≡ block_count → GoodTable table → load_call given (printed_from 0 table) ≡ loaded table 0

-- What the loop over a table's lines keeps.
use Prim.Native.Nat.{ℕ, zero, suc, ◌+◌, ◌-◌, ◌≤◌, ◌<◌}
use mathlib.Core.Path.{◌≡◌, refl, sym, ap, ◌∙◌}
use mathlib.Core.List.{List, [], ◌∷◌, ◌++◌, append-nil, append_assoc}
use native.Mathlib.Numerals.{add-one}
use native.Mathlib.Omega.{arith}
use lib.ListN.{length, take, set, length-set}
use lib.Seq.{take_all, take-suc-set}
use Rattle.std.specs.Prelude.{Ok, Err}
use borrow.Author.Tests.{ne_eqb}
use Rattle.refusal.specs.Refusal.{or_else}
use Rattle.refusal.proofs.Accepted.{or_zero}
use Rattle.board.specs.Board.{block_count}
use Rattle.fields.specs.Fields.{lines_of}
use Rattle.fields.proofs.Parts.{no_lines, lines_next}
use Rattle.block_table.specs.declared.TableFault.{TableFault}
use Rattle.block_table.specs.declared.TableFault.TheVariants.{WrongLine, WrongBlock, LargeAnswer}
use Rattle.block_table.specs.Load.{fault_number, entry_number, loaded, entry_on, number_from, table_number, answers_from, table_of, load_call}

-- a line more than there are blocks
pub some_left : (block : ℕ) (l : List ℕ) → 0 < length l → number_from block 0 (lines_of l) ≡ 34
unfolding number_from
some_left block l h = rw (lines_next l _ h refl)

no_lines_left : (block : ℕ) (lines : List (List ℕ)) → number_from block 0 lines ≡ 0 → lines ≡ []
unfolding number_from
no_lines_left block [] z = refl
no_lines_left block (line ∷ lines) z = absurd (omega (arith, z))

-- an accepted text has as many lines as there are blocks
lines_length : (block more : ℕ) (lines : List (List ℕ)) → number_from block more lines ≡ 0 → length (answers_from block lines) ≡ more
unfolding number_from answers_from
lines_length block zero [] z = refl
lines_length block zero (line ∷ lines) z = absurd (omega (arith, z))
lines_length block (suc more) [] z = absurd (omega (arith, z))
lines_length block (suc more) (line ∷ lines) z = ap suc (lines_length (suc block) more lines (or_zero (entry_number (entry_on block line)) (number_from (suc block) more lines) z).1)

pub table_length : (text : List ℕ) → table_number text ≡ 0 → length (table_of text) ≡ block_count
unfolding table_number
table_length text z = lines_length 0 block_count (lines_of text) z

-- what refuses a line has a number
fault_met : (fault : TableFault) (next : ℕ) → or_else (fault_number fault) next ≡ fault_number fault
fault_met WrongLine next = refl
fault_met WrongBlock next = refl
fault_met LargeAnswer next = refl

pub fault_some : (fault : TableFault) → fault_number fault ≡ 0 → ⊥
fault_some WrongLine z = absurd (omega (arith, z))
fault_some WrongBlock z = absurd (omega (arith, z))
fault_some LargeAnswer z = absurd (omega (arith, z))

-- What the loop over the lines keeps: the lines before the rest have answers, which the table holds.
pub record LoadInvariant (text table rest : List ℕ) (block : ℕ) : Type 0 where
  pub sized : length table ≡ block_count
  pub numbers : number_from block (block_count - block) (lines_of rest) ≡ table_number text
  pub answers : take block table ++ answers_from block (lines_of rest) ≡ table_of text

pub load_begin : (text table : List ℕ) → length table ≡ block_count → LoadInvariant text table text 0
unfolding table_number
load_begin text table size = record { sized = size; numbers = refl; answers = refl }

module _ (text table rest : List ℕ) (block : ℕ) (inv : LoadInvariant text table rest block) where
  module _ (h : block < block_count) where
    more : block_count - block ≡ suc (block_count - suc block)
    more = omega arith

    -- a missing line, one that is refused, and one with an answer
    pub load_missing : lines_of rest ≡ [] → table_number text ≡ 34
    unfolding number_from
    load_missing none = sym inv.numbers ∙ rw (more, none)

    module _ (line after : List ℕ) (first : lines_of rest ≡ line ∷ lines_of after) where
      pub load_refused : (fault : TableFault) → Err fault ≡ entry_on block line → table_number text ≡ fault_number fault
      unfolding number_from
      load_refused fault e = sym inv.numbers ∙ rw (more, first, ← e) (fault_met fault _)

      pub load_next : (answer : ℕ) → Ok answer ≡ entry_on block line → LoadInvariant text (set table block answer) after (block + 1)
      unfolding number_from answers_from
      load_next answer e =
          let m : block < length table = omega (arith, inv.sized, h) in
          record {
            sized = length-set table block answer ∙ inv.sized;
            numbers = rw add-one (sym (rw (more, first, ← e)) ∙ inv.numbers);
            answers = rw (add-one, take-suc-set table block answer m, append_assoc (take block table) (answer ∷ []) (answers_from (suc block) (lines_of after))) (rw (first, ← e) at inv.answers);
          }

  -- all lines are scanned: no line is left, or a seventeenth
  module _ (last : block_count ≤ block) where
    none : block_count - block ≡ 0
    none = omega arith

    pub load_done : length rest ≡ 0 → (table_number text ≡ 0) × (table ≡ table_of text)
    unfolding number_from answers_from
    load_done e =
        let left = no_lines rest e in
        (sym inv.numbers ∙ rw (none, left), rw (left, take_all block table (omega (arith, inv.sized, last)), append-nil table) at inv.answers)

    pub load_seventeenth : 0 < length rest → table_number text ≡ 34
    load_seventeenth h = sym inv.numbers ∙ rw none (some_left block rest h)

-- refused, or loaded
pub call_loaded : (given text table : List ℕ) → table_number text ≡ 0 → table ≡ table_of text → loaded table 0 ≡ load_call given text
unfolding load_call
call_loaded given text table z e = rw (z, e)

pub call_refused : (given text : List ℕ) (fault : TableFault) → table_number text ≡ fault_number fault → loaded given (fault_number fault) ≡ load_call given text
unfolding load_call
call_refused given text fault e = rw (e, ne_eqb (fault_number fault) 0 (fault_some fault))

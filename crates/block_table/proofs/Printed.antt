-- The text of a table loads as that table.
use Prim.Native.Nat.{ℕ, suc, ◌+◌, ◌≤◌}
use mathlib.Core.Path.{◌≡◌, refl}
use mathlib.Core.Bool.{true, false}
use mathlib.Core.List.{List, [], ◌∷◌, ◌++◌, append-nil}
use native.Mathlib.Omega.{arith}
use lib.Dec.{eqb}
use lib.ListN.{length}
use borrow.Author.Tests.{eq-eqb, ne_eqb, le-ltb}
use Rattle.laws.proofs.Tests.{both, differ}
use Rattle.bus.specs.Groups.{highest_answer}
use Rattle.board.specs.Board.{block_count, GoodTable}
use Rattle.std.specs.Prelude.{Some, Ok}
use Rattle.std.specs.List.{list_all}
use Rattle.fields.specs.Number.{is_digit, number_of}
use Rattle.fields.specs.Fields.{tab, newline, in_front, parts_of, fields_of, without_empty_end, lines_of}
use Rattle.fields.proofs.Parts.{parts_some}
use Rattle.rows.specs.Decimal.{decimal}
use Rattle.rows.proofs.Decimal.{decimal_digits, printed_scanned}
use Rattle.block_table.specs.Load.{entry_with, entry_of, entry_on, number_from, table_number, answers_from, load_call}
use Rattle.block_table.specs.Table.{printed_from, PrintedLoads}

-- digits stand in the first part of a text, where no digit parts it
digit_parts : (separator : ℕ) → is_digit separator ≡ false → (digits rest part : List ℕ) (parts : List (List ℕ)) → list_all is_digit digits ≡ true → parts_of separator rest ≡ part ∷ parts →
    parts_of separator (digits ++ rest) ≡ (digits ++ part) ∷ parts
unfolding parts_of in_front
digit_parts separator s [] rest part parts d e = e
digit_parts separator s (c ∷ digits) rest part parts d e =
    let (first, others) = both (is_digit c) (list_all is_digit digits) d in
    let other : eqb c separator ≡ false = ne_eqb c separator (λ same. differ (rw same at first) s) in
    rw (other, digit_parts separator s digits rest part parts others e)

-- the line of a block, and its fields
abbrev printed_line : ℕ → ℕ → List ℕ
printed_line block answer = decimal block ++ tab ∷ decimal answer

line_fields : (block answer : ℕ) → fields_of (printed_line block answer) ≡ decimal block ∷ decimal answer ∷ []
unfolding parts_of
line_fields block answer =
    let last : parts_of tab (decimal answer) ≡ decimal answer ∷ [] = rw (append-nil (decimal answer)) at (digit_parts tab refl (decimal answer) [] [] [] (decimal_digits answer) refl) in
    rw (append-nil (decimal block)) at (digit_parts tab refl (decimal block) (tab ∷ decimal answer) [] (decimal answer ∷ []) (decimal_digits block) (rw last))

line_entry : (block answer : ℕ) → block ≤ 4294967295 → answer ≤ highest_answer → entry_on block (printed_line block answer) ≡ Ok answer
unfolding entry_of entry_with
line_entry block answer h good =
    let b : number_of (decimal block) ≡ Some block = printed_scanned 9 4294967295 block (omega arith) h in
    let a : number_of (decimal answer) ≡ Some answer = printed_scanned 9 4294967295 answer (omega arith) (omega (arith, good)) in
    rw (line_fields block answer, b, a, eq-eqb block block refl, le-ltb highest_answer answer good)

-- the lines of a printed table
lines_printed : (block answer : ℕ) (table : List ℕ) → lines_of (printed_from block (answer ∷ table)) ≡ printed_line block answer ∷ lines_of (printed_from (suc block) table)
unfolding lines_of without_empty_end printed_from parts_of in_front
lines_printed block answer table =
    let rest = printed_from (suc block) table in
    let (part, parts, e) = parts_some newline rest in
    let second : parts_of newline (decimal answer ++ newline ∷ rest) ≡ decimal answer ∷ parts_of newline rest = rw (append-nil (decimal answer)) at (digit_parts newline refl (decimal answer) (newline ∷ rest) [] (parts_of newline rest) (decimal_digits answer) refl) in
    let first : parts_of newline (decimal block ++ tab ∷ (decimal answer ++ newline ∷ rest)) ≡ printed_line block answer ∷ parts_of newline rest = digit_parts newline refl (decimal block) (tab ∷ (decimal answer ++ newline ∷ rest)) (tab ∷ decimal answer) (parts_of newline rest) (decimal_digits block) (rw second) in
    rw (first, e)

no_lines_printed : (block : ℕ) → lines_of (printed_from block []) ≡ []
unfolding lines_of without_empty_end printed_from parts_of
no_lines_printed block = refl

-- its number, and its answers
printed_number : (block : ℕ) (table : List ℕ) → block + length table ≤ block_count → GoodTable table → number_from block (length table) (lines_of (printed_from block table)) ≡ 0
unfolding number_from
printed_number block [] h good = rw (no_lines_printed block)
printed_number block (answer ∷ table) h good =
    let later = printed_number (suc block) table (omega (arith, h)) (λ k. good (suc k)) in
    rw (lines_printed block answer table, line_entry block answer (omega (arith, h)) (good 0), later)

printed_answers : (block : ℕ) (table : List ℕ) → block + length table ≤ block_count → GoodTable table → answers_from block (lines_of (printed_from block table)) ≡ table
unfolding answers_from
printed_answers block [] h good = rw (no_lines_printed block)
printed_answers block (answer ∷ table) h good =
    let later = printed_answers (suc block) table (omega (arith, h)) (λ k. good (suc k)) in
    rw (lines_printed block answer table, line_entry block answer (omega (arith, h)) (good 0), later)

pub printed_loads : PrintedLoads
unfolding load_call table_number
printed_loads given table size good =
    let fits : 0 + length table ≤ block_count = omega (arith, size) in
    let number : number_from 0 block_count (lines_of (printed_from 0 table)) ≡ 0 = rw size at (printed_number 0 table fits good) in
    rw (number, printed_answers 0 table fits good)

-- A loaded table gives each block the answer on its line; a rejected one leaves the given table.
use Prim.Native.Nat.{ℕ, zero, suc, ◌+◌, ◌≤◌, ◌<◌}
use mathlib.Core.Path.{◌≡◌, refl, sym, ap, ◌∙◌}
use mathlib.Core.Bool.{cond}
use mathlib.Core.List.{List, [], ◌∷◌}
use native.Mathlib.Nat.{zero-add}
use native.Mathlib.Omega.{arith}
use lib.Dec.{eqb, ltb}
use lib.ListN.{length, get_or}
use borrow.Author.Tests.{eqb-true, ltb-false, ne_eqb}
use Rattle.laws.proofs.Tests.{by_test}
use Rattle.bus.specs.Groups.{highest_answer}
use Rattle.refusal.proofs.Accepted.{or_zero}
use Rattle.board.specs.Board.{block_count, GoodTable}
use Rattle.std.specs.Prelude.{Option, Some, None, Ok, Err}
use Rattle.block_table.specs.declared.TableFault.TheVariants.{WrongBlock, LargeAnswer}
use Rattle.fields.specs.Number.{number_of}
use Rattle.fields.specs.Fields.{fields_of, lines_of}
use Rattle.block_table.specs.Load.{entry_number, entry_answer, entry_with, entry_of, entry_on, number_from, table_number, answers_from, table_of, loaded, load_call}
use Rattle.block_table.specs.Table.{Says, LoadedGives, RejectedLeaves}
use Rattle.block_table.proofs.Loading.{table_length}

-- two numbers that are not refused
record Accepted (block : ℕ) (b a : Option ℕ) : Type 0 where
  block_said : b ≡ Some block
  answer_said : a ≡ Some (entry_answer (entry_with block b a))
  good : entry_answer (entry_with block b a) ≤ highest_answer

accepted : (block : ℕ) (b a : Option ℕ) → entry_number (entry_with block b a) ≡ 0 → Accepted block b a
unfolding entry_with
accepted block (Some b) (Some a) =
    by_test (λ t. eqb b block ≡ t → entry_number (cond t (cond (ltb highest_answer a) (Err LargeAnswer) (Ok a)) (Err WrongBlock)) ≡ 0 → Accepted block (Some b) (Some a)) (eqb b block)
    (λ _ e.
    by_test (λ t. ltb highest_answer a ≡ t → entry_number (cond t (Err LargeAnswer) (Ok a)) ≡ 0 → Accepted block (Some b) (Some a)) (ltb highest_answer a)
    (λ _ _ z. absurd (omega (arith, z)))
    (λ _ f z. record { block_said = rw (eqb-true b block e); answer_said = rw (e, f); good = rw (e, f) (ltb-false highest_answer a f) })
    refl)
    (λ _ _ z. absurd (omega (arith, z)))
    refl
accepted block (Some b) None = λ z. absurd (omega (arith, z))
accepted block None a = λ z. absurd (omega (arith, z))

-- a line that is not refused says its block and the answer, which is good
entry_says : (block : ℕ) (line : List ℕ) (fields : List (List ℕ)) → fields_of line ≡ fields → entry_number (entry_of block fields) ≡ 0 →
    Says line block (entry_answer (entry_of block fields)) × (entry_answer (entry_of block fields) ≤ highest_answer)
unfolding entry_of
entry_says block line [] e z = absurd (omega (arith, z))
entry_says block line (b ∷ []) e z = absurd (omega (arith, z))
entry_says block line (b ∷ a ∷ []) e z =
    let n = accepted block (number_of b) (number_of a) z in
    (record { block_field = b; answer_field = a; fields = e; says_block = n.block_said; says_answer = n.answer_said }, n.good)
entry_says block line (b ∷ a ∷ c ∷ fields) e z = absurd (omega (arith, z))

-- the lines of an accepted text, one after the other
each_says : (block more : ℕ) (lines : List (List ℕ)) → number_from block more lines ≡ 0 → (k : ℕ) → k < more →
    Says (get_or lines k []) (block + k) (get_or (answers_from block lines) k 0)
unfolding number_from answers_from
each_says block zero lines z k h = absurd (omega (arith, h))
each_says block (suc more) [] z k h = absurd (omega (arith, z))
each_says block (suc more) (line ∷ lines) z zero h =
    let (n, _) = or_zero (entry_number (entry_on block line)) (number_from (suc block) more lines) z in
    let e : block + 0 ≡ block = omega arith in
    rw e (entry_says block line (fields_of line) refl n).0
each_says block (suc more) (line ∷ lines) z (suc k) h =
    let (_, later) = or_zero (entry_number (entry_on block line)) (number_from (suc block) more lines) z in
    let e : block + suc k ≡ suc block + k = omega arith in
    rw e (each_says (suc block) more lines later k (omega (arith, h)))

all_good : (block more : ℕ) (lines : List (List ℕ)) → number_from block more lines ≡ 0 → GoodTable (answers_from block lines)
unfolding number_from answers_from
all_good block more [] z k = omega arith
all_good block zero (line ∷ lines) z k = absurd (omega (arith, z))
all_good block (suc more) (line ∷ lines) z zero =
    let (n, _) = or_zero (entry_number (entry_on block line)) (number_from (suc block) more lines) z in
    (entry_says block line (fields_of line) refl n).1
all_good block (suc more) (line ∷ lines) z (suc k) =
    let (_, later) = or_zero (entry_number (entry_on block line)) (number_from (suc block) more lines) z in
    all_good (suc block) more lines later k

answers_length : (block : ℕ) (lines : List (List ℕ)) → length (answers_from block lines) ≡ length lines
unfolding answers_from
answers_length block [] = refl
answers_length block (line ∷ lines) = ap suc (answers_length (suc block) lines)

-- the two ends of a load
load_accepted : (given text : List ℕ) → table_number text ≡ 0 → load_call given text ≡ loaded (table_of text) 0
unfolding load_call
load_accepted given text z = rw z

load_rejected : (given text : List ℕ) → (table_number text ≡ 0 → ⊥) → load_call given text ≡ loaded given (table_number text)
unfolding load_call
load_rejected given text n = rw (ne_eqb (table_number text) 0 n)

pub call_number : (given text : List ℕ) → (load_call given text).number ≡ table_number text
unfolding load_call
call_number given text =
    by_test (λ t. eqb (table_number text) 0 ≡ t → (cond t (loaded (table_of text) 0) (loaded given (table_number text))).number ≡ table_number text) (eqb (table_number text) 0)
    (λ _ e. sym (eqb-true (table_number text) 0 e)) (λ _ _. refl) refl

pub loaded_gives : LoadedGives
unfolding table_number
loaded_gives given text z =
    let zero_number : table_number text ≡ 0 = sym (call_number given text) ∙ z in
    let size = table_length text zero_number in
    rw (load_accepted given text zero_number)
    record {
      blocks = size;
      lines = sym (answers_length 0 (lines_of text)) ∙ size;
      each = λ block h. rw (zero-add block) at (each_says 0 block_count (lines_of text) zero_number block h);
      good = all_good 0 block_count (lines_of text) zero_number;
    }

pub rejected_leaves : RejectedLeaves
rejected_leaves given text n = ap (λ r. r.table) (load_rejected given text (λ z. n (call_number given text ∙ z)))

-- Laws of a line of a table: its two fields, or what is malformed.
use Prim.Native.Nat.{ℕ, suc, ◌+◌, ◌<◌}
use mathlib.Core.Path.{◌≡◌, refl, sym}
use mathlib.Core.List.{List, [], ◌∷◌}
use native.Mathlib.Omega.{arith}
use lib.Dec.{ltb}
use lib.ListN.{length, drop}
use borrow.Author.Tests.{ltb-true, ltb-false}
use Rattle.laws.proofs.Tests.{by_test, same_or}
use Rattle.fields.specs.Fields.{index_of}
use Rattle.std.specs.Prelude.{Option, Some, None, Err}
use Rattle.block_table.specs.declared.TableFault.TheVariants.{WrongLine}
use Rattle.fields.specs.Number.{number_of}
use Rattle.fields.specs.Fields.{tab, fields_of, leading_of}
use Rattle.fields.proofs.Parts.{parts_some, total, parts_total, parts_end, parts_more, index_most}
use Rattle.fields.proofs.Digits.{number_long}
use Rattle.fields.proofs.LeadingNumber.{rest_from, led, unled, tab_no_number}
use Rattle.block_table.specs.Load.{entry_with, entry_of, entry_on}
use Rattle.block_table.specs.Table.{LongRefused}

-- after the first field, the second is all of the rest, or there is a third
last_field : (block n : ℕ) (field l : List ℕ) → number_of field ≡ Some n → entry_of block (field ∷ fields_of l) ≡ entry_with block (Some n) (number_of l)
unfolding entry_of entry_with
last_field block n field l says =
    same_or _ (index_of tab l) (length l)
    (λ last. rw (parts_end tab l last, says))
    (λ more.
    let less : index_of tab l < length l = omega (arith, index_most tab l) in
    let none : number_of l ≡ None = tab_no_number _ _ l less in
    let (part, parts, e) = parts_some tab (drop (suc (index_of tab l)) l) in
    rw (parts_more tab l less, e, none))

pub entry_led : (block : ℕ) (l : List ℕ) (n next : ℕ) → Some (n, next) ≡ leading_of l → entry_on block l ≡ entry_with block (Some n) (number_of (rest_from next l))
entry_led block l n next e = let f = led l n next (sym e) in rw f.first (last_field block n f.field (rest_from next l) f.says)

-- a first field that is no number
other_field : (block : ℕ) (field : List ℕ) (fields : List (List ℕ)) → number_of field ≡ None → entry_of block (field ∷ fields) ≡ Err WrongLine
unfolding entry_of entry_with
other_field block field [] e = refl
other_field block field (a ∷ []) e = rw e
other_field block field (a ∷ b ∷ fields) e = refl

pub entry_unled : (block : ℕ) (l : List ℕ) → None ≡ leading_of l → entry_on block l ≡ Err WrongLine
unfolding entry_of
entry_unled block l e = unled l (λ fields. entry_of block fields ≡ Err WrongLine) (λ field. refl) (other_field block) (sym e)

no_answer : (block : ℕ) (b a : Option ℕ) → a ≡ None → entry_with block b a ≡ Err WrongLine
unfolding entry_with
no_answer block (Some b) a e = rw e
no_answer block None a e = refl

-- two fields of which one has more than ten bytes
long_field : (block : ℕ) (b a : List ℕ) → 20 < length b + length a → entry_with block (number_of b) (number_of a) ≡ Err WrongLine
unfolding entry_with
long_field block b a h =
    by_test (λ t. ltb 10 (length b) ≡ t → entry_with block (number_of b) (number_of a) ≡ Err WrongLine) (ltb 10 (length b))
    (λ _ e. rw (← number_long 10 4294967295 b (ltb-true 10 (length b) e)))
    (λ _ e.
    let long : 10 < length a = omega (arith, ltb-false 10 (length b) e) in
    no_answer block (number_of b) (number_of a) (sym (number_long 10 4294967295 a long)))
    refl

long_fields : (block : ℕ) (fields : List (List ℕ)) → 80 < total fields → entry_of block fields ≡ Err WrongLine
unfolding entry_of
long_fields block [] h = refl
long_fields block (b ∷ []) h = refl
long_fields block (b ∷ a ∷ []) h = long_field block b a (omega (arith, h))
long_fields block (b ∷ a ∷ c ∷ fields) h = refl

pub long_refused : LongRefused
long_refused block line h = long_fields block (fields_of line) (omega (arith, parts_total tab line))

-- Where an external write's pairs begin lies within its line, and the line is short.
use Prim.Native.Nat.{ℕ, suc, ◌+◌, ◌≤◌}
use mathlib.Core.Path.{◌≡◌, refl}
use mathlib.Core.Bool.{Bool, true, false, cond}
use mathlib.Core.List.{List, [], ◌∷◌}
use native.Mathlib.Omega.{arith}
use lib.Dec.{eqb, ltb}
use lib.ListN.{length}
use borrow.Author.Tests.{ltb-false}
use Rattle.laws.proofs.Tests.{by_test}
use Rattle.std.specs.Prelude.{Option, Some, None}
use Rattle.fields.specs.Fields.{tab, fields_of, is_pairs}
use Rattle.fields.proofs.Parts.{total, parts_total}
use Rattle.lines.specs.declared.Event.{Event}
use Rattle.lines.specs.declared.Event.TheVariants.{Read, Write, External, Snoop, Flush, Control, Reset}
use Rattle.lines.specs.Scan.{with, of_none, of_one, of_two, of_three, access_of, read_with, read_of, write_with, write_of, external_of, snoop_of, control_of, form_of, event_of, scanned}

-- true of every event but an external write whose pairs begin past so many bytes, and of none
abbrev Within : ℕ → Option Event → Type 0
Within n None = Unit {0}
Within n (Some (External address from)) = from ≤ n
Within n (Some (Read address width pcd)) = Unit {0}
Within n (Some (Write address width value)) = Unit {0}
Within n (Some (Snoop address)) = Unit {0}
Within n (Some Flush) = Unit {0}
Within n (Some (Control cd nw)) = Unit {0}
Within n (Some Reset) = Unit {0}

by_cond : (n : ℕ) (b : Bool) (x y : Option Event) → Within n x → Within n y → Within n (cond b x y)
by_cond n true x y h j = h
by_cond n false x y h j = j

by_with : {A : Type 0} (n : ℕ) (said : Option A) (event : A → Option Event) → ((m : A) → Within n (event m)) → Within n (with said event)
unfolding with
by_with n (Some m) event h = h m
by_with n None event h = tt

by_none : (n : ℕ) (event : Option Event) (fields : List (List ℕ)) → Within n event → Within n (of_none event fields)
unfolding of_none
by_none n event [] h = h
by_none n event (a ∷ rest) h = tt

by_one : (n : ℕ) (event : List ℕ → Option Event) (fields : List (List ℕ)) → ((a : List ℕ) → Within n (event a)) → Within n (of_one event fields)
unfolding of_one
by_one n event [] h = tt
by_one n event (a ∷ rest) h = by_none n (event a) rest (h a)

by_two : (n : ℕ) (event : List ℕ → List ℕ → Option Event) (fields : List (List ℕ)) → ((a b : List ℕ) → Within n (event a b)) → Within n (of_two event fields)
unfolding of_two
by_two n event [] h = tt
by_two n event (a ∷ rest) h = by_one n (event a) rest (h a)

by_three : (n : ℕ) (event : List ℕ → List ℕ → List ℕ → Option Event) (fields : List (List ℕ)) → ((a b c : List ℕ) → Within n (event a b c)) → Within n (of_three event fields)
unfolding of_three
by_three n event [] h = tt
by_three n event (a ∷ rest) h = by_two n (event a) rest (h a)

read_within : (n : ℕ) (a w p : List ℕ) → Within n (read_of a w p)
unfolding read_of read_with access_of
read_within n a w p = by_with n _ _ (λ address. by_with n _ _ (λ width. by_with n _ _ (λ pcd. tt)))

write_within : (n : ℕ) (a w v : List ℕ) → Within n (write_of a w v)
unfolding write_of write_with access_of
write_within n a w v = by_with n _ _ (λ address. by_with n _ _ (λ width. by_with n _ _ (λ value. tt)))

snoop_within : (n : ℕ) (a : List ℕ) → Within n (snoop_of a)
unfolding snoop_of
snoop_within n a = by_with n _ _ (λ address. tt)

control_within : (n : ℕ) (c w : List ℕ) → Within n (control_of c w)
unfolding control_of
control_within n c w = by_with n _ _ (λ cd. by_with n _ _ (λ nw. tt))

external_within : (n : ℕ) (fields : List (List ℕ)) → 2 + total fields ≤ suc n → Within n (of_two external_of fields)
unfolding of_two of_one of_none external_of
external_within n [] h = tt
external_within n (a ∷ []) h = tt
external_within n (a ∷ b ∷ []) h = by_with n _ _ (λ address. by_cond n (is_pairs b) _ _ (omega (arith, h)) tt)
external_within n (a ∷ b ∷ c ∷ rest) h = tt

form_within : (n : ℕ) (letter : ℕ) (fields : List (List ℕ)) → 2 + total fields ≤ suc n → Within n (form_of letter fields)
unfolding form_of
form_within n letter fields h =
    by_cond n (eqb letter 82) _ _ (by_three n read_of fields (read_within n))
    (by_cond n (eqb letter 87) _ _ (by_three n write_of fields (write_within n))
    (by_cond n (eqb letter 88) _ _ (external_within n fields h)
    (by_cond n (eqb letter 83) _ _ (by_one n snoop_of fields (snoop_within n))
    (by_cond n (eqb letter 70) _ _ (by_none n (Some Flush) fields tt)
    (by_cond n (eqb letter 67) _ _ (by_two n control_of fields (control_within n))
    (by_cond n (eqb letter 90) _ _ (by_none n (Some Reset) fields tt) tt))))))

event_within : (n : ℕ) (fields : List (List ℕ)) → total fields ≤ suc n → Within n (event_of fields)
unfolding event_of
event_within n [] h = tt
event_within n ([] ∷ fields) h = tt
event_within n ((letter ∷ []) ∷ fields) h = form_within n letter fields (omega (arith, h))
event_within n ((c ∷ d ∷ cs) ∷ fields) h = tt

-- the two facts of an external write's line
pub external_line : (line : List ℕ) (address from : ℕ) → scanned line ≡ Some (External address from) → (from ≤ length line) × (length line ≤ 80)
unfolding scanned
external_line line address from e =
    by_test (λ b. ltb 80 (length line) ≡ b → cond b None (event_of (fields_of line)) ≡ Some (External address from) → (from ≤ length line) × (length line ≤ 80))
    (ltb 80 (length line))
    (λ _ _ f. let z : ◌≡◌ {A = ℕ} 0 1 = cc in absurd (omega arith))
    (λ _ short f. (rw f at (event_within (length line) (fields_of line) (omega (arith, parts_total tab line))), ltb-false 80 (length line) short))
    refl
    e

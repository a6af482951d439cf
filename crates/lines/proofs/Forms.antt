-- Laws of a line's fields: how many there are, and what a line of them asks for.
use Prim.Native.Nat.{ℕ, suc, ◌+◌, ◌-◌, ◌≤◌, ◌<◌}
use mathlib.Core.Path.{◌≡◌, refl, sym, ◌∙◌}
use mathlib.Core.Bool.{Bool, true, false, cond}
use mathlib.Core.List.{List, [], ◌∷◌}
use native.Mathlib.Omega.{arith}
use native.Mathlib.Numerals.{add-one}
use lib.Dec.{eqb}
use lib.ListN.{length, take, drop, get_or}
use borrow.Author.Tests.{eqb-true, le-ltb, lt-ltb, eq-eqb, ne_eqb}
use Rattle.laws.proofs.Tests.{by_test, same_or}
use Rattle.fields.specs.Fields.{index_of}
use Rattle.std.specs.Prelude.{Option, Some, None}
use Rattle.std.specs.List.{position}
use Rattle.std.specs.Bool.{then_some}
use Rattle.fields.specs.Fields.{tab, fields_of, parts_of, in_front, is_pairs, leading_of}
use Rattle.fields.specs.Number.{number_of, value_field_of, bit_of}
use Rattle.fields.proofs.Parts.{drop_part, parts_some, parts_end, parts_more, index_most, place_none, place_some}
use Rattle.fields.proofs.LeadingNumber.{Led, rest_from, led, unled, tab_no_number, tab_no_bit, tab_no_pairs}
use Rattle.lines.specs.declared.Event.{Event}
use Rattle.lines.specs.declared.Event.TheVariants.{Read, Write, External, Snoop}
use Rattle.lines.specs.Scan.{with, of_none, of_one, of_two, of_three, access_of, read_with, read_of, write_with, write_of, external_of, snoop_of, control_of, event_of, form_of, scanned}

-- a line with fields where none belongs
none_some : (event : Option Event) (l : List ℕ) → of_none event (fields_of l) ≡ None
unfolding of_none
none_some event l = let (part, parts, e) = parts_some tab l in rw e

-- the rest of a text after the place e, as a part of it up to its end
abbrev pub rest_after : ℕ → List ℕ → List ℕ
rest_after e l = take (length l - (e + 1)) (drop (e + 1) l)

rest_drop : (e : ℕ) (l : List ℕ) → rest_after e l ≡ drop (suc e) l
rest_drop e l = rw (add-one e) (drop_part (suc e) l)

-- In these laws e is the place of the first tab, or the text's length.
module _ (l : List ℕ) (e : ℕ) (place : e ≡ index_of tab l) where
  -- one field: all of the rest, without a tab
  one_end : (event : List ℕ → Option Event) → e ≡ length l → of_one event (fields_of l) ≡ event l
  unfolding of_one of_none
  one_end event last = rw (parts_end tab l (sym place ∙ last))

  first_more : e < length l → fields_of l ≡ take e l ∷ fields_of (rest_after e l)
  first_more more = rw (rest_drop e l, place) (parts_more tab l (omega (arith, place)))

  one_more : (event : List ℕ → Option Event) → e < length l → of_one event (fields_of l) ≡ None
  unfolding of_one
  one_more event more = rw (first_more more) (none_some _ _)

-- two: none without a tab, else up to the first one and after it
pub two_end : (event : List ℕ → List ℕ → Option Event) (l : List ℕ) → None ≡ position (λ c. eqb c tab) l → of_two event (fields_of l) ≡ None
unfolding of_two of_one
two_end event l none = rw (parts_end tab l (place_none tab l none))

two_more : (event : List ℕ → List ℕ → Option Event) (l : List ℕ) (e : ℕ) → Some e ≡ position (λ c. eqb c tab) l → of_two event (fields_of l) ≡ of_one (event (take e l)) (fields_of (rest_after e l))
unfolding of_two
two_more event l e found = let (place, more) = place_some tab l e found in rw (first_more l e place more)

-- one field: a text that has a tab in it is malformed as one
pub one_field : (event : List ℕ → Option Event) (l : List ℕ) → (index_of tab l < length l → event l ≡ None) → of_one event (fields_of l) ≡ event l
one_field event l bad =
    let most = index_most tab l in
    same_or _ (index_of tab l) (length l)
    (one_end l (index_of tab l) refl event)
    (λ more. one_more l (index_of tab l) refl event (omega arith) ∙ sym (bad (omega arith)))

-- a first field that is a number, and the fields after it
module _ {l : List ℕ} {n next : ℕ} (f : Led l n next) where
  pub two_led : (event : List ℕ → List ℕ → Option Event) → of_two event (fields_of l) ≡ of_one (event f.field) (fields_of (rest_from next l))
  unfolding of_two
  two_led event = rw f.first

  pub three_led : (event : List ℕ → List ℕ → List ℕ → Option Event) → of_three event (fields_of l) ≡ of_two (event f.field) (fields_of (rest_from next l))
  unfolding of_three
  three_led event = rw f.first

-- a line that is malformed whatever its last fields say
one_bad : (event : List ℕ → Option Event) (fields : List (List ℕ)) → ((a : List ℕ) → event a ≡ None) → of_one event fields ≡ None
unfolding of_one of_none
one_bad event [] bad = refl
one_bad event (a ∷ []) bad = bad a
one_bad event (a ∷ b ∷ rest) bad = refl

two_bad : (event : List ℕ → List ℕ → Option Event) (fields : List (List ℕ)) → ((a b : List ℕ) → event a b ≡ None) → of_two event fields ≡ None
unfolding of_two
two_bad event [] bad = refl
two_bad event (a ∷ rest) bad = one_bad (event a) rest (bad a)

-- a first field that is no number, or the only one
pub two_unled : (event : List ℕ → List ℕ → Option Event) (l : List ℕ) → ((a b : List ℕ) → number_of a ≡ None → event a b ≡ None) → leading_of l ≡ None → of_two event (fields_of l) ≡ None
unfolding of_two of_one
two_unled event l bad = unled l (λ fields. of_two event fields ≡ None) (λ a. refl) (λ a rest n. one_bad (event a) rest (λ b. bad a b n))

pub three_unled : (event : List ℕ → List ℕ → List ℕ → Option Event) (l : List ℕ) → ((a b c : List ℕ) → number_of a ≡ None → event a b c ≡ None) → leading_of l ≡ None → of_three event (fields_of l) ≡ None
unfolding of_three of_two
three_unled event l bad = unled l (λ fields. of_three event fields ≡ None) (λ a. refl) (λ a rest n. two_bad (event a) rest (λ b c. bad a b c n))

-- an access whose address or width is no number, and one whose third field is left
access_first : (last : ℕ → ℕ → List ℕ → Option Event) (a w x : List ℕ) → number_of a ≡ None → access_of last a w x ≡ None
unfolding access_of with
access_first last a w x e = rw e

access_second : (last : ℕ → ℕ → List ℕ → Option Event) (a w x : List ℕ) (n : ℕ) → number_of a ≡ Some n → number_of w ≡ None → access_of last a w x ≡ None
unfolding access_of with
access_second last a w x n e f = rw (e, f)

one_same : (event other : List ℕ → Option Event) (fields : List (List ℕ)) → ((x : List ℕ) → event x ≡ other x) → of_one event fields ≡ of_one other fields
unfolding of_one
one_same event other [] same = refl
one_same event other (x ∷ rest) same = rw (same x)

access_third : (last : ℕ → ℕ → List ℕ → Option Event) (a w : List ℕ) (n m : ℕ) (fields : List (List ℕ)) → number_of a ≡ Some n → number_of w ≡ Some m → of_one (access_of last a w) fields ≡ of_one (last n m) fields
unfolding access_of with
access_third last a w n m fields e f = one_same (access_of last a w) (last n m) fields (λ x. rw (e, f))

pub access_unled : (last : ℕ → ℕ → List ℕ → Option Event) (l : List ℕ) → None ≡ leading_of l → of_three (access_of last) (fields_of l) ≡ None
access_unled last l e = three_unled (access_of last) l (access_first last) (sym e)

pub access_half : (last : ℕ → ℕ → List ℕ → Option Event) (l : List ℕ) (n next : ℕ) → Some (n, next) ≡ leading_of l → None ≡ leading_of (rest_from next l) → of_three (access_of last) (fields_of l) ≡ None
access_half last l n next e f =
    let address = led l n next (sym e) in
    three_led address (access_of last) ∙ two_unled (access_of last address.field) (rest_from next l) (λ w x. access_second last address.field w x n address.says) (sym f)

pub access_led : (last : ℕ → ℕ → List ℕ → Option Event) (l : List ℕ) (n next m later : ℕ) → Some (n, next) ≡ leading_of l → Some (m, later) ≡ leading_of (rest_from next l) →
    of_three (access_of last) (fields_of l) ≡ of_one (last n m) (fields_of (rest_from later (rest_from next l)))
access_led last l n next m later e f =
    let address = led l n next (sym e) in
    let width = led (rest_from next l) m later (sym f) in
    three_led address (access_of last) ∙ two_led width (access_of last address.field) ∙
    access_third last address.field width.field n m (fields_of (rest_from later (rest_from next l))) address.says width.says

-- a first field with no second is malformed, whatever it says
no_second : {A : Type 0} (said : Option A) → with said (λ _. None) ≡ None
unfolding with
no_second (Some a) = refl
no_second None = refl

-- the last field of each form
pub last_pcd : (n m : ℕ) (x : List ℕ) → of_one (read_with n m) (fields_of x) ≡ with (bit_of x) (λ pcd. Some (Read n m pcd))
unfolding read_with with
last_pcd n m x = one_field (read_with n m) x (λ t. rw (tab_no_bit x t))

pub last_value : (n m : ℕ) (x : List ℕ) → of_one (write_with n m) (fields_of x) ≡ with (value_field_of x) (λ value. Some (Write n m value))
unfolding write_with with
last_value n m x = one_field (write_with n m) x (λ t. let none : value_field_of x ≡ None = tab_no_number _ _ x t in rw none)

-- a read and a write whose address and width are numbers
module _ (a w x : List ℕ) (n m : ℕ) (e : number_of a ≡ Some n) (f : number_of w ≡ Some m) where
  pub read_last : of_one (read_of a w) (fields_of x) ≡ with (bit_of x) (λ pcd. Some (Read n m pcd))
  unfolding read_of
  read_last = access_third read_with a w n m (fields_of x) e f ∙ last_pcd n m x

  pub write_last : of_one (write_of a w) (fields_of x) ≡ with (value_field_of x) (λ value. Some (Write n m value))
  unfolding write_of
  write_last = access_third write_with a w n m (fields_of x) e f ∙ last_value n m x

external_first : (a pairs : List ℕ) → number_of a ≡ None → external_of a pairs ≡ None
unfolding external_of with
external_first a pairs e = rw e

pub external_unled : (l : List ℕ) → None ≡ leading_of l → of_two external_of (fields_of l) ≡ None
external_unled l e = two_unled external_of l external_first (sym e)

some_then : {A : Type 0} (b : Bool) (x : A) → cond b (Some x) None ≡ then_some b x
some_then true x = refl
some_then false x = refl

external_last : (a pairs : List ℕ) (n : ℕ) → number_of a ≡ Some n → of_one (external_of a) (fields_of pairs) ≡ then_some (is_pairs pairs) (External n (length a + 3))
unfolding external_of with
external_last a pairs n e = one_field (external_of a) pairs (λ t. rw (e, tab_no_pairs pairs t)) ∙ rw e (some_then _ _)

pub external_led : (l : List ℕ) (n next : ℕ) → Some (n, next) ≡ leading_of l → of_two external_of (fields_of l) ≡ then_some (is_pairs (rest_from next l)) (External n (next + 2))
external_led l n next e =
    let address = led l n next (sym e) in
    let place : next + 2 ≡ length address.field + 3 = omega (arith, address.size) in
    rw place (two_led address external_of ∙ external_last address.field (rest_from next l) n address.says)

pub snoop_last : (l : List ℕ) → of_one snoop_of (fields_of l) ≡ with (number_of l) (λ address. Some (Snoop address))
unfolding snoop_of with
snoop_last l = one_field snoop_of l (λ t. let none : number_of l ≡ None = tab_no_number _ _ l t in rw none)

-- a second field that is a bit stands alone
control_last : (c n : List ℕ) → of_one (control_of c) (fields_of n) ≡ control_of c n
unfolding control_of with
control_last c n = one_field (control_of c) n (λ t. rw (tab_no_bit n t) (no_second (bit_of c)))

pub control_more : (l : List ℕ) (e : ℕ) → Some e ≡ position (λ c. eqb c tab) l → of_two control_of (fields_of l) ≡ control_of (take e l) (rest_after e l)
control_more l e found = two_more control_of l e found ∙ control_last (take e l) (rest_after e l)

-- the same choice both ways
same : {A : Type 0} (b : Bool) (x : A) → cond b x x ≡ x
same true x = refl
same false x = refl

-- a letter that stands alone, or before fields, and is none of those that may
pub alone_other : (letter : ℕ) → (letter ≡ 70 → ⊥) → (letter ≡ 90 → ⊥) → None ≡ form_of letter []
unfolding form_of of_none of_one of_two of_three
alone_other letter f z = simp (ne_eqb letter 70 f, ne_eqb letter 90 z, same)

pub fields_other : (letter : ℕ) (l : List ℕ) → (letter ≡ 82 → ⊥) → (letter ≡ 87 → ⊥) → (letter ≡ 88 → ⊥) → (letter ≡ 83 → ⊥) → (letter ≡ 67 → ⊥) → None ≡ form_of letter (fields_of l)
unfolding form_of
fields_other letter l r w x s c =
    simp (ne_eqb letter 82 r, ne_eqb letter 87 w, ne_eqb letter 88 x, ne_eqb letter 83 s, ne_eqb letter 67 c, none_some, same)

-- a line by its first two bytes; a tab is no letter
no_bytes : (l : List ℕ) → length l ≡ 0 → event_of (fields_of l) ≡ None
unfolding event_of parts_of
no_bytes [] h = refl
no_bytes (c ∷ cs) h = absurd (omega (arith, h))

tab_form : (c : ℕ) (fields : List (List ℕ)) → eqb c tab ≡ true → form_of c fields ≡ None
unfolding form_of
tab_form c fields e = rw (eqb-true c tab e)

letter_alone : (l : List ℕ) → length l ≡ 1 → event_of (fields_of l) ≡ form_of (get_or l 0 0) []
unfolding event_of parts_of in_front
letter_alone [] h = absurd (omega (arith, h))
letter_alone (c ∷ []) h =
    by_test (λ b. eqb c tab ≡ b → event_of (cond b ([] ∷ [] ∷ []) ((c ∷ []) ∷ [])) ≡ form_of c []) (eqb c tab)
    (λ _ e. sym (tab_form c [] e)) (λ _ _. refl) refl
letter_alone (c ∷ d ∷ cs) h = absurd (omega (arith, h))

no_letter : (l : List ℕ) → 2 ≤ length l → (get_or l 1 0 ≡ tab → ⊥) → event_of (fields_of l) ≡ None
unfolding event_of parts_of in_front
no_letter [] h n = absurd (omega (arith, h))
no_letter (c ∷ []) h n = absurd (omega (arith, h))
no_letter (c ∷ d ∷ cs) h n =
    let (part, parts, e) = parts_some tab cs in
    rw (ne_eqb d tab n, e) (by_test (λ b. event_of (cond b ([] ∷ (d ∷ part) ∷ parts) ((c ∷ d ∷ part) ∷ parts)) ≡ None) (eqb c tab) (λ _. refl) (λ _. refl))

letter_first : (l : List ℕ) → 2 ≤ length l → get_or l 1 0 ≡ tab → event_of (fields_of l) ≡ form_of (get_or l 0 0) (fields_of (drop 2 l))
unfolding event_of parts_of in_front
letter_first [] h e = absurd (omega (arith, h))
letter_first (c ∷ []) h e = absurd (omega (arith, h))
letter_first (c ∷ d ∷ cs) h e =
    rw (eq-eqb d tab e) (by_test (λ b. eqb c tab ≡ b → event_of (cond b ([] ∷ [] ∷ parts_of tab cs) ((c ∷ []) ∷ parts_of tab cs)) ≡ form_of c (parts_of tab cs)) (eqb c tab)
    (λ _ t. sym (tab_form c (parts_of tab cs) t)) (λ _ _. refl) refl)

pub scan_long : (line : List ℕ) → 80 < length line → None ≡ scanned line
unfolding scanned
scan_long line h = rw (lt-ltb 80 (length line) h)

module _ (line : List ℕ) (short : length line ≤ 80) where
  fits : scanned line ≡ event_of (fields_of line)
  unfolding scanned
  fits = rw (le-ltb 80 (length line) short)

  pub scan_empty : length line ≡ 0 → None ≡ scanned line
  scan_empty e = sym (fits ∙ no_bytes line e)

  pub scan_alone : length line ≡ 1 → scanned line ≡ form_of (get_or line 0 0) []
  scan_alone e = fits ∙ letter_alone line e

  pub scan_no_letter : 2 ≤ length line → (get_or line 1 0 ≡ tab → ⊥) → None ≡ scanned line
  scan_no_letter h n = sym (fits ∙ no_letter line h n)

  pub scan_fields : 2 ≤ length line → get_or line 1 0 ≡ tab → scanned line ≡ form_of (get_or line 0 0) (fields_of (rest_from 2 line))
  scan_fields h e = fits ∙ rw (drop_part 2 line) (letter_first line h e)

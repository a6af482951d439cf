-- Laws of the number before the first tab of a text: what its scanning finds.
use Prim.Native.Nat.{ℕ, zero, suc, ◌+◌, ◌-◌, ◌≤◌, ◌<◌}
use mathlib.Core.Path.{◌≡◌, refl, sym, ap, ◌∙◌}
use mathlib.Core.Bool.{Bool, false, cond, and-false}
use mathlib.Core.List.{List, [], ◌∷◌}
use native.Mathlib.Omega.{arith}
use lib.Dec.{eqb, ltb}
use lib.ListN.{length, take, drop, get_or, length-take}
use lib.Seq.{length-take-le}
use borrow.Author.Tests.{eqb-true, ltb-true, ltb-false, lt-ltb}
use Rattle.laws.proofs.Tests.{by_test}
use Rattle.std.specs.Prelude.{Option, Some, None}
use Rattle.std.specs.List.{list_all, position}
use Rattle.std.specs.Option.{option_and_then}
use Rattle.std.proofs.lemmas.List.Folds.{list_all_at}
use Rattle.fields.specs.Number.{is_digit, number_of, number_within, bit_of}
use Rattle.fields.specs.Fields.{index_of, tab, fields_of, is_hex, is_pairs, leading_with, leading_of}
use Rattle.fields.proofs.Parts.{drop_part, parts_end, parts_more, index_most, index_step, found_index, place_none, place_some}
use Rattle.fields.proofs.Digits.{number_other, number_long}

-- a search for the tab and what stands before it
lead_by : (l : List ℕ) (end : Option ℕ) → end ≡ position (λ c. eqb c tab) l → leading_of l ≡ option_and_then (λ e. leading_with (number_of (take e l)) (e + 1)) end
unfolding leading_of
lead_by l end e = rw (e, found_index tab l) (by_test (λ t. cond t (leading_with (number_of (take (index_of tab l) l)) (index_of tab l + 1)) None ≡ option_and_then (λ e. leading_with (number_of (take e l)) (e + 1)) (cond t (Some (index_of tab l)) None)) (ltb (index_of tab l) (length l)) (λ _. refl) (λ _. refl))

-- The tab after a number is among the first eleven bytes of a text: a tab found there is its first, and with none there no number leads.
index_first : (n : ℕ) (l : List ℕ) → index_of tab (take n l) < length (take n l) → index_of tab l ≡ index_of tab (take n l)
index_first zero l h = absurd (omega (arith, h))
index_first (suc n) [] h = absurd (omega (arith, h))
index_first (suc n) (c ∷ cs) h =
    rw (index_step tab c cs, index_step tab c (take n cs))
    (by_test (λ b. cond b 0 (suc (index_of tab (take n cs))) < suc (length (take n cs)) → cond b 0 (suc (index_of tab cs)) ≡ cond b 0 (suc (index_of tab (take n cs))))
    (eqb c tab)
    (λ _ _. refl)
    (λ _ i. ap suc (index_first n cs (omega (arith, i))))
    (rw (index_step tab c (take n cs)) at h))

index_later : (n : ℕ) (l : List ℕ) → index_of tab (take n l) ≡ length (take n l) → length (take n l) ≤ index_of tab l
index_later zero l e = omega arith
index_later (suc n) [] e = omega arith
index_later (suc n) (c ∷ cs) e =
    rw (index_step tab c cs)
    (by_test (λ b. cond b 0 (suc (index_of tab (take n cs))) ≡ suc (length (take n cs)) → suc (length (take n cs)) ≤ cond b 0 (suc (index_of tab cs)))
    (eqb c tab)
    (λ _ f. omega (arith, f))
    (λ _ f. omega (arith, index_later n cs (omega (arith, f))))
    (rw (index_step tab c (take n cs)) at e))

pub first_tab : (n : ℕ) (l : List ℕ) (end : ℕ) → Some end ≡ position (λ c. eqb c tab) (take n l) → Some end ≡ position (λ c. eqb c tab) l
first_tab n l end found =
    let (place, more) = place_some tab (take n l) end found in
    let same : index_of tab l ≡ end = index_first n l (omega (arith, place, more)) ∙ sym place in
    let inside : index_of tab l < length l = omega (arith, same, more, length-take n l) in
    sym (found_index tab l ∙ rw (lt-ltb (index_of tab l) (length l) inside, same))

pub lead_none : (n : ℕ) (l : List ℕ) → (n < length l → 10 < n) → None ≡ position (λ c. eqb c tab) (take n l) → None ≡ leading_of l
unfolding leading_of leading_with
lead_none n l ten none =
    let later : length (take n l) ≤ index_of tab l = index_later n l (place_none tab (take n l) none) in
    by_test (λ b. ltb (index_of tab l) (length l) ≡ b → None ≡ cond b (leading_with (number_of (take (index_of tab l) l)) (index_of tab l + 1)) None)
    (ltb (index_of tab l) (length l))
    (λ _ i.
    let inside : index_of tab l < length l = ltb-true (index_of tab l) (length l) i in
    let part : n < length l = omega (arith, later, inside, length-take n l) in
    let size : length (take (index_of tab l) l) ≡ index_of tab l = length-take-le (index_of tab l) l (omega (arith, inside)) in
    let long : 10 < length (take (index_of tab l) l) = omega (arith, size, later, part, ten part, length-take n l) in
    rw (← number_long 10 4294967295 (take (index_of tab l) l) long))
    (λ _ _. refl)
    refl

module _ (l : List ℕ) (end : ℕ) (found : Some end ≡ position (λ c. eqb c tab) l) where
  pub lead_other : None ≡ number_of (take end l) → None ≡ leading_of l
  unfolding leading_with
  lead_other e = sym (lead_by l (Some end) found ∙ rw (← e))

  pub lead_field : (n : ℕ) → Some n ≡ number_of (take end l) → Some (n, end + 1) ≡ leading_of l
  unfolding leading_with
  lead_field n e = sym (lead_by l (Some end) found ∙ rw (← e))

-- What a leading number tells: the first field says it, and the other fields are those of the rest after its tab.
abbrev pub rest_from : ℕ → List ℕ → List ℕ
rest_from next l = take (length l - next) (drop next l)

pub record Led (l : List ℕ) (n next : ℕ) : Type 0 where
  pub field : List ℕ
  pub first : fields_of l ≡ field ∷ fields_of (rest_from next l)
  pub says : number_of field ≡ Some n
  pub size : length field + 1 ≡ next
  pub inside : next ≤ length l

with_field : (m : Option ℕ) (e n next : ℕ) → leading_with m e ≡ Some (n, next) → (m ≡ Some n) × (e ≡ next)
unfolding leading_with
with_field (Some v) e n next f =
    let pair : ◌≡◌ {A = ℕ × ℕ} (v, e) (n, next) = cc in
    (ap (λ (p : ℕ × ℕ). Some p.0) pair, ap (λ (p : ℕ × ℕ). p.1) pair)
with_field None e n next f = let z : ◌≡◌ {A = ℕ} 0 1 = cc in absurd (omega arith)

with_nothing : (m : Option ℕ) (e : ℕ) → leading_with m e ≡ None → m ≡ None
unfolding leading_with
with_nothing (Some v) e f = let z : ◌≡◌ {A = ℕ} 0 1 = cc in absurd (omega arith)
with_nothing None e f = refl

module _ (l : List ℕ) where
  led_inside : (n next : ℕ) → index_of tab l < length l → leading_with (number_of (take (index_of tab l) l)) (index_of tab l + 1) ≡ Some (n, next) → Led l n next
  led_inside n next m f =
      let (says, place) = with_field (number_of (take (index_of tab l) l)) (index_of tab l + 1) n next f in
      let next-is : next ≡ suc (index_of tab l) = omega (arith, place) in
      record {
        field = take (index_of tab l) l;
        first = rw (drop_part next l, next-is) (parts_more tab l m);
        says = says;
        size = rw (length-take-le (index_of tab l) l (omega arith)) place;
        inside = omega (arith, next-is);
      }

  pub led : (n next : ℕ) → leading_of l ≡ Some (n, next) → Led l n next
  unfolding leading_of
  led n next f =
      by_test (λ b. ltb (index_of tab l) (length l) ≡ b → cond b (leading_with (number_of (take (index_of tab l) l)) (index_of tab l + 1)) None ≡ Some (n, next) → Led l n next)
      (ltb (index_of tab l) (length l))
      (λ _ i g. led_inside n next (ltb-true (index_of tab l) (length l) i) g)
      (λ _ _ g. let z : ◌≡◌ {A = ℕ} 0 1 = cc in absurd (omega arith))
      refl f

  -- Where there is none, there is one field, or the first is no number.
  pub unled : (P : List (List ℕ) → Type 0) → ((field : List ℕ) → P (field ∷ [])) → ((field : List ℕ) (fields : List (List ℕ)) → number_of field ≡ None → P (field ∷ fields)) →
      leading_of l ≡ None → P (fields_of l)
  unfolding leading_of
  unled P one other f =
      by_test (λ b. ltb (index_of tab l) (length l) ≡ b → cond b (leading_with (number_of (take (index_of tab l) l)) (index_of tab l + 1)) None ≡ None → P (fields_of l))
      (ltb (index_of tab l) (length l))
      (λ _ i g. rw (parts_more tab l (ltb-true (index_of tab l) (length l) i)) (other _ _ (with_nothing (number_of (take (index_of tab l) l)) (index_of tab l + 1) g)))
      (λ _ i _. rw (parts_end tab l (omega (arith, index_most tab l, ltb-false (index_of tab l) (length l) i))) (one l))
      refl f

-- A text with a tab in it is no number, no bit and no pairs.
tab_at : (l : List ℕ) → index_of tab l < length l → get_or l (index_of tab l) 0 ≡ tab
tab_at [] h = absurd (omega (arith, h))
tab_at (c ∷ cs) h =
    rw (index_step tab c cs)
    (by_test (λ b. eqb c tab ≡ b → cond b 0 (suc (index_of tab cs)) < suc (length cs) → get_or (c ∷ cs) (cond b 0 (suc (index_of tab cs))) 0 ≡ tab) (eqb c tab)
    (λ _ e _. eqb-true c tab e)
    (λ _ _ i. tab_at cs (omega (arith, i)))
    refl (rw (index_step tab c cs) at h))

tab_not_all : (test : ℕ → Bool) (l : List ℕ) → test tab ≡ false → index_of tab l < length l → list_all test l ≡ false
tab_not_all test l f h = list_all_at test l (index_of tab l) 0 h (rw (tab_at l h) f)

pub tab_no_number : (digits limit : ℕ) (l : List ℕ) → index_of tab l < length l → number_within digits limit l ≡ None
tab_no_number digits limit l h = sym (number_other digits limit l (tab_not_all is_digit l refl h))

pub tab_no_pairs : (l : List ℕ) → index_of tab l < length l → is_pairs l ≡ false
unfolding is_pairs
tab_no_pairs l h = rw (tab_not_all is_hex l refl h, and-false)

pub tab_no_bit : (l : List ℕ) → index_of tab l < length l → bit_of l ≡ None
unfolding bit_of
tab_no_bit [] h = refl
tab_no_bit (c ∷ []) h =
    by_test (λ b. eqb c tab ≡ b → cond b 0 (suc (index_of tab [])) < 1 → bit_of (c ∷ []) ≡ None) (eqb c tab)
    (λ _ e _. rw (eqb-true c tab e))
    (λ _ _ i. absurd (omega (arith, i)))
    refl (rw (index_step tab c []) at h)
tab_no_bit (c ∷ d ∷ cs) h = refl

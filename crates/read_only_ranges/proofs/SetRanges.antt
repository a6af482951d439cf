-- The setting call by its number, and the ranges that it leaves.
use Prim.Native.Nat.{ℕ, ◌+◌, ◌*◌, ◌/◌, ◌%◌, ◌≤◌, min}
use mathlib.Core.Path.{◌≡◌, refl, sym, ◌∙◌, ap}
use mathlib.Core.Bool.{Bool, true, false, false≢true}
use mathlib.Core.List.{List, [], ◌∷◌}
use mathlib.Core.Logic.{◌⊎◌, inl, inr}
use native.Mathlib.Omega.{arith}
use lib.Dec.{ltb}
use lib.ListN.{length, replicate}
use lib.Seq.{sets, sets-eq, take-append_seam}
use borrow.Author.Tests.{eq-eqb, ne_eqb, ltb-true, ltb-false, lt-ltb, le-ltb}
use Rattle.laws.proofs.Tests.{cond_true, cond_false, neither, by_test}
use Rattle.ranges.specs.Ranges.{range, ranges_in, ranges_of, bad_range, any_bad}
use Rattle.directory.specs.declared.steps.Directory.{Directory}
use Rattle.directory.specs.Outcome.{outcome}
use Rattle.directory.specs.Steps.{with_ranges}
use Rattle.refusal.specs.Call.{State, on_directory, refused}
use Rattle.refusal.specs.Refusal.{or_else, when, ram_number, ranges_number, kept_number}
use Rattle.refusal.proofs.Accepted.{or_zero, zero_or, ranges_accepted, ranges_good}
use Rattle.read_only_ranges.specs.SetRanges.{set_ranges_number, ranges_set, set_ranges_call}

-- two words make a range, one left over too
range_count : (words : List ℕ) → length (ranges_in words) ≡ (length words + 1) / 2
unfolding ranges_in
range_count [] = refl
range_count (start ∷ []) = refl
range_count (start ∷ size ∷ words) = let e = range_count words in omega arith

-- more than eight ranges take more than sixteen words
pub many_ranges : (words : List ℕ) → ltb 8 (length (ranges_in words)) ≡ ltb 16 (length words)
many_ranges words =
    let e = range_count words in
    by_test (λ t. ltb 8 (length (ranges_in words)) ≡ t) (ltb 16 (length words))
    (λ h. let l = ltb-true 16 (length words) h in lt-ltb 8 (length (ranges_in words)) (omega arith))
    (λ h. let l = ltb-false 16 (length words) h in le-ltb 8 (length (ranges_in words)) (omega arith))

-- where none is wrong no start is left over
whole_pairs : (ram : ℕ) (words : List ℕ) → any_bad ram (ranges_in words) ≡ false → length words % 2 ≡ 0
unfolding ranges_in any_bad bad_range
whole_pairs ram [] e = refl
whole_pairs ram (start ∷ []) e = absurd (false≢true (sym e))
whole_pairs ram (start ∷ size ∷ words) e =
    let w = whole_pairs ram words (neither (bad_range ram (range start size)) (any_bad ram (ranges_in words)) e).1 in
    omega arith

-- 37 and 38 alone arise of ranges
arises : (bad many : Bool) → let n = or_else (when bad 37) (when many 38) in (n ≡ 0) ⊎ ((37 ≤ n) × (n ≤ 38))
arises true many = inr (omega arith, omega arith)
arises false true = inr (omega arith, omega arith)
arises false false = inl refl

module _ (ram : ℕ) (words : List ℕ) where
  -- by a RAM that 1 accepts the ranges alone decide
  pub set_ranges_number_lem : ram_number ram ≡ 0 → set_ranges_number ram words ≡ ranges_number ram (ranges_in words) (length (ranges_in words))
  unfolding set_ranges_number
  set_ranges_number_lem z = zero_or (ram_number ram) _ z

  pub set_ranges_arises : ram_number ram ≡ 0 → let n = set_ranges_number ram words in (n ≡ 0) ⊎ ((37 ≤ n) × (n ≤ 38))
  unfolding ranges_number
  set_ranges_arises z = rw (set_ranges_number_lem z) (arises (any_bad ram (ranges_in words)) (ltb 8 (length (ranges_in words))))

  module _ (z : set_ranges_number ram words ≡ 0) where
    -- no range is wrong, and there are at most eight
    pub set_ranges_accepted : (any_bad ram (ranges_in words) ≡ false) × (length (ranges_in words) ≤ 8)
    unfolding set_ranges_number
    set_ranges_accepted = ranges_accepted ram (ranges_in words) (length (ranges_in words)) (or_zero (ram_number ram) _ z).1

    pub set_ranges_count : (length words ≡ 2 * length (ranges_in words)) × (length words ≤ 16)
    set_ranges_count =
        let a = set_ranges_accepted in
        let e = range_count words in
        let w = whole_pairs ram words a.0 in
        (omega (arith, a.1), omega (arith, a.1))

    -- the directory's ranges are those that are given
    pub set_ranges_given : ranges_of (ranges_set words) ≡ ranges_in words
    unfolding ranges_of ranges_set
    set_ranges_given =
        let c = set_ranges_count in
        let n : 2 * min (length (ranges_in words)) 8 ≡ length words = omega (arith, c.0, c.1) in
        rw (n, sets-eq words (replicate 16 0) 0 (omega (arith, c.1))) (ap ranges_in (take-append_seam words _))

    -- so no later call by this RAM meets 37 or 38
    pub set_ranges_kept : kept_number ram (ranges_set words) ≡ 0
    unfolding ranges_set
    set_ranges_kept =
        let a = set_ranges_accepted in
        ranges_good ram (ranges_of (ranges_set words)) (length (ranges_in words)) (ap (any_bad ram) set_ranges_given ∙ a.0) a.1

-- the call by its number
module _ (s : State) (words : List ℕ) where
  abbrev number : ℕ
  number = set_ranges_number (length s.memory.ram) words

  pub set_ranges_done : number ≡ 0 → set_ranges_call s words ≡ on_directory s (outcome (with_ranges s.directory (ranges_set words)) 0 0 0)
  unfolding set_ranges_call
  set_ranges_done z = cond_true _ _ _ (eq-eqb _ 0 z)

  pub set_ranges_refused : (number ≡ 0 → ⊥) → set_ranges_call s words ≡ refused number s []
  unfolding set_ranges_call
  set_ranges_refused h = cond_false _ _ _ (ne_eqb _ 0 h)

  -- by the number that the code has, and by what it stores: the count is half of the words
  module _ (n : ℕ) (en : n ≡ number) where
    pub refused_by : (n ≡ 0 → ⊥) → refused n s [] ≡ set_ranges_call s words
    refused_by h = ap (λ (k : ℕ). refused k s []) en ∙ sym (set_ranges_refused (λ z. h (en ∙ z)))

    pub done_by : n ≡ 0 → (bounds : List ℕ) → bounds ≡ sets (replicate 16 0) 0 words → (d : Directory) → d ≡ with_ranges s.directory (record { count = length words / 2; bounds = bounds }) →
        on_directory s (outcome d 0 0 0) ≡ set_ranges_call s words
    unfolding ranges_set
    done_by z bounds eb d ed =
        let c = set_ranges_count (length s.memory.ram) words (sym en ∙ z) in
        let e : length words / 2 ≡ length (ranges_in words) = omega (arith, c.0) in
        rw (ed, eb, e) (sym (set_ranges_done (sym en ∙ z)))

pub words_fit : (ram : ℕ) (words : List ℕ) (n : ℕ) → n ≡ set_ranges_number ram words → n ≡ 0 → length words ≤ 16
words_fit ram words n en z = (set_ranges_count ram words (sym en ∙ z)).1

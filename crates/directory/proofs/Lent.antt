-- Laws of the steps on lent arrays: each case of the snoop, as the step by value has it.
use Rattle.std.specs.Prelude.{Some, None}
use Prim.Native.Nat.{ℕ}
use mathlib.Core.Path.{◌≡◌, sym, ◌∙◌, ap}
use mathlib.Core.Bool.{Bool, true, false}
use mathlib.Core.List.{List}
use lib.ListN.{set}
use Rattle.ranges.specs.declared.Ranges.{Ranges}
use Rattle.directory.specs.declared.steps.Directory.{Directory}
use Rattle.ways.specs.Address.{set_of, line_index}
use Rattle.ways.specs.State.{state_number_in}
use Rattle.directory.specs.Outcome.{outcome}
use Rattle.directory.specs.Steps.{directory_of, after_snoop, invalidated, snoop_call}
use Rattle.ways.specs.Ways.{lookup_in}
use Rattle.directory.proofs.Laws.{snoop_off, snoop_on, snoop_accepted, snoop_refused}

module _ (tags : List ℕ) (valid : List Bool) (lru : List ℕ) (cd nw : Bool) (ranges : Ranges) (a : ℕ) where
  abbrev d : Directory
  d = directory_of tags valid lru cd nw ranges

  pub invalidate_off : nw ≡ true → d ≡ after_snoop d a
  invalidate_off e = sym (snoop_off d a e)

  module _ (on : nw ≡ false) where
    pub invalidate_nothing : lookup_in tags valid a ≡ None → d ≡ after_snoop d a
    unfolding invalidated
    invalidate_nothing e = sym (snoop_on d a on ∙ rw e)

    pub invalidate_at : (s w : ℕ) → s ≡ set_of a → lookup_in tags valid a ≡ Some w → directory_of tags (set valid (line_index s w) false) lru cd nw ranges ≡ after_snoop d a
    unfolding invalidated
    invalidate_at s w es e = sym (snoop_on d a on ∙ rw (e, es))

  -- the snoop call by the number of the set's state
  module _ (n s : ℕ) (es : s ≡ set_of a) (en : n ≡ state_number_in tags valid lru s) where
    number_is : n ≡ state_number_in tags valid lru (set_of a)
    number_is = en ∙ ap (state_number_in tags valid lru) es

    pub snoop_refused_in_place : (n ≡ 0 → ⊥) → outcome d n 0 0 ≡ snoop_call d a
    snoop_refused_in_place h = ap (λ (x : ℕ). outcome d x 0 0) number_is ∙ sym (snoop_refused d a (λ z. h (number_is ∙ z)))

    pub snoop_accepted_in_place : n ≡ 0 → (valid' : List Bool) → directory_of tags valid' lru cd nw ranges ≡ after_snoop d a → outcome (directory_of tags valid' lru cd nw ranges) 0 0 0 ≡ snoop_call d a
    snoop_accepted_in_place z valid' e = ap (λ (x : Directory). outcome x 0 0 0) e ∙ sym (snoop_accepted d a (sym number_is ∙ z))

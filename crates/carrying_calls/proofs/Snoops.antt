-- Laws of the snoops of carried writes, one after the other.
use Prim.Native.Nat.{ℕ, ◌+◌, ◌-◌, ◌≤◌}
use mathlib.Core.Path.{◌≡◌, refl, ◌∙◌, ap}
use mathlib.Core.List.{List, [], ◌∷◌, ◌++◌}
use lib.ListN.{get_or}
use Rattle.directory.specs.declared.steps.Directory.{Directory}
use Rattle.directory.specs.Steps.{after_snoop}
use Rattle.carried.specs.declared.CarriedWrites.{CarriedWrites}
use Rattle.carried.specs.Carried.{Carried}
use Rattle.carried.specs.CarriedCode.{write_in, writes_from}
use Rattle.carried.proofs.Writes.{writes_next, writes_none}
use Rattle.access.specs.Access.{snooped_by}
use Rattle.carrying_calls.specs.CarryingCalls.{snooped_to}

snooped_append : (a b : List Carried) (d : Directory) → snooped_by (a ++ b) d ≡ snooped_by b (snooped_by a d)
unfolding snooped_by
snooped_append [] b d = refl
snooped_append (w ∷ a) b d = snooped_append a b (after_snoop d w.address)

module _ (c : CarriedWrites) (from : ℕ) (d : Directory) where
  pub snooped_none : snooped_to c from from d ≡ d
  unfolding snooped_by
  snooped_none = rw (writes_none c from)

  pub snooped_next : (k : ℕ) → from ≤ k → snooped_to c from (k + 1) d ≡ after_snoop (snooped_to c from k d) (get_or c.addresses k 0)
  unfolding snooped_by
  snooped_next k h = ap (λ (l : List Carried). snooped_by l d) (writes_next c from k h) ∙ snooped_append (writes_from c from (k - from)) (write_in c k ∷ []) d

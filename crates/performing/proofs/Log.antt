-- The log of a call that the program makes.
use mathlib.Core.Path.{◌≡◌, sym, ap, ◌∙◌}
use mathlib.Core.List.{List}
use Prim.Native.Nat.{ℕ}
use Rattle.refusal.specs.Call.{State, After}
use Rattle.access.specs.declared.CallResult.{CallResult}
use Rattle.access.specs.Access.{leaves}
use Rattle.performing.specs.Perform.{Leaves}

-- a call that leaves some log leaves its own
pub own_log : (a : After) (r : CallResult) (s : State) (log : List ℕ) → leaves r s log ≡ a → Leaves a r s
own_log a r s log e = ap (λ (x : After). leaves r s x.log) (sym e) ∙ e

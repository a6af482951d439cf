use Rattle.carrying.proofs.Cycles.{none_lands}
use Prim.Native.Nat.{suc, ◌+◌}
use native.Mathlib.Omega.{arith}
use mathlib.Core.Path.{◌≡◌}
use Rattle.carrying.proofs.cycle.Brought.land_due.Goals as goal

pub returns-then-to-from : goal.returns-then-to-from
returns-then-to-from c =
    let a = c.args in
    let n : a.first + a.self.used + 1 ≡ suc (a.first + a.self.used) = omega arith in
    let d = rw n at c.due_end-to.ensures in
    none_lands _ _ _ _ _ _ c.if-to-from.true d.1 d.2 d.3

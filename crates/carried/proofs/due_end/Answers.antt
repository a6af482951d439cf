use mathlib.Core.Path.{◌≡◌}
use native.Mathlib.Omega.{arith}
use Rattle.carried.proofs.Writes.{due_begin, due_next, due_stopped, due_all}
use Rattle.carried.proofs.due_end.Goals as goal

pub loop-to-init : goal.loop-to-init
loop-to-init c = due_begin _ _ _

pub returns-then-made-carried : goal.returns-then-made-carried
returns-then-made-carried c =
    let e = due_stopped _ _ _ _ c.loop-to.invariant c.loop-to-test.true c.if-made-carried.true in
    (omega arith, omega arith, e.0, e.1)

pub loop-to-preserved : goal.loop-to-preserved
loop-to-preserved c = due_next _ _ _ _ c.loop-to.invariant c.loop-to.auto.to c.loop-to-test.true c.if-made-carried.false

pub returns : goal.returns
returns c =
    let h : c.loop-to.to ≡ c.args.carried.count = omega arith in
    let e = rw h at (due_all _ _ _ _ c.loop-to.invariant h) in
    (omega arith, omega arith, e.0, e.1)

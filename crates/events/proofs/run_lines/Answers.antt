use native.Mathlib.Omega.{arith}
use Rattle.events.specs.Output.{start}
use Rattle.rows.proofs.Printing.{header_length}
use Rattle.events.proofs.Rest.{run_begin, run_next, run_end}
use Rattle.events.proofs.run_lines.Goals as goal

pub loop-line-init : goal.loop-line-init
unfolding start
loop-line-init c = rw c.first-directory.ensures (run_begin _ _ _ _)

pub overflow_add-at : goal.overflow_add-at
overflow_add-at c = let k = c.loop-line.invariant in omega (arith, header_length, c.put_row-at.ensures.upper_bound, k.events, k.most, c.requires)

pub overflow_add-event : goal.overflow_add-event
overflow_add-event c = omega (arith, c.loop-line.invariant.events, c.requires, c.in-Some.ensures.shorter)

pub loop-line-preserved : goal.loop-line-preserved
loop-line-preserved c =
    run_next _ _ _ _ _ _ _ _ _ c.loop-line.invariant _ _ _ _ _ _ _ _ c.in-Some.ensures.lines c.in-Some.ensures.shorter c.perform-done.ensures
    (c.perform-done.auto.ram, c.perform-done.auto.parity, c.perform-done.auto.data) (c.put_row-at.ensures.value, c.put_row-at.ensures.upper_bound)

pub shape_of-output : goal.shape_of-output
shape_of-output c = c.loop-line.invariant.out_length

pub returns : goal.returns
returns c =
    let k = c.loop-line.invariant in
    record { value = run_end _ _ _ _ _ _ _ _ _ k c.in_default.ensures.lines; upper_bound = omega (arith, k.events, k.most, c.requires) }

use native.Mathlib.Omega.{arith}
use borrow.Author.Tests.{eq-eqb, ne_eqb}
use Rattle.parts.proofs.Sized.{mask_small, mask_wanted, lowest_small, sized_next, sized_end}
use Rattle.parts.proofs.lanes.Transfer.sized_cycles.Goals as goal

pub put-requires : goal.put-requires
put-requires c =
    let p = c.requires in
    let k = c.loop-self.invariant in
    (mask_small _ _ _ _ _ _ _ _ _ _ _ _ k c.moved_lanes-mask.ensures, omega (arith, k.most, k.some, k.lengths, p.3))

pub returns-then-last : goal.returns-then-last
returns-then-last c =
    let p = c.requires in
    let k = c.loop-self.invariant in (
      sized_end _ _ _ _ _ _ _ _ _ _ _ _ k c.moved_lanes-mask.ensures _ p.2 c.put.ensures (eq-eqb _ _ c.if-last.true),
      omega arith,
      omega (arith, k.most, k.some),
    )

pub overflow_add-lowest : goal.overflow_add-lowest
overflow_add-lowest c =
    let b = lowest_small _ _ _ _ _ _ _ _ _ _ _ _ c.loop-self.invariant c.moved_lanes-mask.ensures in
    omega arith

pub overflow_sub-wanted : goal.overflow_sub-wanted
overflow_sub-wanted c = mask_wanted _ _ _ _ _ _ _ _ _ _ _ _ c.loop-self.invariant c.moved_lanes-mask.ensures

pub loop-self-preserved : goal.loop-self-preserved
loop-self-preserved c =
    let p = c.requires in
    sized_next _ _ _ _ _ _ _ _ _ _ _ _ c.loop-self.invariant c.moved_lanes-mask.ensures _ p.2 c.put.ensures (ne_eqb _ _ c.if-last.false)

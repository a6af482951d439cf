use mathlib.Core.Path.{sym}
use native.Mathlib.Omega.{arith}
use Rattle.ways.proofs.FourWays.{lookup_below}
use Rattle.directory.proofs.Lent.{invalidate_off, invalidate_nothing, invalidate_at}
use Rattle.directory.proofs.in_place.invalidate_in_place.Goals as goal

pub returns-then-nw : goal.returns-then-nw
returns-then-nw c lru cd ranges = invalidate_off _ _ _ _ _ _ _ c.if-nw.true

pub returns-in_default : goal.returns-in_default
returns-in_default c lru cd ranges = invalidate_nothing _ _ _ _ _ _ _ c.if-nw.false (sym c.in_default.ensures)

pub overflow_add-index : goal.overflow_add-index
overflow_add-index c = let l = lookup_below _ _ _ _ (sym c.in-Some.ensures) in omega (arith, c.set_of.ensures)

pub bounds-valid-index : goal.bounds-valid-index
bounds-valid-index c = let l = lookup_below _ _ _ _ (sym c.in-Some.ensures) in omega (arith, c.set_of.ensures)

pub returns : goal.returns
returns c lru cd ranges = invalidate_at _ _ _ _ _ _ _ c.if-nw.false _ _ c.set_of.ensures (sym c.in-Some.ensures)

use Rattle.std.specs.Prelude.{Some, None}
use Prim.Native.Nat.{ℕ, ◌+◌}
use mathlib.Core.Path.{◌≡◌, sym, ◌∙◌}
use mathlib.Core.Bool.{Bool, true, false, cond}
use lib.Dec.{ltb}
use borrow.Author.Tests.{lt-ltb, le-ltb}
use Rattle.laws.proofs.Tests.{cond_true, cond_false}
use Rattle.ways.specs.Ways.{lowest}
use Rattle.ways.proofs.ways.lowest_way.Goals as goal

-- the lowest way, counted from the last test on
counted : (test0 test1 test2 test3 : Bool) {way0 way1 way2 way3 : ℕ} →
    way3 ≡ cond test3 0 (1 + 0) → way2 ≡ cond test2 0 (1 + way3) → way1 ≡ cond test1 0 (1 + way2) → way0 ≡ cond test0 0 (1 + way1) →
    cond (ltb way0 4) (Some way0) None ≡ lowest test0 test1 test2 test3
unfolding lowest
counted true test1 test2 test3 e3 e2 e1 e0 = rw e0
counted false true test2 test3 e3 e2 e1 e0 = rw (e0, e1)
counted false false true test3 e3 e2 e1 e0 = rw (e0, e1, e2)
counted false false false true e3 e2 e1 e0 = rw (e0, e1, e2, e3)
counted false false false false e3 e2 e1 e0 = rw (e0, e1, e2, e3)

pub returns-then-way-lt-WAYS : goal.returns-then-way-lt-WAYS
returns-then-way-lt-WAYS c =
    sym (cond_true _ _ _ (lt-ltb _ _ c.if-way-lt-WAYS.true)) ∙
    counted _ _ _ _ c.lowest_from.ensures.0 c.lowest_from-2.ensures.0 c.lowest_from-3.ensures.0 c.lowest_from-way.ensures.0

pub returns-else-way-lt-WAYS : goal.returns-else-way-lt-WAYS
returns-else-way-lt-WAYS c =
    sym (cond_false _ _ _ (le-ltb _ _ c.if-way-lt-WAYS.false)) ∙
    counted _ _ _ _ c.lowest_from.ensures.0 c.lowest_from-2.ensures.0 c.lowest_from-3.ensures.0 c.lowest_from-way.ensures.0

use Prim.Native.Nat.{◌+◌, ◌-◌, ◌/◌}
use mathlib.Core.Path.{◌≡◌, ◌∙◌, ap}
use native.Mathlib.Omega.{arith}
use lib.ListN.{length}
use lib.Seq.{length-sets}
use Rattle.rows.specs.Decimal.{decimal}
use Rattle.rows.proofs.Decimal.{digit_place}
use Rattle.rows.proofs.Printing.{digit_only, last_first}
use Rattle.rows.proofs.put_number.Goals as goal

pub overflow_sub-k : goal.overflow_sub-k
overflow_sub-k c = omega (arith, digit_place c.loop-rest.rest (omega arith))

pub loop-rest-preserved : goal.loop-rest-preserved
loop-rest-preserved c =
    let loop = c.loop-rest in
    let a = c.args in
    let place : loop.k - 1 ≡ a.at + length (decimal (loop.rest / 10)) = omega (arith, digit_place loop.rest (omega arith)) in
    (place, rw (c.put.ensures, place) (last_first loop.out a.at loop.rest (omega arith)) ∙ loop.invariant.1)

pub shape_of-out : goal.shape_of-out
shape_of-out c = ap length (c.put-2.ensures ∙ digit_only c.loop-rest.out _ c.loop-rest.rest (omega arith) ∙ c.loop-rest.invariant.1) ∙ simp length-sets

pub returns : goal.returns
returns c = record {
  value = (rw c.digit_count.ensures.0, c.put-2.ensures ∙ digit_only c.loop-rest.out _ c.loop-rest.rest (omega arith) ∙ c.loop-rest.invariant.1);
  upper_bound = omega (arith, c.digit_count.ensures.1);
}

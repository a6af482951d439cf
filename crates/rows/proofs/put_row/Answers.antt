use Rattle.rows.specs.Row.{row_of}
use Rattle.rows.proofs.Decimal.{decimal_most}
use Rattle.rows.proofs.Printing.{put_within, row_put}
use native.Mathlib.Omega.{arith}
use mathlib.Core.Path.{◌∙◌}
use Rattle.rows.proofs.put_row.Goals as goal

pub overflow_add-result : goal.overflow_add-result
overflow_add-result c =
    omega (
      arith,
      c.put_number-a.ensures.upper_bound,
      c.put_number-b.ensures.upper_bound,
      c.put_number-c.ensures.upper_bound,
      c.put_number-d.ensures.upper_bound,
      c.min-from.ensures,
      c.ranges,
    )

pub overflow_sub-result : goal.overflow_sub-result
overflow_sub-result c =
    omega (
      arith,
      c.put_number-a.ensures.value.0,
      c.put_number-b.ensures.value.0,
      c.put_number-c.ensures.value.0,
      c.put_number-d.ensures.value.0,
    )

pub returns : goal.returns
returns c =
    let a = c.args in
    let put = row_put a.out.now c.min-from.result a.event a.number a.value a.cycles c.put_number-a.result c.put_number-b.result
    c.put_number-c.result c.put_number-d.result _ _ _ _ _ _ _ _ c.put_number-a.ensures.value.0
    c.put_number-a.ensures.value.1 c.put.ensures c.put_number-b.ensures.value.0
    c.put_number-b.ensures.value.1 c.put-2.ensures c.put_number-c.ensures.value.0
    c.put_number-c.ensures.value.1 c.put-3.ensures c.put_number-d.ensures.value.0
    c.put_number-d.ensures.value.1 c.put-4.ensures in record {
      value = (omega (arith, put.0), put.1 ∙ put_within _ (row_of a.event a.number a.value a.cycles) _ _ c.min-from.ensures);
      upper_bound = omega (
        arith,
        c.put_number-a.ensures.value.0,
        decimal_most 9 a.event (omega arith),
        c.put_number-b.ensures.value.0,
        decimal_most 9 a.number (omega arith),
        c.put_number-c.ensures.upper_bound,
        c.put_number-d.ensures.value.0,
        decimal_most 9 a.cycles (omega arith),
      );
    }

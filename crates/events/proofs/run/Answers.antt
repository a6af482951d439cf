use Prim.Native.Nat.{ℕ, ◌+◌}
use mathlib.Core.Path.{ap, ◌∙◌}
use Rattle.rows.proofs.Printing.{header_length}
use Rattle.events.proofs.Rest.{output_long, output_lines, after_header}
use native.Mathlib.Omega.{arith}
use Rattle.events.proofs.run.Goals as goal

pub overflow_add-result : goal.overflow_add-result
overflow_add-result c = omega (arith, c.put_row.ensures.upper_bound, c.put_header-at.ensures.0, header_length)

pub shape_of-output-then-input-gt-LONGEST_INPUT : goal.shape_of-output-then-input-gt-LONGEST_INPUT
shape_of-output-then-input-gt-LONGEST_INPUT c = c.put_row.auto.out ∙ c.put_header-at.auto.out

pub returns-then-input-gt-LONGEST_INPUT : goal.returns-then-input-gt-LONGEST_INPUT
returns-then-input-gt-LONGEST_INPUT c =
    let a = c.args in
    let h = c.put_header-at.ensures in
    let (size, put) = c.put_row.ensures.value in
    record {
      value = rw (output_long a.table.now a.input.now c.if-input-gt-LONGEST_INPUT.true)
          (after_header a.output.now _ _ _ _ _ h (ap (λ (n : ℕ). c.put_header-at.result + n) size, put));
      upper_bound = omega (arith, h.0, header_length, c.put_row.ensures.upper_bound);
    }

pub run_lines-requires : goal.run_lines-requires
run_lines-requires c = (omega arith, omega (arith, c.put_header-at.ensures.0))

pub shape_of-output : goal.shape_of-output
shape_of-output c = c.run_lines.auto.output ∙ c.put_header-at.auto.out

pub returns : goal.returns
returns c =
    let a = c.args in
    let h = c.put_header-at.ensures in
    record {
      value = rw (output_lines a.table.now a.input.now (omega arith)) (after_header a.output.now _ _ _ _ _ h c.run_lines.ensures.value);
      upper_bound = omega (arith, h.0, header_length, c.run_lines.ensures.upper_bound);
    }

use Rattle.std.proofs.Common.{arith, eqb-true, sym, ◌∙◌}
use Rattle.fields.proofs.Digits.{number_empty, number_long, scan_other, scan_large, scan_next, scan_done}
use Rattle.fields.proofs.numbers.scan_within.Goals as goal
use Rattle.fields.proofs.numbers.scan_within.Goals.{then-is_empty-via-then-is_empty, then-is_empty-via-else-is_empty+then-digits-field}

pub returns-then-is_empty-clause-value : goal.returns-then-is_empty-clause-value
returns-then-is_empty-clause-value c =
    elim c.then-is_empty.branch [
      | then-is_empty-via-then-is_empty w ↦ number_empty _ _ _ (eqb-true _ _ (sym w.if-is_empty.ensures))
      | then-is_empty-via-else-is_empty+then-digits-field w ↦ number_long _ _ _ w.if-digits-field.true
    ]

pub returns-in_err-checked_mul-clause-value : goal.returns-in_err-checked_mul-clause-value
returns-in_err-checked_mul-clause-value c = c.from_residual.ensures ∙ scan_large _ _ _ c.loop-byte.invariant (omega arith) _ _ (omega (arith, c.in_err-checked_mul.ensures))

pub returns-in_err-digit_of-clause-value : goal.returns-in_err-digit_of-clause-value
returns-in_err-digit_of-clause-value c = c.from_residual-in_err-digit_of.ensures ∙ scan_other _ _ _ c.loop-byte.invariant (omega arith) _ _ c.in_err-digit_of.ensures

pub returns-in_err-value-clause-value : goal.returns-in_err-value-clause-value
returns-in_err-value-clause-value c = c.from_residual-in_err-value.ensures ∙ scan_large _ _ _ c.loop-byte.invariant (omega arith) _ _ (omega (arith, c.in_err-value.ensures, c.in_ok-checked_mul.ensures.1, c.in_ok-digit_of.ensures.1))

pub loop-byte-preserved : goal.loop-byte-preserved
loop-byte-preserved c =
    rw (c.in_ok-value.ensures.1, c.in_ok-checked_mul.ensures.1, c.in_ok-digit_of.ensures.1)
    (scan_next _ _ _ c.loop-byte.invariant (omega arith) c.in_ok-digit_of.ensures.0)

pub returns-clause-value : goal.returns-clause-value
returns-clause-value c = c.then_some.ensures ∙ scan_done _ _ _ c.loop-byte.invariant _ _ (omega arith) (sym c.if-is_empty.ensures) (omega arith)

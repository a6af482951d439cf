use Rattle.std.proofs.Common.{arith, ◌∙◌}
use Rattle.fields.proofs.LeadingNumber.{first_tab, lead_none, lead_other, lead_field}
use Rattle.fields.proofs.numbers.leading_number.Goals as goal

pub returns-in_err-end-clause-value : goal.returns-in_err-end-clause-value
returns-in_err-end-clause-value c = c.from_residual.ensures ∙ lead_none c.min.result c.args.text.now (λ h. omega (arith, h, c.min.ensures)) c.in_err-end.ensures

pub returns-in_err-number-clause-value : goal.returns-in_err-number-clause-value
returns-in_err-number-clause-value c = c.from_residual-in_err-number.ensures ∙ lead_other _ _ (first_tab c.min.result c.args.text.now _ c.in_ok-end.ensures) c.in_err-number.ensures.value

pub returns-clause-value : goal.returns-clause-value
returns-clause-value c = lead_field _ _ (first_tab c.min.result c.args.text.now _ c.in_ok-end.ensures) _ c.in_ok-number.ensures.value

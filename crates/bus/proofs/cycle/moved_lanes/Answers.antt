use mathlib.Core.Path.{sym, ◌∙◌}
use Rattle.laws.proofs.Tests.{cond_true, cond_false}
use Rattle.bus.proofs.Sizing.{mask_one, moved_more, size_byte}
use native.Mathlib.Omega.{arith}
use Rattle.bus.proofs.cycle.moved_lanes.Goals as goal

pub returns-then-answer-eq1 : goal.returns-then-answer-eq1
returns-then-answer-eq1 c lane count some l low whole = rw (size_byte c.args.answer lane count (λ e. omega (arith, c.if-answer-eq1.true)) some) (low ∙ sym (mask_one lane))

pub returns-then-answer-lower_half : goal.returns-then-answer-lower_half
returns-then-answer-lower_half c lane count some l low whole = sym (cond_true _ _ _ c.if-answer-lower_half.true) ∙ moved_more c.args.answer lane count _ c.if-answer-eq1.false some l whole

pub returns : goal.returns
returns c lane count some l low whole = sym (cond_false _ _ _ c.if-answer-lower_half.false) ∙ moved_more c.args.answer lane count _ c.if-answer-eq1.false some l whole

use mathlib.Core.Path.{sym, ◌∙◌}
use Rattle.laws.proofs.Tests.{cond_true, cond_false}
use Rattle.carried.proofs.taken_length.Goals as goal

pub returns-then-read_only : goal.returns-then-read_only
returns-then-read_only c = sym (cond_true _ _ _ (sym c.read_only.ensures ∙ c.if-read_only.true))

pub returns-else-read_only : goal.returns-else-read_only
returns-else-read_only c = sym (cond_false _ _ _ (sym c.read_only.ensures ∙ c.if-read_only.false))

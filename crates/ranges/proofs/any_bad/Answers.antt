use mathlib.Core.Path.{sym, ◌∙◌}
use borrow.Author.Rules.{rules}
use Rattle.ranges.specs.Ranges.{bad_range}
use Rattle.ranges.proofs.Laws.{any_bad_any}
use Rattle.ranges.proofs.any_bad.Goals as goal

pub returns : goal.returns
returns c = c.any_range.ensures (bad_range c.args.ram) (λ start size hit s z e. search rules) ∙ sym (any_bad_any _ _)

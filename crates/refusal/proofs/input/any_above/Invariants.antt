use Rattle.refusal.specs.Refusal.{any_above}
use mathlib.Core.Path.{◌≡◌}
use mathlib.Core.Bool.{◌||◌}
use lib.ListN.{drop}
use Rattle.refusal.proofs.input.any_above.Given as goal

abbrev pub invariant-loop-answer : goal.invariant-loop-answer
invariant-loop-answer l = (l.above || any_above l.limit (drop l.answer-index l.answers)) ≡ any_above l.limit l.answers

use mathlib.Core.Path.{sym, ◌∙◌}
use native.Mathlib.Omega.{arith}
use borrow.Author.Rules.{rules}
use Rattle.std.proofs.lemmas.Bool.Decides.{nat_tests}
use Rattle.ranges.proofs.Laws.{any_step, any_end, any_last}
use Rattle.ranges.proofs.any_range.Goals as goal

pub loop-pair-preserved : goal.loop-pair-preserved
loop-pair-preserved g c =
    λ p each. any_step p c.args.words.now c.loop-pair.pair-index c.loop-pair.found c.as_chunks.result.0.now c.test-found.result c.as_chunks.ensures.front (omega (arith, c.as_chunks.ensures.front_len)) (each _ _ _ (search rules) (search rules) c.test-found.ensures)
    ∙ c.loop-pair.invariant p each

pub returns-then-is_empty : goal.returns-then-is_empty
returns-then-is_empty g c =
    λ p each. sym (any_end p c.args.words.now c.loop-pair.pair-index c.loop-pair.found (omega (arith, c.as_chunks.ensures.front_len, c.loop-pair.auto.pair-index-end)) _ c.as_chunks.ensures.back (grind (arith, nat_tests)))
    ∙ c.loop-pair.invariant p each

pub returns : goal.returns
returns g c =
    λ p each. sym (any_last p c.args.words.now c.loop-pair.pair-index c.loop-pair.found (omega (arith, c.as_chunks.ensures.front_len, c.loop-pair.auto.pair-index-end)) _ c.test.result c.as_chunks.ensures.back (λ e. grind (arith, nat_tests)) (each _ _ _ (search rules) (search rules) c.test.ensures))
    ∙ c.loop-pair.invariant p each

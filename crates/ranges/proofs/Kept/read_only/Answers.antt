use mathlib.Core.Path.{◌≡◌, sym, ◌∙◌}
use native.Mathlib.Omega.{arith}
use borrow.Author.Rules.{rules}
use Rattle.ranges.specs.Ranges.{Range, ranges_of, ranges_in, read_only, in_range}
use Rattle.ranges.proofs.Laws.{read_only_any}
use Rattle.ranges.proofs.Kept.read_only.Goals as goal

pub returns-then-self-eq0 : goal.returns-then-self-eq0
unfolding read_only ranges_of ranges_in
returns-then-self-eq0 c = let e : c.args.self.count ≡ 0 = omega arith in rw e

pub returns : goal.returns
unfolding ranges_of
returns c =
    let e = rw c.kept_words.ensures.0 at c.any_range.ensures in
    e (λ (r : Range). in_range r c.args.address) (λ start size hit s z k. search rules) ∙ sym (read_only_any _ _)

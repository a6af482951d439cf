use mathlib.Core.Path.{◌≡◌}
use native.Mathlib.Omega.{arith}
use Rattle.ranges.specs.Ranges.{ranges_of, ranges_in, any_bad}
use Rattle.ranges.proofs.Kept.any_bad.Goals as goal

pub returns-then-self-eq0 : goal.returns-then-self-eq0
unfolding any_bad ranges_of ranges_in
returns-then-self-eq0 c = let e : c.args.self.count ≡ 0 = omega arith in rw e

pub returns : goal.returns
unfolding ranges_of
returns c = rw c.kept_words.ensures.0 at c.any_bad.ensures

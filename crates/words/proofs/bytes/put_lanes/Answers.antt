use borrow.Author.Rules.{rules}
use mathlib.Core.Path.{sym, ◌∙◌}
use native.Mathlib.Omega.{arith}
use Rattle.words.proofs.Replaced.{lanes_at_most, lanes_put, lanes_fit, whole_mask, whole_put}
use Rattle.words.proofs.bytes.put_lanes.Goals as goal

pub overflow_sub-old : goal.overflow_sub-old
overflow_sub-old c =
    let a = c.args in
    rw (c.lanes_word.ensures a.lane a.count c.requires.1 c.lanes_mask-mask.ensures.0) (lanes_at_most _ _ _)

pub overflow_add-old : goal.overflow_add-old
overflow_add-old c =
    let a = c.args in
    let part = c.lanes_word.ensures a.lane a.count c.requires.1 c.lanes_mask-mask.ensures.0 in
    omega (arith, lanes_fit a.dst.now (search rules) a.base a.lane a.count a.word _ _ c.requires.1 c.requires.3 c.word_at-old.ensures part)

pub returns-then-mask-eq15 : goal.returns-then-mask-eq15
returns-then-mask-eq15 c =
    let a = c.args in
    let e = sym c.lanes_mask-mask.ensures.0 ∙ c.if-mask-eq15.true in
    rw c.put_word.ensures
    (whole_put _ _ a.lane a.count _ (whole_mask a.lane a.count c.requires.1 e))

pub returns-else-mask-eq15 : goal.returns-else-mask-eq15
returns-else-mask-eq15 c =
    let a = c.args in
    let part = c.lanes_word.ensures a.lane a.count c.requires.1 c.lanes_mask-mask.ensures.0 in
    rw c.put_word-else-mask-eq15.ensures
    (lanes_put a.dst.now (search rules) a.base a.lane a.count a.word _ _ c.requires.1 c.requires.3 c.word_at-old.ensures part)

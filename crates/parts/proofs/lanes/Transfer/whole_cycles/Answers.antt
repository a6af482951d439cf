use mathlib.Core.Path.{refl, ◌∙◌}
use native.Mathlib.Omega.{arith}
use Rattle.words.specs.Bytes.{lanes_mask}
use Rattle.bus.proofs.Sizing.{size_whole, size_half, size_byte, size_odd}
use Rattle.parts.proofs.Made.{made_one, made_then}
use Rattle.parts.proofs.Records.{part_blind}
use Rattle.parts.proofs.lanes.Transfer.whole_cycles.Goals as goal

pub returns-then-answer-eq0 : goal.returns-then-answer-eq0
unfolding lanes_mask
returns-then-answer-eq0 c =
    let p = c.requires in
    made_one _ (part_blind _) _ _ _ 0 4 _ _ _ (omega (arith, p.0)) (size_whole _ _ _ c.if-answer-eq0.true (omega arith))
    (c.put.ensures 0 4 (omega arith) refl)

pub returns-then-answer-eq0-2 : goal.returns-then-answer-eq0-2
unfolding lanes_mask
returns-then-answer-eq0-2 c =
    let p = c.requires in
    made_then _ (part_blind _) _ _ _ 0 4 2 2 2 _ _ _ _ _ (omega (arith, p.0))
    (size_half _ _ _ c.if-answer-eq0-2.true c.if-answer-eq0.false ∙ omega arith) (omega arith) (omega arith) (omega arith) (c.put-then-answer-eq0-2.ensures 0 2 (omega arith) refl)
    c.upper_half.ensures

pub returns-then-answers-next-eq0 : goal.returns-then-answers-next-eq0
unfolding lanes_mask
returns-then-answers-next-eq0 c =
    let p = c.requires in
    made_then _ (part_blind _) _ _ _ 0 4 1 1 3 _ _ _ _ _ (omega (arith, p.0)) (size_byte _ _ _ c.if-answer-eq0-2.false (omega arith)) (omega arith)
    (omega arith) (omega arith) (c.put-2.ensures 0 1 (omega arith) refl)
    (made_one _ (part_blind _) _ _ _ 1 3 _ _ _ (omega (arith, p.0)) (size_whole _ _ _ c.if-answers-next-eq0.true (omega arith))
    (c.put-then-answers-next-eq0.ensures 1 3 (omega arith) refl))

pub returns : goal.returns
unfolding lanes_mask
returns c =
    let p = c.requires in
    made_then _ (part_blind _) _ _ _ 0 4 1 1 3 _ _ _ _ _ (omega (arith, p.0)) (size_byte _ _ _ c.if-answer-eq0-2.false (omega arith)) (omega arith)
    (omega arith) (omega arith) (c.put-2.ensures 0 1 (omega arith) refl)
    (made_then _ (part_blind _) _ _ _ 1 3 1 2 2 _ _ _ _ _ (omega (arith, p.0)) (size_odd _ _ _ c.if-answers-next-eq0.false (omega arith) (omega arith)) (omega arith) (omega arith) (omega arith)
    (c.put-3.ensures 1 1 (omega arith) refl) c.upper_half-2.ensures)

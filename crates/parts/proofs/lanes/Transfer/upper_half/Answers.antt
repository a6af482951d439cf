use mathlib.Core.Path.{refl}
use native.Mathlib.Omega.{arith}
use Rattle.words.specs.Bytes.{lanes_mask}
use Rattle.bus.proofs.Sizing.{size_upper, size_byte, size_one}
use Rattle.parts.proofs.Made.{made_one, made_then}
use Rattle.parts.proofs.Records.{part_blind}
use Rattle.parts.proofs.lanes.Transfer.upper_half.Goals as goal

pub returns-then-answers-used-eq0 : goal.returns-then-answers-used-eq0
unfolding lanes_mask
returns-then-answers-used-eq0 c =
    let p = c.requires in
    made_one _ (part_blind _) _ _ _ 2 2 _ _ _ (omega arith) (size_upper _ 2 c.if-answers-used-eq0.true (omega arith)) (c.put.ensures 2 2 (omega arith) refl)

pub returns : goal.returns
unfolding lanes_mask
returns c =
    let p = c.requires in
    made_then _ (part_blind _) _ _ _ 2 2 1 3 1 _ _ _ _ _ (omega arith) (size_byte _ _ _ c.if-answers-used-eq0.false (omega arith)) (omega arith)
    (omega arith) (omega arith) (c.put-2.ensures 2 1 (omega arith) refl)
    (made_one _ (part_blind _) _ _ _ 3 1 _ _ _ (omega arith) (size_one _ _) (c.put-3.ensures 3 1 (omega arith) refl))

use native.Mathlib.Omega.{arith}
use lib.Pow.{pow_pos}
use Rattle.words.proofs.Masks.{one_shl, mask_below, mask_shifted}
use Rattle.words.proofs.lanes.lanes_mask.Goals as goal

pub overflow_sub-result : goal.overflow_sub-result
overflow_sub-result c = rw (one_shl c.args.count (omega arith)) (pow_pos c.args.count)

pub returns : goal.returns
returns c =
    let e = mask_shifted c.args.lane c.args.count c.requires in
    (e, rw e (mask_below c.args.lane c.args.count c.requires))

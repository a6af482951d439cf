use Rattle.memory.proofs.Stores.{masked_part}
use Rattle.memory.proofs.parity.with_bits.Goals as goal

pub returns : goal.returns
returns c = let a = c.args in masked_part a.p a.lane a.count a.bits _ c.requires.1 c.lanes_mask-mask.ensures.0 c.lanes_mask-mask.ensures.1

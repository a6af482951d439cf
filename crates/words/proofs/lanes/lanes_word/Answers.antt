use mathlib.Core.Path.{◌∙◌, ap}
use lib.Bits.{bit_and}
use Rattle.words.proofs.Masks.{mask_bits, masked_word}
use Rattle.words.proofs.lanes.lanes_word.Goals as goal

pub returns : goal.returns
returns c lane count h m = ap (bit_and c.args.word) (mask_bits c.args.mask lane count h m) ∙ masked_word c.args.word lane count

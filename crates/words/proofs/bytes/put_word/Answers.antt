use Rattle.words.proofs.Numbers.{of_length}
use Rattle.words.proofs.Moves.{part_replaced}
use Rattle.words.proofs.bytes.put_word.Goals as goal

pub returns : goal.returns
returns c = rw (c.copy_from_slice.ensures.after, c.bytes_of.ensures) (part_replaced _ _ _ 4 c.requires (of_length 4 c.args.value))

use Rattle.memory.proofs.Bits.{line_stored}
use Rattle.memory.proofs.parity.store_line.Goals as goal

pub returns : goal.returns
returns c = rw (c.store_doubleword-4.ensures, c.store_doubleword-3.ensures, c.store_doubleword-2.ensures, c.store_doubleword.ensures) (line_stored _ _ _ _)

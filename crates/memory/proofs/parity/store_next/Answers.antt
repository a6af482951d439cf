use Rattle.words.specs.Bytes.{bytes_at}
use Rattle.memory.specs.Parity.{stored}
use Rattle.memory.proofs.parity.store_next.Goals as goal

pub returns-else-left-ge4-clause-bytes_stored : goal.returns-else-left-ge4-clause-bytes_stored
unfolding stored bytes_at
returns-else-left-ge4-clause-bytes_stored c = c.put_byte.ensures

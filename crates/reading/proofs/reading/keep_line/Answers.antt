use Rattle.ways.proofs.FourWays.{victim_below}
use Rattle.reading.proofs.reading.keep_line.Goals as goal

pub data_offset-offset-requires : goal.data_offset-offset-requires
data_offset-offset-requires c = rw c.victim-way.ensures (victim_below _ _ _)

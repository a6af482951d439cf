use Rattle.ways.specs.Ways.{victim_in}
use Rattle.ways.proofs.ways.victim.Goals as goal

pub returns : goal.returns
unfolding victim_in
returns c = rw (c.unwrap_or.ensures, c.lowest_way-invalid.ensures, c.lru_way.ensures, c.is_invalid-4.ensures, c.is_invalid-3.ensures, c.is_invalid-2.ensures, c.is_invalid.ensures)

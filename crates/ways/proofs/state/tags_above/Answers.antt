use Rattle.ways.specs.State.{tags_above}
use Rattle.ways.proofs.state.tags_above.Goals as goal

pub returns : goal.returns
unfolding tags_above
returns c = rw (c.tag_above.ensures, c.tag_above-2.ensures, c.tag_above-3.ensures, c.tag_above-4.ensures)

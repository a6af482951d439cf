use mathlib.Core.Path.{sym}
use Rattle.ways.specs.State.{state_number_in}
use Rattle.ways.proofs.state.state_number.Goals as goal

pub returns-then-sound_set : goal.returns-then-sound_set
returns-then-sound_set c = sym (c.sound_set.ensures c.if-sound_set.true c.args.valid.now)

pub returns : goal.returns
unfolding state_number_in
returns c = rw (c.first_number.ensures, c.same_tags.ensures, c.tags_above.ensures)

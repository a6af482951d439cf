use borrow.Author.Tests.{leb-true, le-ltb}
use Rattle.laws.proofs.Tests.{both}
use Rattle.ways.specs.State.{first_number, state_number_in}
use Rattle.ways.proofs.state.sound_set.Goals as goal

pub returns : goal.returns
unfolding state_number_in first_number
returns c e valid =
    let t = both _ _ e in
    let k = c.sound_tags.ensures t.0 valid in
    rw (k.0, k.1, le-ltb _ _ (leb-true _ _ t.1))

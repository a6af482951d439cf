use mathlib.Core.Path.{◌∙◌}
use Rattle.words.proofs.Masks.{placed_masked}
use Rattle.words.proofs.lanes.placed_lanes.Goals as goal

pub returns : goal.returns
returns c =
    let a = c.args in
    let h = c.requires.2 in
    c.lanes_word.ensures a.lane a.count h c.lanes_mask.ensures.0
    ∙ placed_masked a.value a.place a.lane a.count h

use mathlib.Core.Path.{◌∙◌}
use Rattle.words.proofs.Moves.{part_copied}
use Rattle.words.proofs.bytes.copy_array.Goals as goal

pub returns : goal.returns
returns g c =
    let chunk = rw c.unwrap-bytes.ensures at c.try_into.ensures in
    part_copied _ _ _ _ _ _ c.requires.0 c.requires.1 (c.copy_from_slice.ensures.after ∙ chunk.1.same)

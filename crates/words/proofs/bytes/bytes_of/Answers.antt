use mathlib.Core.Path.{◌∙◌}
use Rattle.words.proofs.Words.{four_bytes_of}
use Rattle.words.proofs.bytes.bytes_of.Goals as goal

pub returns : goal.returns
returns c = c.to_le_bytes.ensures ∙ four_bytes_of _

use mathlib.Core.Path.{◌∙◌}
use borrow.Author.Rules.{rules}
use Rattle.words.proofs.Words.{value_of_four}
use Rattle.words.proofs.bytes.word_of.Goals as goal

pub returns : goal.returns
returns c = c.from_le_bytes.ensures ∙ value_of_four _ (search rules)

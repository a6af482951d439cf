-- The bytes that a write sends, in their places of a line.
use Rattle.std.specs.Prelude.{ℕ, List, replicate}
use Rattle.std.proofs.lemmas.List.Edits.{sets}

abbrev pub sent_line : ℕ → List ℕ → List ℕ
sent_line from bytes = sets (replicate 16 0) from bytes

use Prim.Native.Nat.{◌+◌, ◌-◌}
use mathlib.Core.Path.{◌≡◌, sym, ◌∙◌, ap}
use native.Mathlib.Omega.{arith}
use Rattle.words.specs.Bytes.{bytes_at, value_of}
use Rattle.words.proofs.Moves.{bytes_taken}
use Rattle.words.proofs.Parts.{word_of_all}
use Rattle.words.proofs.bytes.word_at.Goals as goal

pub returns : goal.returns
returns c =
    let at = c.args.at in
    let chunk = rw c.unwrap.ensures at c.try_into.ensures in
    let four : at + 4 - at ≡ 4 = omega arith in
    let lanes : c.unwrap.result ≡ bytes_at c.args.src.now at 4 = chunk.1.same ∙ rw four (bytes_taken _ at 4 c.requires) in
    c.word_of.ensures ∙ ap value_of lanes ∙ sym (word_of_all c.args.src.now at)

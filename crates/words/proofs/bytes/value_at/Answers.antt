use borrow.Author.Rules.{rules}
use Prim.Native.Nat.{◌+◌, ◌*◌, ◌/◌, ◌%◌}
use mathlib.Core.Path.{◌≡◌, sym}
use native.Mathlib.Omega.{arith}
use Rattle.words.proofs.Parts.{value_in_lanes, word_of_all}
use Rattle.words.proofs.bytes.value_at.Goals as goal

pub returns : goal.returns
returns c =
    let a = c.args in
    let e : a.at / 4 * 4 + a.at % 4 ≡ a.at = omega arith in
    rw (c.lanes_value.ensures, c.word_at.ensures, word_of_all a.src.now (a.at / 4 * 4))
    (sym (rw e at (value_in_lanes a.src.now (search rules) (a.at / 4 * 4) (a.at % 4) a.count c.requires.1)))

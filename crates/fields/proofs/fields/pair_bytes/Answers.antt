use Rattle.fields.proofs.Pairs.{pair_next, pair_none, pairs_length}
use lib.ListN.{length-set}
use mathlib.Core.Path.{sym, ◌∙◌}
use native.Mathlib.Omega.{arith}
use Rattle.fields.proofs.fields.pair_bytes.Goals as goal

pub loop-k-preserved : goal.loop-k-preserved
loop-k-preserved c =
    let l = c.loop-k in
    (length-set l.bytes _ _ ∙ l.invariant.0, pair_next l.bytes c.args.field.now l.k _ _ (omega arith) c.hex_of.ensures.0 c.hex_of-in-loop-k.ensures.0 ∙ l.invariant.1)

pub returns : goal.returns
returns c = (sym (pairs_length _), sym (pair_none c.loop-k.bytes c.args.field.now c.loop-k.k (omega arith)) ∙ c.loop-k.invariant.1)

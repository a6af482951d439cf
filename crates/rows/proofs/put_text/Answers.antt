use Rattle.std.proofs.Common.{refl, ap, arith, ◌∙◌}
use lib.ListN.{length, length-set, drop_of_length-le}
use Rattle.rows.proofs.Printing.{text_next}
use Rattle.rows.proofs.put_text.Goals as goal

pub loop-k-preserved : goal.loop-k-preserved
loop-k-preserved c =
    let l = c.loop-k in
    (ap length c.put.ensures ∙ length-set l.out _ _ ∙ l.invariant.0, rw c.put.ensures (text_next l.out c.args.text.now c.args.at l.k (omega arith)) ∙ l.invariant.1)

pub returns : goal.returns
returns c = (refl, rw (drop_of_length-le c.args.text.now {i = c.loop-k.k} (omega arith)) at c.loop-k.invariant.1)

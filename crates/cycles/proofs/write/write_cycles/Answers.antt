use Prim.Native.Nat.{◌%◌}
use native.Mathlib.Omega.{arith}
use Rattle.cycles.proofs.Records.{write_made, write_whole}
use Rattle.cycles.proofs.write.write_cycles.Goals as goal

pub returns-then-answers-eq0 : goal.returns-then-answers-eq0
returns-then-answers-eq0 c =
    let p = c.requires in
    let a = c.args in
    let flags = rw c.from.ensures at (c.flags_of-flags.ensures (a.from % 4) a.count p.1 c.lanes_mask.ensures.0) in (
      write_whole a.from a.count a.word p.1 p.2 p.3 p.0 a.line a.answers.now (omega (arith, p.4)) c.if-answers-eq0.true
          a.first a.log.now _ flags c.put_record.ensures,
      omega arith,
      omega arith,
    )

pub returns : goal.returns
returns c =
    let p = c.requires in
    let a = c.args in
    let e = rw c.unchecked.ensures at c.sized_cycles.ensures in
    (write_made a.from a.count a.word p.1 p.2 p.3 p.0 a.line _ _ _ _ _ _ e.0, e.1, e.2)

use Prim.Native.Nat.{◌%◌}
use mathlib.Core.Path.{refl}
use native.Mathlib.Omega.{arith}
use Rattle.bus.specs.Record.{plain_kind}
use Rattle.parts.proofs.Records.{part_whole}
use Rattle.cycles.proofs.Records.{read_alone_lem}
use Rattle.cycles.proofs.plain.plain_cycles.Goals as goal

pub returns-then-answers-eq0 : goal.returns-then-answers-eq0
returns-then-answers-eq0 c =
    let p = c.requires in
    let a = c.args in
    let put = rw c.read-doubleword.ensures at (c.put.ensures (a.from % 4) a.count p.1 c.lanes_mask.ensures.0) in
    let made = part_whole _ (a.from % 4) a.count p.1 a.answers.now (omega (arith, p.2)) c.if-answers-eq0.true a.first a.log.now _ put in (
      read_alone_lem plain_kind a.ram.now a.parity.now a.line a.from a.count _
          (λ i. omega (arith, c.type_inv.ram i)) p.4.aligned p.0 p.1 refl _ _ _ _ _ _ made,
      omega arith,
      omega arith,
    )

pub returns : goal.returns
returns c =
    let p = c.requires in
    let a = c.args in
    let e = c.sized_cycles.ensures in
    let made = rw c.read-doubleword.ensures at e.0 in (
      read_alone_lem plain_kind a.ram.now a.parity.now a.line a.from a.count _
          (λ i. omega (arith, c.type_inv.ram i)) p.4.aligned p.0 p.1 refl _ _ _ _ _ _ made,
      e.1,
      e.2,
    )

use Rattle.bus.specs.Record.{kind_flag}
use Rattle.carrying.proofs.Moved.{moved_record}
use Prim.Native.Nat.{◌%◌}
use mathlib.Core.Path.{refl}
use native.Mathlib.Omega.{arith}
use Rattle.carrying.proofs.cycle.Brought.move_bytes.Goals as goal

pub returns : goal.returns
returns c =
    let a = c.args in
    let p = c.requires in
    record {
      logs = moved_record a.ram.now a.parity.now a.line a.from a.count (kind_flag a.kind) a.last a.place a.log.now (λ i. omega (
        arith,
        c.type_inv.ram i,
      )) p.0 p.4 p.5 _ c.read-doubleword.ensures (c.put.ensures (a.from % 4) a.count p.5 c.lanes_mask.ensures.0);
      buffers = c.copy_bytes.ensures;
      makes = refl;
      same = refl;
      spoils = refl;
    }

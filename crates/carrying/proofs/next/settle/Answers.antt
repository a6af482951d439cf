use Rattle.ways.specs.Address.{set_of}
use Rattle.ways.specs.Ways.{victim_in}
use Rattle.carrying.proofs.Settled.{kept_settled, not_settled}
use Rattle.ways.proofs.FourWays.{victim_below}
use native.Mathlib.Omega.{arith}
use Rattle.carrying.proofs.next.settle.Goals as goal

pub data_offset-offset-requires : goal.data_offset-offset-requires
data_offset-offset-requires c = rw c.victim-way.ensures (victim_below _ _ _)

pub copy_line-requires : goal.copy_line-requires
copy_line-requires c = (omega arith, omega (arith, c.data_offset-offset.ensures.1, c.requires.0))

pub returns-then-kept : goal.returns-then-kept
returns-then-kept c =
    let a = c.args in
    kept_settled a.read.found (victim_in a.valid.now a.lru.now (set_of a.read.line)) a.read.line a.read.buffer a.«data».now _ _ _ c.if-kept.true (rw c.set_of.ensures at c.victim-way.ensures) (victim_below _ _ _) c.data_offset-offset.ensures.0 c.copy_line.ensures

pub returns : goal.returns
returns c =
    let a = c.args in
    not_settled a.read.found (victim_in a.valid.now a.lru.now (set_of a.read.line)) a.read.line a.read.buffer a.«data».now _ c.if-kept.false
    c.use_of.ensures c.requires.1

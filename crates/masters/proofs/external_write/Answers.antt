use native.Mathlib.Omega.{arith}
use Rattle.memory.specs.Parity.{memory}
use Rattle.refusal.specs.Call.{state}
use Rattle.masters.proofs.External.{refused_by, done_by, placed_by}
use Rattle.masters.proofs.external_write.Goals as goal

pub returns-in-Err : goal.returns-in-Err
returns-in-Err c array =
    let a = c.args in
    rw (c.answered.ensures, c.number.ensures)
    (refused_by (state a.given (memory a.ram.now a.parity.now) array) a.address a.bytes.now _ c.in-Err.ensures)

pub put_bytes-requires : goal.put_bytes-requires
put_bytes-requires c =
    let g = placed_by _ _ _ _ _ c.in_default.ensures in
    (g.1.line, g.1.inside, omega (arith, g.0.bits, g.0.whole, g.1.inside))

pub returns : goal.returns
returns c array =
    let a = c.args in
    rw c.answered-2.ensures
    (done_by (state a.given (memory a.ram.now a.parity.now) array) a.address a.bytes.now c.in_default.ensures
    _ _ c.snooped.ensures c.put_bytes.ensures)

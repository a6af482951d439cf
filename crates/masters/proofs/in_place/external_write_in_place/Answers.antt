use native.Mathlib.Omega.{arith}
use Rattle.numbers.proofs.Refused.{passed_on}
use Rattle.ranges.specs.Ranges.{kept_ranges}
use Rattle.directory.specs.Steps.{directory_of}
use Rattle.memory.specs.Parity.{memory}
use Rattle.refusal.specs.Call.{state}
use Rattle.masters.proofs.External.{refused_by, done_by, placed_by}
use Rattle.masters.proofs.in_place.external_write_in_place.Goals as goal

pub returns-in_err-external_write_number : goal.returns-in_err-external_write_number
returns-in_err-external_write_number c cd array =
    let a = c.args in
    let d = directory_of a.tags.now a.valid.now a.lru.now cd a.nw (kept_ranges a.ranges) in
    rw (passed_on _ _ c.from_residual.ensures.1)
    (refused_by (state d (memory a.ram.now a.parity.now) array) a.address a.bytes.now _ c.in_err-external_write_number.ensures)

pub put_bytes-requires : goal.put_bytes-requires
put_bytes-requires c =
    let g = placed_by _ _ _ _ _ c.in_ok-external_write_number.ensures in
    (g.1.line, g.1.inside, omega (arith, g.0.bits, g.0.whole, g.1.inside))

pub returns : goal.returns
returns c cd array =
    let a = c.args in
    let ranges = kept_ranges a.ranges in
    let d = directory_of a.tags.now a.valid.now a.lru.now cd a.nw ranges in
    done_by (state d (memory a.ram.now a.parity.now) array) a.address a.bytes.now c.in_ok-external_write_number.ensures
    _ _ (c.invalidate_in_place.ensures _ cd ranges) c.put_bytes.ensures

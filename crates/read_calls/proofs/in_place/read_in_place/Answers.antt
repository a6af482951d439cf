use Rattle.access.proofs.Calls.{read_turned, ranges_apart}
use Rattle.numbers.proofs.Refused.{numbered}
use Rattle.memory.specs.Parity.{memory}
use Rattle.ranges.specs.Ranges.{kept_ranges}
use Rattle.directory.specs.Steps.{directory_of}
use mathlib.Core.Path.{sym}
use mathlib.Core.Bool.{true}
use Rattle.read_calls.proofs.in_place.read_in_place.Goals as goal

pub returns-in-Err : goal.returns-in-Err
returns-in-Err c nw =
    let a = c.args in
    rw (c.number_only.ensures, c.number.ensures)
    (read_turned (directory_of a.tags.now a.valid.now a.lru.now a.cd nw (kept_ranges a.ranges)) (memory a.ram.now a.parity.now) a.«data».now a.address a.width a.answers.now a.log.now
    a.pcd _ c.in-Err.ensures (numbered _))

pub read_accepted-requires : goal.read_accepted-requires
read_accepted-requires c =
    let a = c.args in
    (ranges_apart (directory_of a.tags.now a.valid.now a.lru.now a.cd true (kept_ranges a.ranges)) (memory a.ram.now a.parity.now) a.«data».now
    a.address a.width a.answers.now a.log.now (sym c.in-Ok.ensures)).1

pub returns-in-Ok : goal.returns-in-Ok
returns-in-Ok c nw =
    let a = c.args in
    c.read_accepted.ensures nw _
    (ranges_apart (directory_of a.tags.now a.valid.now a.lru.now a.cd true (kept_ranges a.ranges)) (memory a.ram.now a.parity.now) a.«data».now
    a.address a.width a.answers.now a.log.now (sym c.in-Ok.ensures)).0

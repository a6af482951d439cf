use Rattle.numbers.proofs.Refused.{numbered}
use Rattle.access.proofs.Calls.{write_turned}
use Rattle.memory.specs.Parity.{memory}
use Rattle.ranges.specs.Ranges.{kept_ranges}
use Rattle.directory.specs.Steps.{directory_of}
use Rattle.write_calls.proofs.in_place.write_in_place.Goals as goal

pub returns-in-Err : goal.returns-in-Err
returns-in-Err c =
    let a = c.args in
    rw (c.number_only.ensures, c.number.ensures)
    (write_turned (directory_of a.tags.now a.valid.now a.lru.now a.cd a.nw (kept_ranges a.ranges)) (memory a.ram.now a.parity.now) a.«data».now a.address a.width a.answers.now a.log.now
    a.value _ c.in-Err.ensures (numbered _))

use native.Mathlib.Omega.{arith}
use mathlib.Core.Path.{◌∙◌}
use Rattle.memory.specs.Parity.{memory}
use Rattle.ranges.specs.Ranges.{kept_ranges}
use Rattle.directory.specs.Steps.{directory_of}
use Rattle.doubleword.proofs.Cursors.{cursor_less, cursor_next}
use Rattle.carrying_calls.proofs.CarryingLoop.{carry_few, carry_begin, carry_made, kept_writes, kept_needs, end_needs, part_fits, kept_next}
use Rattle.carrying_calls.proofs.in_place.read_accepted.Goals as goal

pub taken_writes-taken-requires : goal.taken_writes-taken-requires
taken_writes-taken-requires c =
    let a = c.args in
    carry_few (directory_of a.tags.now a.valid.now a.lru.now a.cd a.nw (kept_ranges a.ranges)) (memory a.ram.now a.parity.now)
    a.«data».now a.address a.width a.answers.now a.log.now a.pcd a.carried c.requires

pub loop-cursor-init : goal.loop-cursor-init
loop-cursor-init c =
    let a = c.args in
    rw c.begin-cursor.ensures (carry_begin (directory_of a.tags.now a.valid.now a.lru.now a.cd a.nw (kept_ranges a.ranges)) (memory a.ram.now a.parity.now)
    a.«data».now a.address a.width a.answers.now a.log.now a.pcd a.carried c.requires _ c.taken_writes-taken.ensures.2)

pub carried_next-read-requires : goal.carried_next-read-requires
carried_next-read-requires c = (c.loop-cursor-test.true, kept_needs c.loop-cursor.invariant c.loop-cursor-test.true, kept_writes c.loop-cursor.invariant, c.loop-cursor.invariant.within, c.loop-cursor.invariant.none)

pub end_in_place-requires : goal.end_in_place-requires
end_in_place-requires c =
    let a = c.args in
    end_needs a.pcd a.answers.now c.taken_writes-taken.result c.loop-cursor.cursor (directory_of c.loop-cursor.tags c.loop-cursor.valid c.loop-cursor.lru a.cd
    a.nw (kept_ranges a.ranges)) _ _ _ c.loop-cursor.landed c.loop-cursor.invariant.none c.carried_next-read.ensures (kept_writes c.loop-cursor.invariant) (kept_needs
    c.loop-cursor.invariant c.loop-cursor-test.true).array_length

pub with_part-value-requires : goal.with_part-value-requires
with_part-value-requires c = part_fits c.loop-cursor.invariant c.loop-cursor-test.true c.carried_next-read.ensures

pub next-cursor-requires : goal.next-cursor-requires
next-cursor-requires c = cursor_next _ _ _ _ _ _ _ _ c.carried_next-read.ensures.counts c.carried_next-read.ensures.most c.loop-cursor.invariant.needs

pub loop-cursor-smaller : goal.loop-cursor-smaller
loop-cursor-smaller c = cursor_less _ _ _ _ c.loop-cursor-test.true c.carried_next-read.ensures.counts c.next-cursor.ensures

pub loop-cursor-preserved : goal.loop-cursor-preserved
loop-cursor-preserved c =
    kept_next c.loop-cursor.invariant c.loop-cursor-test.true c.carried_next-read.ensures (c.end_in_place.ensures _ _) _ _
    c.with_part-value.ensures c.next-cursor.ensures c.carried_next-read.auto.ram c.carried_next-read.auto.parity
    c.end_in_place.auto.data c.carried_next-read.auto.log

pub land-requires : goal.land-requires
land-requires c = (omega (arith, c.loop-cursor.invariant.within), omega (arith, c.loop-cursor.invariant.within), kept_writes c.loop-cursor.invariant)

pub snoop_in_place-requires : goal.snoop_in_place-requires
snoop_in_place-requires c = (omega (arith, c.loop-cursor.invariant.within), omega (arith, c.loop-cursor.invariant.within), c.loop-cursor.invariant.writes.few)

pub overflow_cast-result : goal.overflow_cast-result
overflow_cast-result c = omega (arith, c.loop-cursor.invariant.needs.made, c.loop-cursor.invariant.needs.last)

pub shape_of-ram : goal.shape_of-ram
shape_of-ram c = c.land.auto.ram ∙ c.loop-cursor.invariant.rams

pub shape_of-parity : goal.shape_of-parity
shape_of-parity c = c.land.auto.parity ∙ c.loop-cursor.invariant.parities

pub shape_of-data : goal.shape_of-data
shape_of-data c = c.loop-cursor.invariant.arrays

pub shape_of-log : goal.shape_of-log
shape_of-log c = c.loop-cursor.invariant.logs

pub returns : goal.returns
returns c =
    let a = c.args in
    carry_made (directory_of a.tags.now a.valid.now a.lru.now a.cd a.nw (kept_ranges a.ranges)) (memory a.ram.now a.parity.now) a.«data».now a.address
    a.width a.answers.now a.log.now a.pcd a.carried c.requires _ c.taken_writes-taken.ensures.1 c.loop-cursor.invariant (omega (arith, c.loop-cursor-test.false)) _ _ (c.snoop_in_place.ensures _ _ _)
    c.land.ensures

use Rattle.access.proofs.Calls.{write_begin, write_made}
use Rattle.access.proofs.WriteLoop.{kept_needs, kept_next}
use Rattle.access.specs.Access.{write_one}
use Rattle.doubleword.proofs.Cursors.{cursor_less, cursor_next}
use Rattle.writing.proofs.WriteDoublewords.{write_no_fill}
use Rattle.memory.specs.Parity.{memory}
use Rattle.ranges.specs.Ranges.{kept_ranges}
use Rattle.directory.specs.Steps.{directory_of}
use native.Mathlib.Omega.{arith}
use Rattle.write_calls.proofs.in_place.write_accepted.Goals as goal

pub loop-cursor-init : goal.loop-cursor-init
loop-cursor-init c =
    let a = c.args in
    rw c.begin-cursor.ensures
    (write_begin (directory_of a.tags.now a.valid.now a.lru.now a.cd a.nw (kept_ranges a.ranges)) (memory a.ram.now a.parity.now) a.«data».now
    a.address a.width a.answers.now a.log.now a.value c.requires)

pub write_next-next-requires : goal.write_next-next-requires
write_next-next-requires c = (c.loop-cursor-test.true, kept_needs c.loop-cursor.invariant c.loop-cursor-test.true)

pub change_lru_in_place-requires : goal.change_lru_in_place-requires
change_lru_in_place-requires c =
    let w = c.write_next-next.ensures.writes in
    (w.below, rw w.changes (write_no_fill _ _ _ _ _ _ _))

pub next-cursor-requires : goal.next-cursor-requires
next-cursor-requires c =
    let r = c.write_next-next.ensures in
    cursor_next _ _ _ _ _ _ _ _ r.counts r.writes.most c.loop-cursor.invariant.needs

pub loop-cursor-smaller : goal.loop-cursor-smaller
loop-cursor-smaller c = cursor_less _ _ _ _ c.loop-cursor-test.true c.write_next-next.ensures.counts c.next-cursor.ensures

pub loop-cursor-preserved : goal.loop-cursor-preserved
unfolding write_one
loop-cursor-preserved c =
    let r = c.write_next-next.ensures in
    kept_next c.loop-cursor.invariant c.loop-cursor-test.true r.writes _ _ r.line r.counts _ _ (c.change_lru_in_place.ensures _ _ _ _ _)
    c.next-cursor.ensures c.write_next-next.auto.ram c.write_next-next.auto.parity c.write_next-next.auto.data c.write_next-next.auto.log

pub overflow_cast-result : goal.overflow_cast-result
overflow_cast-result c = omega (arith, c.loop-cursor.invariant.needs.made, c.loop-cursor.invariant.needs.last)

pub shape_of-ram : goal.shape_of-ram
shape_of-ram c = c.loop-cursor.invariant.rams

pub shape_of-parity : goal.shape_of-parity
shape_of-parity c = c.loop-cursor.invariant.parities

pub shape_of-data : goal.shape_of-data
shape_of-data c = c.loop-cursor.invariant.arrays

pub shape_of-log : goal.shape_of-log
shape_of-log c = c.loop-cursor.invariant.logs

pub returns : goal.returns
returns c =
    let a = c.args in
    write_made (directory_of a.tags.now a.valid.now a.lru.now a.cd a.nw (kept_ranges a.ranges)) (memory a.ram.now a.parity.now) a.«data».now
    a.address a.width a.answers.now a.log.now a.value c.requires _ _ _ _ _ (omega arith) c.loop-cursor.invariant.writing

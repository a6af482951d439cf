use Rattle.access.proofs.Calls.{read_begin, read_made, ranges_among}
use Rattle.access.proofs.ReadLoop.{kept_needs, part_fits, kept_next}
use Rattle.access.proofs.Alone.{one_alone}
use Rattle.doubleword.proofs.Cursors.{cursor_less, cursor_next}
use Rattle.memory.specs.Parity.{memory}
use Rattle.directory.specs.Steps.{directory_of, no_ranges}
use mathlib.Core.Bool.{true}
use native.Mathlib.Omega.{arith}
use Rattle.read_calls.proofs.in_place.read_accepted.Goals as goal

pub loop-cursor-init : goal.loop-cursor-init
loop-cursor-init c =
    let a = c.args in
    rw c.begin-cursor.ensures
    (λ nw ranges. read_begin (directory_of a.tags.now a.valid.now a.lru.now a.cd nw ranges) (memory a.ram.now a.parity.now) a.«data».now
    a.address a.width a.answers.now a.log.now a.pcd _ c.requires)

pub read_next-next-requires : goal.read_next-next-requires
read_next-next-requires c = (c.loop-cursor-test.true, kept_needs (c.loop-cursor.invariant true no_ranges) c.loop-cursor-test.true)

pub change_in_place-requires : goal.change_in_place-requires
change_in_place-requires c = c.read_next-next.ensures.reads.below

pub with_part-value-requires : goal.with_part-value-requires
unfolding one_alone
with_part-value-requires c = part_fits (c.loop-cursor.invariant true no_ranges) c.loop-cursor-test.true c.read_next-next.ensures.reads

pub next-cursor-requires : goal.next-cursor-requires
next-cursor-requires c = cursor_next _ _ _ _ _ _ _ _ c.read_next-next.ensures.counts c.read_next-next.ensures.reads.most (c.loop-cursor.invariant true no_ranges).needs

pub loop-cursor-smaller : goal.loop-cursor-smaller
loop-cursor-smaller c = cursor_less _ _ _ _ c.loop-cursor-test.true c.read_next-next.ensures.counts c.next-cursor.ensures

pub loop-cursor-preserved : goal.loop-cursor-preserved
unfolding one_alone
loop-cursor-preserved c nw ranges =
    let r = c.read_next-next.ensures in
    kept_next (c.loop-cursor.invariant nw ranges) c.loop-cursor-test.true r.reads _ _ r.line r.counts _ _ _
    (c.change_in_place.ensures _ nw ranges) c.with_part-value.ensures c.next-cursor.ensures c.read_next-next.auto.data
    c.read_next-next.auto.log

pub overflow_cast-result : goal.overflow_cast-result
overflow_cast-result c = omega (arith, (c.loop-cursor.invariant true no_ranges).needs.made, (c.loop-cursor.invariant true no_ranges).needs.last)

pub shape_of-data : goal.shape_of-data
shape_of-data c = (c.loop-cursor.invariant true no_ranges).arrays

pub shape_of-log : goal.shape_of-log
shape_of-log c = (c.loop-cursor.invariant true no_ranges).logs

pub returns : goal.returns
returns c nw ranges k =
    let a = c.args in
    let d = directory_of a.tags.now a.valid.now a.lru.now a.cd nw ranges in
    let m = memory a.ram.now a.parity.now in
    read_made d m a.«data».now a.address a.width a.answers.now a.log.now a.pcd
    (ranges_among d m a.«data».now a.address a.width a.answers.now a.log.now k c.requires) _ _ _ _ _ (omega arith)
    (c.loop-cursor.invariant nw ranges).reading

use Rattle.carrying.proofs.Doublewords.{miss_needs, hit_next, plain_next, fill_next}
use Rattle.doubleword.proofs.Cursors.{cursor_doubleword}
use Rattle.ways.proofs.FourWays.{lookup_below}
use Rattle.doubleword.specs.Cursor.{group_at}
use Rattle.memory.specs.Parity.{memory}
use mathlib.Core.Path.{refl, sym}
use native.Mathlib.Omega.{arith}
use Rattle.carrying.proofs.next.carried_next.Goals as goal

pub hit_read-requires : goal.hit_read-requires
hit_read-requires c =
    let p = c.requires in
    let z = cursor_doubleword _ _ _ _ _ _ _ _ _ p.0 c.wanted-w.ensures p.1 refl c.group_of-group.ensures.1 in
    (lookup_below _ _ _ _ (sym c.in-Some.ensures), p.1.array_length, z.some, z.lanes, z.line)

pub returns-in-Some : goal.returns-in-Some
returns-in-Some c =
    let p = c.requires in
    let a = c.args in
    let r = c.hit_read.ensures in
    hit_next a.cursor a.answers.now a.carried a.landed (memory a.ram.now a.parity.now) a.«data».now a.log.now a.may_fill _ _ c.wanted-w.ensures _ _ _ (sym (rw c.wanted-w.ensures at c.in-Some.ensures)) p.4 p.3 r.0 r.1 r.2

pub bounds-group-0 : goal.bounds-group-0
bounds-group-0 c = omega (arith, c.group_of-group.ensures.1)

pub plain_miss-plain-requires : goal.plain_miss-plain-requires
plain_miss-plain-requires c =
    let p = c.requires in
    let z = cursor_doubleword _ _ _ _ _ _ _ _ _ p.0 c.wanted-w.ensures p.1 refl c.group_of-group.ensures.1 in
    (miss_needs _ _ _ _ _ _ z _ _ p.2 p.3 p.4, refl, z.some, z.lanes, z.line)

pub miss_read-requires : goal.miss_read-requires
miss_read-requires c =
    let p = c.requires in
    let z = cursor_doubleword _ _ _ _ _ _ _ _ _ p.0 c.wanted-w.ensures p.1 refl c.group_of-group.ensures.1 in
    (z.some, z.lanes, z.line)

pub returns-then-not-may_fill-group : goal.returns-then-not-may_fill-group
returns-then-not-may_fill-group c =
    let p = c.requires in
    let a = c.args in
    let g = c.group_of-group.ensures in
    let r = c.miss_read.ensures in
    let k = c.plain_miss-plain.ensures in
    plain_next a.cursor a.answers.now a.carried a.landed (memory a.ram.now a.parity.now) a.«data».now a.log.now a.may_fill _ _ c.wanted-w.ensures (sym (rw c.wanted-w.ensures at c.in_default.ensures)) (group_at a.cursor a.answers.now) _ _
    _ _ _ _ r.0 r.1 r.2 k.1 _ g.0 c.if-not-may_fill-group.true refl k.0

pub fill_miss-fill-requires : goal.fill_miss-fill-requires
fill_miss-fill-requires c =
    let p = c.requires in
    let z = cursor_doubleword _ _ _ _ _ _ _ _ _ p.0 c.wanted-w.ensures p.1 refl c.group_of-group.ensures.1 in
    (miss_needs _ _ _ _ _ _ z _ _ p.2 p.3 p.4, refl, omega (arith, z.line))

pub overflow_sub-last : goal.overflow_sub-last
overflow_sub-last c = omega (arith, c.fill_miss-fill.ensures.1)

pub bounds-group-fill : goal.bounds-group-fill
bounds-group-fill c = omega (arith, c.fill_miss-fill.ensures.1, c.fill_miss-fill.ensures.2, c.group_of-group.ensures.1)

pub miss_read-requires-2 : goal.miss_read-requires-2
miss_read-requires-2 c =
    let p = c.requires in
    let z = cursor_doubleword _ _ _ _ _ _ _ _ _ p.0 c.wanted-w.ensures p.1 refl c.group_of-group.ensures.1 in
    (z.some, z.lanes, z.line)

pub returns : goal.returns
returns c =
    let p = c.requires in
    let a = c.args in
    let g = c.group_of-group.ensures in
    let r = c.miss_read-2.ensures in
    let k = c.fill_miss-fill.ensures in
    fill_next a.cursor a.answers.now a.carried a.landed (memory a.ram.now a.parity.now) a.«data».now a.log.now a.may_fill _ _ c.wanted-w.ensures (sym (rw c.wanted-w.ensures at c.in_default.ensures)) (group_at a.cursor a.answers.now) _ _
    _ _ _ _ r.0 r.1 r.2 k.2 _ g.0 c.if-not-may_fill-group.false k.0 k.1 refl

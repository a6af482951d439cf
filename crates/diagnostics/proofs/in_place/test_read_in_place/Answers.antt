use mathlib.Core.Path.{refl}
use native.Mathlib.Omega.{arith}
use Rattle.directory.specs.Steps.{directory_of}
use Rattle.numbers.proofs.Refused.{numbered}
use Rattle.diagnostics.proofs.Lines.{read_placed, read_refused, read_made}
use borrow.Author.Rules.{rules}
use Rattle.diagnostics.proofs.in_place.test_read_in_place.Goals as goal

pub returns-in-Err : goal.returns-in-Err
returns-in-Err c nw ranges =
    let a = c.args in
    rw c.number.ensures (read_refused (directory_of a.arrays.tags.now a.arrays.valid.now a.arrays.lru.now a.cd nw ranges) a.«data».now a.set a.way _
    c.in-Err.ensures (numbered _))

pub line_offset-requires : goal.line_offset-requires
line_offset-requires c =
    let p = read_placed _ _ c.args.set c.args.way _ c.in_default.ensures refl in (p.set_below, p.way_below)

pub copy_line-requires : goal.copy_line-requires
copy_line-requires c =
    let p = read_placed _ _ c.args.set c.args.way _ c.in_default.ensures refl in
    (rw p.whole c.line_offset.ensures.1, search rules)

pub bounds-arrays-line : goal.bounds-arrays-line
bounds-arrays-line c = (read_placed _ _ c.args.set c.args.way _ c.in_default.ensures refl).index

pub bounds-arrays-line-2 : goal.bounds-arrays-line-2
bounds-arrays-line-2 c = (read_placed _ _ c.args.set c.args.way _ c.in_default.ensures refl).index

pub bounds-arrays-s : goal.bounds-arrays-s
bounds-arrays-s c =
    let p = read_placed _ _ c.args.set c.args.way _ c.in_default.ensures refl in omega arith

pub returns : goal.returns
returns c nw ranges =
    let a = c.args in
    read_made (directory_of a.arrays.tags.now a.arrays.valid.now a.arrays.lru.now a.cd nw ranges) a.«data».now a.set a.way _
    c.in_default.ensures refl _ c.line_offset.ensures.0 _ c.copy_line.ensures

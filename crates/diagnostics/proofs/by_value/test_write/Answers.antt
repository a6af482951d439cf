use mathlib.Core.Path.{◌≡◌, refl}
use lib.ListN.{length}
use Rattle.refusal.specs.Call.{state}
use Rattle.numbers.proofs.Refused.{numbered}
use Rattle.diagnostics.proofs.Lines.{write_placed, write_refused, write_made}
use borrow.Author.Rules.{rules}
use Rattle.diagnostics.proofs.by_value.test_write.Goals as goal

pub returns-in-Err : goal.returns-in-Err
returns-in-Err c m =
    let a = c.args in
    rw (c.answered.ensures, c.number.ensures)
    (write_refused (state a.given m a.«data».now) a.set a.way a.tag a.mark a.bytes _ c.in-Err.ensures (numbered _))

pub line_offset-requires : goal.line_offset-requires
line_offset-requires c =
    let p = write_placed _ _ c.args.set c.args.way c.args.tag _ c.in_default.ensures refl in
    (p.set_below, p.way_below)

pub copy_line-requires : goal.copy_line-requires
copy_line-requires c =
    let p = write_placed _ _ c.args.set c.args.way c.args.tag _ c.in_default.ensures refl in
    (search rules, rw p.whole c.line_offset.ensures.1)

pub with_line-requires : goal.with_line-requires
with_line-requires c =
    let p = write_placed _ _ c.args.set c.args.way c.args.tag _ c.in_default.ensures refl in
    (p.set_below, p.way_below)

pub returns : goal.returns
returns c m =
    let a = c.args in
    let whole : length a.bytes ≡ 16 = search rules in
    rw c.answered-2.ensures
    (write_made (state a.given m a.«data».now) a.set a.way a.tag a.mark a.bytes _
    c.in_default.ensures refl whole _ c.with_line.ensures
    _ c.line_offset.ensures.0 _ c.copy_line.ensures)

use mathlib.Core.Path.{◌≡◌, refl}
use lib.ListN.{length}
use Rattle.directory.specs.Steps.{directory_of}
use Rattle.refusal.specs.Call.{state}
use Rattle.numbers.proofs.Refused.{numbered, passed_on}
use Rattle.diagnostics.proofs.Lines.{write_placed, write_refused, write_made}
use borrow.Author.Rules.{rules}
use Rattle.diagnostics.proofs.in_place.test_write_in_place.Goals as goal

pub returns-in_err-test_write_number : goal.returns-in_err-test_write_number
returns-in_err-test_write_number c lru nw ranges m =
    let a = c.args in
    rw (passed_on _ _ c.from_residual.ensures.1) (write_refused (state (directory_of a.tags.now a.valid.now lru a.cd nw ranges) m a.«data».now) a.set a.way a.tag a.mark a.bytes.now _
    c.in_err-test_write_number.ensures (numbered _))

pub line_offset-requires : goal.line_offset-requires
line_offset-requires c =
    let p = write_placed _ _ c.args.set c.args.way c.args.tag _ c.in_ok-test_write_number.ensures refl in
    (p.set_below, p.way_below)

pub copy_line-requires : goal.copy_line-requires
copy_line-requires c =
    let p = write_placed _ _ c.args.set c.args.way c.args.tag _ c.in_ok-test_write_number.ensures refl in
    (search rules, rw p.whole c.line_offset.ensures.1)

pub line_in_place-requires : goal.line_in_place-requires
line_in_place-requires c =
    let p = write_placed _ _ c.args.set c.args.way c.args.tag _ c.in_ok-test_write_number.ensures refl in
    (p.set_below, p.way_below)

pub returns : goal.returns
returns c lru nw ranges m =
    let a = c.args in
    let whole : length a.bytes.now ≡ 16 = search rules in
    write_made (state (directory_of a.tags.now a.valid.now lru a.cd nw ranges) m a.«data».now) a.set a.way a.tag a.mark a.bytes.now _
    c.in_ok-test_write_number.ensures refl whole _ (c.line_in_place.ensures lru a.cd nw ranges)
    _ c.line_offset.ensures.0 _ c.copy_line.ensures

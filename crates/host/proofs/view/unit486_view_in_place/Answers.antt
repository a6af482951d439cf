use Prim.Native.Nat.{◌≤◌}
use mathlib.Core.Path.{◌≡◌, refl, ◌∙◌, ap}
use native.Mathlib.Omega.{arith}
use lib.ListN.{length}
use lib.Seq.{sets}
use Rattle.ranges.specs.Ranges.{lent_ranges}
use Rattle.views.specs.View.{view_in}
use Rattle.numbers.proofs.Refused.{numbered}
use Rattle.views.proofs.Viewing.{view_refused, input_0, view_made}
use Rattle.host.proofs.Copies.{line_copied}
use borrow.Author.Rules.{rules}
use Rattle.host.proofs.view.unit486_view_in_place.Goals as goal

pub returns-in-Err : goal.returns-in-Err
returns-in-Err c =
    let en = c.in-Err.ensures in
    (c.number.ensures ∙ en, ap (sets _ 0) (view_refused _ _ _ _ _ _ _ _ en (numbered _)))

pub accepted_view-part-requires : goal.accepted_view-part-requires
accepted_view-part-requires c = input_0 _ _ _ _ _ _ _ _ c.in_default.ensures refl

pub copy_line-requires : goal.copy_line-requires
copy_line-requires c =
    let room : 16 ≤ length c.args.shown.now = search rules in
    let a = c.args in
    let p : (c.accepted_view-part.result.now ≡ view_in a.tags.now a.valid.now a.lru.now (lent_ranges a.range_count a.bounds.now) a.ram.now a.«data».now a.address) × (length c.accepted_view-part.result.now ≡ 16) =
    view_made _ _ _ _ _ _ _ _ c.in_default.ensures refl _ c.accepted_view-part.ensures.0 in
    let whole = p.1 in
    (omega arith, room)

pub returns : goal.returns
returns c =
    let a = c.args in
    let p : (c.accepted_view-part.result.now ≡ view_in a.tags.now a.valid.now a.lru.now (lent_ranges a.range_count a.bounds.now) a.ram.now a.«data».now a.address) × (length c.accepted_view-part.result.now ≡ 16) =
    view_made _ _ _ _ _ _ _ _ c.in_default.ensures refl _ c.accepted_view-part.ensures.0 in
    (c.in_default.ensures, line_copied _ _ p.0 p.1 _ _ c.copy_line.ensures)

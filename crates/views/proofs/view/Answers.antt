use mathlib.Core.Path.{refl, ◌∙◌}
use Rattle.numbers.proofs.Refused.{numbered}
use Rattle.views.proofs.Viewing.{empty_at, view_refused, refused_at, input_0, view_made, made_at}
use Rattle.views.proofs.view.Goals as goal

pub returns-in-Err : goal.returns-in-Err
returns-in-Err c =
    let en = c.in-Err.ensures in
    let met = numbered _ in (
      view_refused _ _ _ _ _ _ _ _ en met,
      empty_at _ ∙ refused_at _ _ _ _ _ _ _ _ en _ _ met,
    )

pub accepted_view-requires : goal.accepted_view-requires
accepted_view-requires c = input_0 _ _ _ _ _ _ _ _ c.in-Ok.ensures refl

pub returns-in-Ok : goal.returns-in-Ok
returns-in-Ok c =
    let en = c.in-Ok.ensures in (
      (view_made _ _ _ _ _ _ _ _ en refl _ c.accepted_view.ensures.0).0,
      made_at _ _ _ _ _ _ _ _ en refl _ _ _ c.accepted_view.ensures.1,
    )

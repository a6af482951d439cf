use mathlib.Core.Path.{sym}
use Rattle.ways.proofs.FourWays.{lookup_below}
use Rattle.views.proofs.Viewing.{data_inside, line_inside, held_shown, held_at, missed_shown, missed_at}
use Rattle.views.proofs.accepted_view.Goals as goal

pub data_offset-requires : goal.data_offset-requires
data_offset-requires c = lookup_below _ _ _ _ (sym c.in-Some.ensures)

pub sixteen-requires : goal.sixteen-requires
sixteen-requires c = data_inside _ _ _ c.requires _ c.data_offset.ensures.1

pub sixteen-requires-in-None : goal.sixteen-requires-in-None
sixteen-requires-in-None c = line_inside _ _ _ c.requires

pub returns-in-Some : goal.returns-in-Some
returns-in-Some c =
    let at = sym c.in-Some.ensures in
    let offset = c.data_offset.ensures.0 in (
      held_shown _ _ _ at _ offset _ _ _ c.sixteen.ensures.0,
      held_at _ _ _ at _ offset _ _ _ c.sixteen.ensures.1,
    )

pub returns-in-None : goal.returns-in-None
returns-in-None c =
    let none = sym c.in-None.ensures in (
      missed_shown _ _ none _ _ _ c.sixteen-in-None.ensures.0,
      missed_at _ _ none _ _ _ c.sixteen-in-None.ensures.1,
    )

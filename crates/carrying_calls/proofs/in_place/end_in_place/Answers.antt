use Rattle.carrying_calls.proofs.CarryingLoop.{ended_by}
use Rattle.carrying_calls.proofs.in_place.end_in_place.Goals as goal

pub snoop_in_place-requires : goal.snoop_in_place-requires
snoop_in_place-requires c = (c.requires.above, c.requires.within, c.requires.few)

pub settle-change-requires : goal.settle-change-requires
settle-change-requires c = (c.requires.array_length, c.requires.below)

pub change_in_place-requires : goal.change_in_place-requires
change_in_place-requires c = c.settle-change.ensures.1

pub returns : goal.returns
returns c = λ cd ranges. ended_by _ _ (c.snoop_in_place.ensures _ cd ranges) c.settle-change.ensures.0 (c.change_in_place.ensures cd _ ranges) c.settle-change.ensures.2

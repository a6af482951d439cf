use Rattle.refusal.proofs.Accepted.{none_first}
use Rattle.refusal.proofs.state.own_number.Goals as goal

pub returns : goal.returns
returns c = none_first _ _ _ _ c.if-ranges-ne0.false c.states_number.ensures

use mathlib.Core.Path.{◌∙◌}
use Rattle.calls.specs.Calls.{step_by}
use Rattle.performing.proofs.Log.{own_log}
use Rattle.performing.proofs.perform_write.Goals as goal

pub returns : goal.returns
unfolding step_by
returns c = own_log _ _ _ _ (c.write_in_place.ensures ∙ rw c.board_answers-answers.ensures)

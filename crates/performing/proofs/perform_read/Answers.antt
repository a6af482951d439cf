use mathlib.Core.Path.{◌∙◌}
use Rattle.calls.specs.Calls.{step_by}
use Rattle.performing.proofs.Log.{own_log}
use Rattle.performing.proofs.perform_read.Goals as goal

pub returns : goal.returns
unfolding step_by
returns c nw = own_log _ _ _ _ (c.read_in_place.ensures nw ∙ rw c.board_answers-answers.ensures)

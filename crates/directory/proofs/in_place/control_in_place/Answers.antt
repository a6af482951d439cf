use mathlib.Core.Path.{refl}
use Rattle.numbers.proofs.Refused.{numbered, passed_on}
use Rattle.directory.specs.Steps.{after_control, directory_of}
use Rattle.directory.proofs.Laws.{control_refused_by, control_done_by}
use Rattle.directory.proofs.in_place.control_in_place.Goals as goal

pub returns-in_err-control_number : goal.returns-in_err-control_number
returns-in_err-control_number c tags valid lru ranges =
    let a = c.args in
    rw (passed_on _ _ c.from_residual.ensures.1)
    (control_refused_by (directory_of tags valid lru a.cd.now a.nw.now ranges) a.new_cd a.new_nw _ c.in_err-control_number.ensures (numbered _))

pub returns : goal.returns
unfolding after_control
returns c tags valid lru ranges =
    let a = c.args in
    control_done_by (directory_of tags valid lru a.cd.now a.nw.now ranges) a.new_cd a.new_nw _ c.in_ok-control_number.ensures refl

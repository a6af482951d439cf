use mathlib.Core.Path.{refl}
use Rattle.numbers.proofs.Refused.{numbered}
use Rattle.directory.proofs.Laws.{control_refused_by, control_done_by}
use Rattle.directory.proofs.steps.Directory.control.Goals as goal

pub returns-in-Err : goal.returns-in-Err
returns-in-Err c =
    let a = c.args in
    rw (c.answered.ensures, c.number.ensures) (control_refused_by a.self a.cd a.nw _ c.in-Err.ensures (numbered _))

pub returns : goal.returns
returns c =
    let a = c.args in
    rw (c.answered-2.ensures, c.with_control.ensures) (control_done_by a.self a.cd a.nw _ c.in_default.ensures refl)

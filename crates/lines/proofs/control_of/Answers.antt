use Rattle.std.proofs.Common.{sym, ◌∙◌}
use Rattle.lines.specs.Scan.{control_of, with}
use Rattle.lines.proofs.Forms.{control_more}
use Rattle.lines.proofs.control_of.Goals as goal

pub returns-in_err-cd : goal.returns-in_err-cd
unfolding control_of with
returns-in_err-cd c = c.from_residual-in_err-cd.ensures ∙ sym (control_more _ _ c.in_ok-end.ensures ∙ rw (← c.in_err-cd.ensures))

pub returns-in_err-nw : goal.returns-in_err-nw
unfolding control_of with
returns-in_err-nw c = c.from_residual-in_err-nw.ensures ∙ sym (control_more _ _ c.in_ok-end.ensures ∙ rw (← c.in_ok-cd.ensures, ← c.in_err-nw.ensures))

pub returns : goal.returns
unfolding control_of with
returns c = sym (control_more _ _ c.in_ok-end.ensures ∙ rw (← c.in_ok-cd.ensures, ← c.in_ok-nw.ensures))

use native.Mathlib.Omega.{arith}
use mathlib.Core.Path.{sym, ap, ◌∙◌}
use Rattle.std.specs.Prelude.{Some}
use Rattle.calls.specs.Calls.{step_by}
use Rattle.ranges.specs.Ranges.{kept_ranges}
use Rattle.refusal.specs.Call.{lent_state, on_directory}
use Rattle.directory.specs.declared.steps.Directory.{Directory}
use Rattle.directory.specs.Outcome.{outcome}
use Rattle.fields.proofs.Parts.{drop_part}
use Rattle.lines.proofs.Within.{external_line}
use Rattle.performing.specs.Perform.{call_of, call_done}
use Rattle.performing.proofs.perform_in_place.Goals as goal

pub slice_bounds-perform_external-start : goal.slice_bounds-perform_external-start
slice_bounds-perform_external-start c = omega (arith, external_line _ _ _ (sym c.in-Some.ensures ∙ ap Some c.in-External.is))

pub slice_bounds-perform_external-count : goal.slice_bounds-perform_external-count
slice_bounds-perform_external-count c = omega (arith, external_line _ _ _ (sym c.in-Some.ensures ∙ ap Some c.in-External.is))

pub perform_external-requires : goal.perform_external-requires
perform_external-requires c = omega (arith, external_line _ _ _ (sym c.in-Some.ensures ∙ ap Some c.in-External.is))

pub returns-in_default : goal.returns-in_default
unfolding call_done
returns-in_default c = rw (sym c.scan.ensures ∙ c.in_default.is, c.number_only.ensures)

pub returns-in-Read : goal.returns-in-Read
unfolding call_of call_done
returns-in-Read c = rw (sym c.in-Some.ensures ∙ ap Some c.in-Read.is) (c.perform_read.ensures _)

pub returns-in-Write : goal.returns-in-Write
unfolding call_of call_done
returns-in-Write c = rw (sym c.in-Some.ensures ∙ ap Some c.in-Write.is) c.perform_write.ensures

pub returns-in-External : goal.returns-in-External
unfolding call_of call_done
returns-in-External c =
    let a = c.args in
    rw (sym c.in-Some.ensures ∙ ap Some c.in-External.is) (rw drop_part at (c.perform_external.ensures a.cd.now a.«data».now))

pub returns-in-Snoop : goal.returns-in-Snoop
unfolding call_of call_done step_by
returns-in-Snoop c =
    let a = c.args in
    let s = lent_state a.tags.now a.valid.now a.lru.now a.cd.now a.nw.now (kept_ranges a.ranges) a.ram.now a.parity.now a.«data».now in
    rw (sym c.in-Some.ensures ∙ ap Some c.in-Snoop.is, c.number_only-in-Snoop.ensures, c.answer_of.ensures) (ap (on_directory s) (c.snoop_in_place.ensures _ _))

pub returns-in-Flush : goal.returns-in-Flush
unfolding call_of call_done step_by
returns-in-Flush c =
    let a = c.args in
    let s = lent_state a.tags.now a.valid.now a.lru.now a.cd.now a.nw.now (kept_ranges a.ranges) a.ram.now a.parity.now a.«data».now in
    rw (sym c.in-Some.ensures ∙ ap Some c.in-Flush.is, c.number_only-in-Flush.ensures) (ap (λ (d : Directory). on_directory s (outcome d 0 0 0)) (c.flush_in_place.ensures _ _ _ _))

pub returns-in-Control : goal.returns-in-Control
unfolding call_of call_done step_by
returns-in-Control c =
    let a = c.args in
    let s = lent_state a.tags.now a.valid.now a.lru.now a.cd.now a.nw.now (kept_ranges a.ranges) a.ram.now a.parity.now a.«data».now in
    rw (sym c.in-Some.ensures ∙ ap Some c.in-Control.is, c.number_only-in-Control.ensures, c.answer_of-in-Control.ensures) (ap (on_directory s) (c.control_in_place.ensures _ _ _ _))

pub returns-in-Reset : goal.returns-in-Reset
unfolding call_of call_done step_by
returns-in-Reset c =
    let a = c.args in
    let s = lent_state a.tags.now a.valid.now a.lru.now a.cd.now a.nw.now (kept_ranges a.ranges) a.ram.now a.parity.now a.«data».now in
    rw (sym c.in-Some.ensures ∙ ap Some c.in-Reset.is, c.number_only-in-Reset.ensures) (ap (λ (d : Directory). on_directory s (outcome d 0 0 0)) (c.reset_in_place.ensures _))

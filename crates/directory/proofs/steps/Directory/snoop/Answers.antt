use native.Mathlib.Omega.{arith}
use mathlib.Core.Path.{sym, ◌∙◌, ap}
use Rattle.ways.proofs.FourWays.{lookup_below}
use Rattle.directory.specs.Steps.{state_number_of, invalidated}
use Rattle.directory.proofs.Laws.{snoop_call_kept, snoop_call_done}
use Rattle.directory.proofs.steps.Directory.snoop.Goals as goal

pub overflow_add-line : goal.overflow_add-line
overflow_add-line c =
    let l = lookup_below _ _ _ _ (sym c.in-Some.ensures) in omega (arith, c.set_of-in-Some.ensures)

pub bounds-self-line : goal.bounds-self-line
bounds-self-line c =
    let l = lookup_below _ _ _ _ (sym c.in-Some.ensures) in omega (arith, c.set_of-in-Some.ensures)

pub returns-in-Some : goal.returns-in-Some
unfolding invalidated
returns-in-Some c =
    snoop_call_done _ _ _ (c.set_number-number.ensures ∙ ap (state_number_of c.args.self) c.set_of.ensures)
    c.if-number-self.true _ (rw (← c.in-Some.ensures, c.set_of-in-Some.ensures))

pub returns-in_default : goal.returns-in_default
unfolding invalidated
returns-in_default c =
    snoop_call_done _ _ _ (c.set_number-number.ensures ∙ ap (state_number_of c.args.self) c.set_of.ensures)
    c.if-number-self.true _ (rw (← c.in_default.ensures))

pub returns-else-number-self : goal.returns-else-number-self
returns-else-number-self c =
    snoop_call_kept _ _ _ (c.set_number-number.ensures ∙ ap (state_number_of c.args.self) c.set_of.ensures)
    c.if-number-self.false

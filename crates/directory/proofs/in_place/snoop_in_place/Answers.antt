use mathlib.Core.Path.{refl}
use Rattle.numbers.proofs.Refused.{numbered, passed_on}
use Rattle.directory.proofs.Lent.{snoop_refused_in_place, snoop_accepted_in_place}
use Rattle.directory.proofs.in_place.snoop_in_place.Goals as goal

pub returns-in_err-state_number : goal.returns-in_err-state_number
returns-in_err-state_number c cd ranges =
    rw (passed_on _ _ c.from_residual.ensures.1)
    (snoop_refused_in_place _ _ _ _ _ _ _ _ _ c.set_of.ensures c.in_err-state_number.ensures (numbered _))

pub returns : goal.returns
returns c cd ranges =
    snoop_accepted_in_place _ _ _ _ _ _ _ _ _ c.set_of.ensures c.in_ok-state_number.ensures refl _ (c.invalidate_in_place.ensures _ cd ranges)

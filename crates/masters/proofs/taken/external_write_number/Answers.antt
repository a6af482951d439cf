use native.Mathlib.Omega.{arith}
use mathlib.Core.Path.{sym}
use Rattle.refusal.proofs.Accepted.{external_accepted}
use Rattle.masters.proofs.taken.external_write_number.Goals as goal

pub overflow_cast-count : goal.overflow_cast-count
overflow_cast-count c =
    let g = external_accepted _ _ _ (sym c.in_ok-external_number.ensures) in
    omega (arith, g.most)

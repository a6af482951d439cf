use Rattle.reading.proofs.ReadDoublewords.{bytes_below}
use native.Mathlib.Omega.{arith}
use Rattle.carrying.proofs.next.number_at.Goals as goal

pub returns : goal.returns
returns c = (c.value_at.ensures, rw c.value_at.ensures (bytes_below _ (λ i. omega (arith, c.type_inv.src i)) _ _))

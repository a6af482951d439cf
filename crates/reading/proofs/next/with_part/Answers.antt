use Rattle.reading.proofs.ReadDoublewords.{part_above}
use native.Mathlib.Omega.{arith}
use mathlib.Core.Path.{refl}
use Rattle.reading.proofs.next.with_part.Goals as goal

pub overflow_add-result : goal.overflow_add-result
overflow_add-result c = omega (arith, part_above c.args.value c.args.place c.args.part _ c.requires.1 refl)

pub returns : goal.returns
returns c = part_above c.args.value c.args.place c.args.part _ c.requires.1 refl

use mathlib.Core.Path.{refl}
use Rattle.views.proofs.Viewing.{part_at, sixteen_bytes}
use Rattle.views.proofs.sixteen.Goals as goal

pub returns : goal.returns
returns c = (sixteen_bytes _ c.args.from _ refl c.requires, part_at _ c.args.from)

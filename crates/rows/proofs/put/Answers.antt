use mathlib.Core.Path.{sym}
use lib.Seq.{set_out}
use Rattle.rows.proofs.put.Goals as goal

pub returns-else-at-out : goal.returns-else-at-out
returns-else-at-out c = sym (set_out _ _ _ c.if-at-out.false)

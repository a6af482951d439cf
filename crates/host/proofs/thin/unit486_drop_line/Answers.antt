use Rattle.directory.proofs.Laws.{snoop_plain}
use Rattle.host.proofs.thin.unit486_drop_line.Goals as goal

pub returns : goal.returns
returns c = snoop_plain _ _ c.snoop-result.result c.snoop-result.ensures

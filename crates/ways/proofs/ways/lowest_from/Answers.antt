use borrow.Author.Rules.{rules}
use Rattle.ways.proofs.ways.lowest_from.Goals as goal

pub returns-else-test : goal.returns-else-test
returns-else-test c = (rw c.if-test.false, search rules)

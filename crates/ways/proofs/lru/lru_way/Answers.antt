use borrow.Author.Tests.{eq-eqb, ne_eqb}
use Rattle.ways.specs.Lru.{lru_way}
use Rattle.ways.proofs.lru.lru_way.Goals as goal

pub returns-then-lru-eq0 : goal.returns-then-lru-eq0
unfolding lru_way
returns-then-lru-eq0 c = rw (eq-eqb _ _ c.if-lru-eq0.true)

pub returns-else-lru-eq0 : goal.returns-else-lru-eq0
unfolding lru_way
returns-else-lru-eq0 c = rw (ne_eqb _ _ c.if-lru-eq0.false)

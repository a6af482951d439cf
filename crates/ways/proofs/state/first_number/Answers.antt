use borrow.Author.Tests.{lt-ltb, le-ltb}
use Rattle.ways.specs.State.{first_number}
use Rattle.ways.proofs.state.first_number.Goals as goal

pub returns-then-same : goal.returns-then-same
unfolding first_number
returns-then-same c = rw c.if-same.true

pub returns-then-above : goal.returns-then-above
unfolding first_number
returns-then-above c = rw (c.if-same.false, c.if-above.true)

pub returns-then-lru-gt7 : goal.returns-then-lru-gt7
unfolding first_number
returns-then-lru-gt7 c = rw (c.if-same.false, c.if-above.false, lt-ltb _ _ c.if-lru-gt7.true)

pub returns : goal.returns
unfolding first_number
returns c = rw (c.if-same.false, c.if-above.false, le-ltb _ _ c.if-lru-gt7.false)

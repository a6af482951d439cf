use native.Mathlib.Omega.{arith}
use borrow.Author.Rules.{rules}
use Rattle.rows.proofs.Decimal.{one_digit, more_digits}
use Rattle.rows.proofs.low_digit_count.Goals as goal

pub returns-then-n-lt10 : goal.returns-then-n-lt10
returns-then-n-lt10 c = (one_digit _ c.if-n-lt10.true, search rules)

pub returns-then-n-lt100 : goal.returns-then-n-lt100
returns-then-n-lt100 c = (more_digits 0 _ c.if-n-lt10.false c.if-n-lt100.true, search rules)

pub returns-then-n-lt1000 : goal.returns-then-n-lt1000
returns-then-n-lt1000 c = (more_digits 1 _ c.if-n-lt100.false c.if-n-lt1000.true, search rules)

pub returns-then-n-lt10000 : goal.returns-then-n-lt10000
returns-then-n-lt10000 c = (more_digits 2 _ c.if-n-lt1000.false c.if-n-lt10000.true, search rules)

pub returns-then-n-lt100000 : goal.returns-then-n-lt100000
returns-then-n-lt100000 c = (more_digits 3 _ c.if-n-lt10000.false c.if-n-lt100000.true, search rules)

pub returns-then-n-lt1000000 : goal.returns-then-n-lt1000000
returns-then-n-lt1000000 c = (more_digits 4 _ c.if-n-lt100000.false c.if-n-lt1000000.true, search rules)

pub returns-then-n-lt10000000 : goal.returns-then-n-lt10000000
returns-then-n-lt10000000 c = (more_digits 5 _ c.if-n-lt1000000.false c.if-n-lt10000000.true, search rules)

pub returns-then-n-lt100000000 : goal.returns-then-n-lt100000000
returns-then-n-lt100000000 c = (more_digits 6 _ c.if-n-lt10000000.false c.if-n-lt100000000.true, search rules)

pub returns-then-n-lt1000000000 : goal.returns-then-n-lt1000000000
returns-then-n-lt1000000000 c = (more_digits 7 _ c.if-n-lt100000000.false c.if-n-lt1000000000.true, search rules)

pub returns : goal.returns
returns c = (more_digits 8 _ c.if-n-lt1000000000.false (omega arith), search rules)

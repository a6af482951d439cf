use native.Mathlib.Omega.{arith}
use Rattle.rows.proofs.Decimal.{digits_before}
use Rattle.rows.proofs.digit_count.Goals as goal

pub returns : goal.returns
returns c = (omega (arith, digits_before 10 c.args.n c.if-n-lt10000000000.false, c.low_digit_count-2.ensures.0), omega arith)

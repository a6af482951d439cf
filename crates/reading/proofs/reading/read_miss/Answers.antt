use borrow.Author.Tests.{eq-eqb, ne_eqb}
use native.Mathlib.Omega.{arith}
use Rattle.ways.proofs.FourWays.{victim_below}
use Rattle.reading.proofs.ReadDoublewords.{plain_reads, dropped_reads, kept_reads, one_doubleword}
use Rattle.reading.proofs.reading.read_miss.Goals as goal

pub returns-then-not-may_fill-answers : goal.returns-then-not-may_fill-answers
returns-then-not-may_fill-answers c =
    let p = c.requires.0 in
    let r = c.plain_cycles-cycles.ensures in
    plain_reads _ _ _ _ _ _ _ (one_doubleword _ _ _ _ _ _ p)
    (omega (arith, p.served)) _ c.value_at-value.ensures (λ i. omega (arith, c.type_inv.ram i)) _ _ c.if-not-may_fill-answers.true
    r.0 r.2

pub returns-then-kept : goal.returns-then-kept
returns-then-kept c =
    let p = c.requires.0 in
    let r = c.fill_cycles-cycles.ensures in
    kept_reads _ _ _ _ _ _ _ (one_doubleword _ _ _ _ _ _ p)
    (omega (arith, p.served)) _ c.value_at-value.ensures (λ i. omega (arith, c.type_inv.ram i)) _ _
    c.if-not-may_fill-answers.false r.0 r.1 r.2 (eq-eqb _ _ c.if-kept.true) _ c.keep_line-way.ensures.0
    (rw c.keep_line-way.ensures.0 (victim_below _ _ _)) _ c.keep_line-way.ensures.1

pub returns : goal.returns
returns c =
    let p = c.requires.0 in
    let r = c.fill_cycles-cycles.ensures in
    dropped_reads _ _ _ _ _ _ _ (one_doubleword _ _ _ _ _ _ p)
    (omega (arith, p.served)) _ c.value_at-value.ensures (λ i. omega (arith, c.type_inv.ram i)) _ _
    c.if-not-may_fill-answers.false r.0 r.1 r.2 (ne_eqb _ _ c.if-kept.false)

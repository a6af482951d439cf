use Rattle.std.proofs.Common.{sym, ◌∙◌}
use borrow.Author.Tests.{eq-eqb, ne_eqb, lt-ltb, le-ltb}
use Rattle.block_table.specs.Load.{entry_with}
use Rattle.block_table.proofs.Entries.{entry_led}
use Rattle.block_table.proofs.entry_on.Goals as goal

pub returns-in_default-scan_number : goal.returns-in_default-scan_number
unfolding entry_with
returns-in_default-scan_number c = sym (entry_led _ _ _ _ c.in-Some.ensures.value ∙ rw (← c.in_default-scan_number.ensures.value))

pub returns-then-named-block : goal.returns-then-named-block
unfolding entry_with
returns-then-named-block c = sym (entry_led _ _ _ _ c.in-Some.ensures.value ∙ rw (← c.in-Some-scan_number.ensures.value, ne_eqb _ _ c.if-named-block.true))

pub returns-then-answer : goal.returns-then-answer
unfolding entry_with
returns-then-answer c =
    sym (entry_led _ _ _ _ c.in-Some.ensures.value ∙ rw (← c.in-Some-scan_number.ensures.value, eq-eqb _ _ c.if-named-block.false, lt-ltb _ _ c.if-answer.true))

pub returns : goal.returns
unfolding entry_with
returns c =
    sym (entry_led _ _ _ _ c.in-Some.ensures.value ∙ rw (← c.in-Some-scan_number.ensures.value, eq-eqb _ _ c.if-named-block.false, le-ltb _ _ c.if-answer.false))

use Rattle.std.proofs.Common.{arith, sym, eqb-true}
use Rattle.block_table.proofs.Loading.{load_next, load_done}
use Rattle.block_table.proofs.scan_table.Goals as goal

pub loop-block-preserved : goal.loop-block-preserved
loop-block-preserved c = load_next _ _ _ _ c.loop-block.invariant (omega arith) _ _ c.in-Some.ensures.lines _ c.in_ok-table.ensures

pub returns-then-is_empty : goal.returns-then-is_empty
returns-then-is_empty c = load_done _ _ _ _ c.loop-block.invariant (omega arith) (eqb-true _ _ (sym c.if-is_empty.ensures))

use Rattle.block_table.proofs.Loading.{LoadInvariant}
use Rattle.block_table.proofs.scan_table.Given as goal

abbrev pub invariant-loop-block : goal.invariant-loop-block
invariant-loop-block l = LoadInvariant l.text l.table l.rest l.block

use Rattle.std.proofs.Common.{arith}
use Rattle.bus.specs.Groups.{group_size}
use Rattle.board.proofs.Answers.{part_filled}
use Rattle.board.proofs.fill_group.Goals as goal

pub returns : goal.returns
returns c = part_filled _ _ _ _ group_size _ (omega arith) (omega arith) c.fill.ensures.len c.fill.ensures.clones_before_last c.fill.ensures.last

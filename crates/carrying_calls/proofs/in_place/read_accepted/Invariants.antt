use Rattle.memory.specs.Parity.{memory}
use Rattle.ranges.specs.declared.Ranges.{Ranges}
use Rattle.ranges.specs.Ranges.{kept_ranges}
use Rattle.directory.specs.Steps.{directory_of}
use Rattle.carrying_calls.proofs.CarryingLoop.{CarryKept, all_carried}
use Rattle.carrying_calls.proofs.in_place.read_accepted.Given as goal

abbrev pub invariant-loop-cursor : goal.invariant-loop-cursor
invariant-loop-cursor l = let ranges : Ranges = kept_ranges l.ranges in
    CarryKept l.pcd l.answers l.taken (all_carried (directory_of l.initial.tags l.initial.valid l.initial.lru l.cd l.nw ranges) (memory l.initial.ram l.initial.parity) l.initial.data l.address l.width l.answers l.initial.log l.pcd l.taken) l.initial.log l.initial.data
    (memory l.initial.ram l.initial.parity) l.cursor (directory_of l.tags l.valid l.lru l.cd l.nw ranges) (memory l.ram l.parity) l.data l.log l.value l.landed

abbrev pub decreases-loop-cursor : goal.decreases-loop-cursor
decreases-loop-cursor l = l.cursor.left

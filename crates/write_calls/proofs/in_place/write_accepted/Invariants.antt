use Rattle.access.proofs.WriteLoop.{WriteKept}
use Rattle.access.proofs.AccessLoop.{rest_of}
use Rattle.refusal.specs.Call.{state}
use Rattle.access.specs.Access.{all_of, write_one, operand_of}
use Rattle.doubleword.specs.Cursor.{access_begin}
use Rattle.memory.specs.Parity.{memory}
use Rattle.ranges.specs.declared.Ranges.{Ranges}
use Rattle.ranges.specs.Ranges.{ranges_of, kept_ranges}
use Rattle.directory.specs.Steps.{directory_of}
use Rattle.write_calls.proofs.in_place.write_accepted.Given as goal

abbrev pub invariant-loop-cursor : goal.invariant-loop-cursor
invariant-loop-cursor l = let ranges : Ranges = kept_ranges l.ranges in
    let rs = ranges_of ranges in
    WriteKept rs (operand_of l.value) l.answers
    (all_of (write_one rs (operand_of l.value)) (state (directory_of l.tags l.valid l.initial.lru l.cd l.nw ranges) (memory l.initial.ram l.initial.parity) l.initial.data)
    (rest_of (access_begin l.address l.width) l.answers))
    l.initial.log l.initial.data (memory l.initial.ram l.initial.parity) l.cursor (directory_of l.tags l.valid l.lru l.cd l.nw ranges) (memory l.ram l.parity) l.data l.log

abbrev pub decreases-loop-cursor : goal.decreases-loop-cursor
decreases-loop-cursor l = l.cursor.left

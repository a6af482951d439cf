use Rattle.access.proofs.ReadLoop.{ReadKept}
use Rattle.access.proofs.AccessLoop.{rest_of}
use Rattle.refusal.specs.Call.{state}
use Rattle.access.specs.Access.{all_of}
use Rattle.access.proofs.Alone.{one_alone}
use Rattle.doubleword.specs.Cursor.{access_begin}
use Rattle.memory.specs.Parity.{memory}
use Rattle.ranges.specs.declared.Ranges.{Ranges}
use Rattle.directory.specs.Steps.{directory_of}
use mathlib.Core.Bool.{Bool}
use Rattle.read_calls.proofs.in_place.read_accepted.Given as goal

abbrev pub invariant-loop-cursor : goal.invariant-loop-cursor
invariant-loop-cursor l = (nw : Bool) (ranges : Ranges) → ReadKept l.pcd l.answers
    (all_of (one_alone l.pcd) (state (directory_of l.initial.tags l.initial.valid l.initial.lru l.cd nw ranges) (memory l.ram l.parity) l.initial.data) (rest_of (access_begin l.address l.width) l.answers)) l.initial.log l.initial.data
    (memory l.ram l.parity) l.cursor (directory_of l.tags l.valid l.lru l.cd nw ranges) l.data l.log l.value

abbrev pub decreases-loop-cursor : goal.decreases-loop-cursor
decreases-loop-cursor l = l.cursor.left

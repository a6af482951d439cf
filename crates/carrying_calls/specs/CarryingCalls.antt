-- What the end of a doubleword of a read that carries writes leaves.
use Rattle.std.specs.Prelude.{ℕ, ◌-◌, ◌≤◌, ◌≡◌, List}
use Rattle.ways.specs.Address.{data_size, set_of}
use Rattle.directory.specs.declared.steps.Directory.{Directory}
use Rattle.directory.specs.Steps.{victim_of}
use Rattle.carried.specs.declared.CarriedWrites.{CarriedWrites}
use Rattle.carried.specs.CarriedCode.{writes_from}
use Rattle.doubleword.specs.Doubleword.{changed}
use Rattle.reading.specs.Reading.{kept_array}
use Rattle.carrying.specs.declared.next.CarriedRead.{CarriedRead}
use Rattle.carrying.specs.CarryingCode.{settled_change, keeps, FoundBelow}
use Rattle.access.specs.Access.{snooped_by}

-- The directory once the writes of some places are snooped.
abbrev pub snooped_to : CarriedWrites → ℕ → ℕ → Directory → Directory
snooped_to carried from to d = snooped_by (writes_from carried from (to - from)) d

-- What the end of a doubleword leaves, by the directory after the snoops of what landed during its cycles.
pub record Ended (carried : CarriedWrites) (from : ℕ) (read : CarriedRead) (d : Directory) (array : List ℕ) (d' : Directory) (array' : List ℕ) : Type 0 where
  pub directories : d' ≡ changed (snooped_to carried from read.landed d) read.line (settled_change (keeps read) (victim_of (snooped_to carried from read.landed d) (set_of read.line)) read.found)
  pub arrays : array' ≡ kept_array (keeps read) (victim_of (snooped_to carried from read.landed d) (set_of read.line)) read.line read.buffer array

-- What it needs: places in their order, and a way that exists.
pub record EndNeeds (carried : CarriedWrites) (from : ℕ) (read : CarriedRead) (array : ℕ) : Type 0 where
  pub above : from ≤ read.landed
  pub within : read.landed ≤ carried.count
  pub few : carried.count ≤ 4
  pub array_length : array ≡ data_size
  pub below : FoundBelow read.found

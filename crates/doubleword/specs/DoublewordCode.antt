-- What the code's own wanted bytes stand for, and what a doubleword's code needs.
use Rattle.std.specs.Prelude.{ℕ, ◌+◌, ◌*◌, ◌%◌, ◌≤◌, ◌<◌, ◌≡◌, List}
use Rattle.bus.specs.Groups.{group_size}
use Rattle.bus.specs.Bus.{run}
use Rattle.doubleword.specs.declared.change.Change.{Change}
use Rattle.doubleword.specs.declared.change.Change.TheVariants.{Unchanged, Use, Fill}
use Rattle.doubleword.specs.declared.change.Wanted.{Wanted}
use Rattle.doubleword.specs.Doubleword.{Doubleword}

-- The doubleword that the code's wanted bytes stand for.
abbrev pub doubleword_of : Wanted → List ℕ → Doubleword
doubleword_of w answers =
    record { line = w.line; wanted = run w.from w.count; place = w.place; answers = answers }

-- What a doubleword needs: wanted bytes of one doubleword of a line in RAM, its answers, room for a record of each.
pub record DoublewordNeeds (w : Wanted) (first ram parity answers log : ℕ) : Type 0 where
  pub aligned : w.line % 16 ≡ 0
  pub inside : w.line + 16 ≤ ram
  pub small : ram ≤ 16777216
  pub bits : ram ≤ 4 * parity
  pub some : 0 < w.count
  pub lanes : w.from % 4 + w.count ≤ 4
  pub line : w.from < 16
  pub served : answers ≡ group_size
  pub records : 3 * (first + group_size) ≤ log
  pub few : first ≤ 48

-- A change names a way below 4.
abbrev pub BelowFour : Change → Type 0
BelowFour Unchanged = Unit {0}
BelowFour (Use way) = way < 4
BelowFour (Fill way) = way < 4

-- A change that is no fill.
abbrev pub NoFill : Change → Type 0
NoFill Unchanged = Unit {0}
NoFill (Use way) = Unit {0}
NoFill (Fill way) = ⊥

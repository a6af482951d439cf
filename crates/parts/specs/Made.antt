-- What cycles leave in the log.
use Rattle.std.specs.Prelude.{ℕ, ◌+◌, ◌≡◌, List, map, length}
use Rattle.bus.specs.Bus.{Cycle}
use Rattle.bus.specs.Record.{Record, logged}

-- What the code leaves for cycles: their records after those of the answers used before, and how many answers are used then.
pub record CyclesMade (make : Cycle → Record) (cs : List Cycle) (first used : ℕ) (log₀ : List ℕ) (r : ℕ) (log : List ℕ) : Type 0 where
  pub logs : log ≡ logged log₀ (first + used) (map make cs)
  pub made : r ≡ used + length cs

-- What a call is lent, and what it leaves.
use Rattle.std.specs.Prelude.{ℕ, Bool, List, []}
use Rattle.ranges.specs.declared.Ranges.{Ranges}
use Rattle.directory.specs.declared.steps.Directory.{Directory}
use Rattle.directory.specs.declared.steps.Outcome.{Outcome}
use Rattle.directory.specs.Outcome.{outcome}
use Rattle.directory.specs.Steps.{directory_of}
use Rattle.memory.specs.Parity.{Memory, memory}

-- What a call is lent and changes: directory, RAM with its parity, data array (`array`).
pub record State : Type 0 where
  pub directory : Directory
  pub memory : Memory
  pub array : List ℕ

abbrev pub state : Directory → Memory → List ℕ → State
state d m array = record { directory = d; memory = m; array = array }

-- The state that lent references hold.
abbrev pub lent_state : List ℕ → List Bool → List ℕ → Bool → Bool → Ranges → List ℕ → List ℕ → List ℕ → State
lent_state tags valid lru cd nw ranges ram parity array = state (directory_of tags valid lru cd nw ranges) (memory ram parity) array

-- What a call leaves: its answer with the directory, every lent buffer, and the bytes that a view shows.
pub record After : Type 0 where
  pub outcome : Outcome
  pub memory : Memory
  pub array : List ℕ
  pub log : List ℕ
  pub shown : List ℕ

-- A call other than a view shows nothing.
abbrev pub after : Outcome → Memory → List ℕ → List ℕ → After
after o m array log = record { outcome = o; memory = m; array = array; log = log; shown = [] }

-- "A buffer that a call doesn't receive passes on as it was.": a call on the directory alone has no buffer.
abbrev pub on_directory : State → Outcome → After
on_directory s o = after o s.memory s.array []

-- "Number, value 0, count 0; nothing lent changes; the directory comes back as given."
abbrev pub refused : ℕ → State → List ℕ → After
refused number s log = after (outcome s.directory number 0 0) s.memory s.array log

-- The state that the next call meets.
abbrev pub next_state : After → State
next_state a = state a.outcome.directory a.memory a.array

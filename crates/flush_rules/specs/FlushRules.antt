-- Document 02, C-14: "Show too that, in any list from reset without test writes, each CPU read and write gives the same answers and records under either
-- flush rule."
use Rattle.std.specs.Prelude.{ℕ, ◌≡◌, false, List, [], ◌∷◌, replicate}
use Rattle.ways.specs.Address.{line_count}
use Rattle.directory.specs.declared.steps.Directory.{Directory}
use Rattle.directory.specs.Steps.{first_reset, after_flush}
use Rattle.memory.specs.Parity.{Memory}
use Rattle.bus.specs.Record.{Record}
use Rattle.refusal.specs.Call.{State, state, After, next_state}
use Rattle.calls.specs.Calls.{Call, step_by, step, records_left}
use Rattle.calls.specs.Matches.{kind_of, plants}

-- Document 01's rule, for comparison only: "A flush (FLUSH#, INVD and WBINVD alike) clears valid marks and nothing else (H)."
unfoldable pub marks_cleared : Directory → Directory
marks_cleared d =
    record {
      tags = d.tags;
      valid = replicate line_count false;
      lru = d.lru;
      cd = d.cd;
      nw = d.nw;
      ranges = d.ranges;
    }

-- "the same answers and records": of a call, "number, value (0 except from a read), cycle count (0 except from reads and writes)", and its records.
pub record Answered : Type 0 where
  pub number : ℕ
  pub value : ℕ
  pub cycles : ℕ
  pub records : List Record

abbrev pub answered : After → Answered
answered a =
    record {
      number = a.outcome.number;
      value = a.outcome.value;
      cycles = a.outcome.cycles;
      records = records_left a;
    }

-- Those of each call of a list, in turn, under a flush rule: of every read, with the writes that it carries, of every write, and of the other calls too. Of a
-- test read a list has the number; the LRU number that it gives back can differ.
unfoldable pub answers_by : (Directory → Directory) → State → List Call → List Answered
answers_by rule s [] = []
answers_by rule s (c ∷ cs) = let here = step_by rule s c in answered here ∷ answers_by rule (next_state here) cs

-- "without test writes": no call of a list is an accepted test write.
unfoldable pub NeverPlants : State → List Call → Type 0
NeverPlants s [] = Unit {0}
NeverPlants s (c ∷ cs) = (plants (kind_of c) (step s c).outcome.number ≡ false) × NeverPlants (next_state (step s c)) cs

-- The claim, for every list "from reset", whatever RAM, parity and data array are and whatever the calls set.
abbrev pub EitherFlushRule : Type 0
EitherFlushRule =
    (m : Memory) (array : List ℕ) (cs : List Call) → NeverPlants (state first_reset m array) cs →
    answers_by after_flush (state first_reset m array) cs ≡ answers_by marks_cleared (state first_reset m array) cs

-- Document 01, 'One doubleword': what a call answers.
use Rattle.std.specs.Prelude.{ℕ}
use Rattle.directory.specs.declared.steps.Directory.{Directory}
use Rattle.directory.specs.declared.steps.Outcome.{Outcome}

-- "The result is number, value (0 except from a read), cycle count (0 except from reads and writes)."
abbrev pub outcome : Directory → ℕ → ℕ → ℕ → Outcome
outcome d number value cycles =
    record { directory = d; number = number; value = value; cycles = cycles }

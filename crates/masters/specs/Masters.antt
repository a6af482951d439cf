-- Document 01, 'Other masters': an external write. A snoop is a call on the directory alone.
use Rattle.std.specs.Prelude.{ℕ, cond, List, [], eqb, length}
use Rattle.directory.specs.declared.steps.Directory.{Directory}
use Rattle.directory.specs.Outcome.{outcome}
use Rattle.directory.specs.Steps.{ranges_kept, after_snoop}
use Rattle.memory.specs.Parity.{Memory, written}
use Rattle.refusal.specs.Call.{State, After, after, refused}
use Rattle.refusal.specs.Refusal.{or_else, memory_number, external_number, kept_number, states_number_of}

-- Its number: 1, 2, 10, 37 and 38 of the ranges that the directory keeps, then the state of its set.
unfoldable pub external_write_number : Directory → Memory → ℕ → List ℕ → ℕ
external_write_number d m address bytes =
    or_else (memory_number (length m.ram) (length m.parity))
    (or_else (external_number (length m.ram) address (length bytes))
    (or_else (kept_number (length m.ram) d.ranges) (states_number_of d address (length bytes))))

-- "An external write puts 1 to 16 bytes of one line into RAM, sets their parity, then snoops. It leaves no record." It has no data
-- array and no log. C-17: "RAM and parity there ignore CPU writes and external writes, though cycles and snoops go on."
unfoldable pub external_call : State → ℕ → List ℕ → After
external_call s address bytes =
    let number = external_write_number s.directory s.memory address bytes in
    cond (eqb number 0)
    (after (outcome (after_snoop s.directory address) 0 0 0) (written (ranges_kept s.directory) s.memory address bytes) s.array [])
    (refused number s [])

-- The record of one cycle of a doubleword, from numbers: what it says, its parity byte and the DP bits that its bytes ask for.
use Rattle.std.specs.Prelude.{ℕ, ◌+◌, ◌*◌, ◌/◌, ◌%◌, ◌^◌, ◌≤◌, ◌<◌, ◌≡◌, Bool, not, List, eqb, get_or}
use Rattle.words.specs.Bytes.{bytes_at, word_in, lanes_word}
use Rattle.memory.specs.Parity.{dp_of}
use Rattle.bus.specs.Bus.{run, Cycle}
use Rattle.bus.specs.Record.{Record, flags_of}
use Rattle.parts.specs.declared.lanes.Transfer.{Transfer}

-- The DP bits that four bytes ask for, as a parity byte has them.
abbrev pub due_bits : List ℕ → ℕ → ℕ
due_bits ram base = dp_of (get_or ram base 0) + 2 * dp_of (get_or ram (base + 1) 0) + 4 * dp_of (get_or ram (base + 2) 0) + 8 * dp_of (get_or ram (base + 3) 0)

-- So many bits of a parity byte, from a lane on.
abbrev pub bits_in : ℕ → ℕ → ℕ → ℕ
bits_in bits lane count = bits / 2 ^ lane % 2 ^ count

-- A cycle that moves so many bytes from an offset on. No record tells its answer.
abbrev pub moving : ℕ → ℕ → Bool → Cycle
moving from count last = record { moved = run from count; answer = 0; last = last }

-- A doubleword of RAM, and one of which no parity is checked. kind: the flag of what its cycles are made for.
abbrev pub read_transfer : List ℕ → List ℕ → ℕ → ℕ → Transfer
read_transfer ram parity base kind =
    record {
      base = base;
      word = word_in 0 (bytes_at ram base 4);
      held = get_or parity (base / 4) 0;
      due = due_bits ram base;
      kind = kind;
    }

abbrev pub unchecked_transfer : ℕ → ℕ → ℕ → Transfer
unchecked_transfer base word kind = record { base = base; word = word; held = 0; due = 0; kind = kind }

-- The record of a cycle of the doubleword at an address. held: its parity byte; due: the DP bits that its bytes ask for; kind: as above.
-- Only the lanes of the moved bytes matter, not where in a line the doubleword lies.
unfoldable pub part_record : Transfer → Cycle → Record
part_record t c =
    record {
      address = t.base;
      flags =
          flags_of (c.moved.from % 4) c.moved.count t.kind c.last
          (not (eqb (bits_in t.held (c.moved.from % 4) c.moved.count) (bits_in t.due (c.moved.from % 4) c.moved.count)));
      word = lanes_word t.word (c.moved.from % 4) c.moved.count;
    }

-- A doubleword of a line in RAM.
pub record LineNeeds (line from ram parity : ℕ) : Type 0 where
  pub aligned : line % 16 ≡ 0
  pub whole : from % 4 ≡ 0
  pub short : from < 16
  pub inside : line + 16 ≤ ram
  pub small : ram ≤ 16777216
  pub bits : ram ≤ 4 * parity

-- Document 01, 'One doubleword': what one doubleword of a write does, by what the directory answers for its line.
use Rattle.std.specs.Prelude.{ℕ, ◌+◌, Bool, cond, List, [], map, replicate, Option, Some, None}
use Rattle.std.proofs.lemmas.List.Edits.{sets}
use Rattle.ways.specs.Address.{data_offset}
use Rattle.words.specs.Bytes.{bytes_at}
use Rattle.ranges.specs.Ranges.{Range}
use Rattle.memory.specs.Parity.{Memory}
use Rattle.bus.specs.Bus.{after_cycles, memory_after}
use Rattle.bus.specs.Record.{write_record}
use Rattle.doubleword.specs.declared.change.Change.{Change}
use Rattle.doubleword.specs.declared.change.Change.TheVariants.{Unchanged, Use}
use Rattle.doubleword.specs.Doubleword.{Doubleword, Done, plain_cycles}

-- The bytes of an operand that go into a doubleword, in a line buffer.
abbrev pub write_buffer : List ℕ → Doubleword → List ℕ
write_buffer operand w =
    sets (replicate 16 0) w.wanted.from (bytes_at operand w.place w.wanted.count)

-- "Write: to RAM and the moved lanes' parity"; `rs` are the read-only ranges.
unfoldable pub write_through : Change → List Range → Memory → List ℕ → List ℕ → Doubleword → Done
write_through change rs m array operand w =
    record {
      change = change;
      memory = after_cycles (memory_after rs (write_buffer operand w) w.line) (plain_cycles w) m;
      array = array;
      bytes = [];
      records = map (write_record (write_buffer operand w) w.line) (plain_cycles w);
    }

-- "on a hit also to the data array."
unfoldable pub hit_array : ℕ → List ℕ → List ℕ → Doubleword → List ℕ
hit_array way array operand w =
    sets array (data_offset w.line way + w.wanted.from) (bytes_at operand w.place w.wanted.count)

-- "A miss never fills. With CD = NW = 1 a hit changes the data array and, as a use, the LRU number; RAM and parity stay, with no cycle." `stays`: CD = NW = 1. (002)
unfoldable pub write_done : Option ℕ → Bool → List Range → Memory → List ℕ → List ℕ → Doubleword → Done
write_done (Some way) stays rs m array operand w =
    cond stays
    (record { change = Use way; memory = m; array = hit_array way array operand w; bytes = []; records = [] })
    (write_through (Use way) rs m (hit_array way array operand w) operand w)
write_done None stays rs m array operand w = write_through Unchanged rs m array operand w

-- Document 01, 'One doubleword', with document 02, C-12: what one doubleword of a read does, by what the directory answers for its line. In two stages: the lookup and, for a
-- miss, its cycles, which ask nothing of the directory; then the end of a miss, by the victim that the directory names then. `ws` are the writes that the read
-- carries and that have not landed, `first` is the number of the next cycle of the access, `rs` are the read-only ranges.
use Rattle.std.specs.Prelude.{ℕ, suc, ◌+◌, ◌/◌, Bool, false, cond, not, ◌&&◌, List, [], ◌∷◌, length, get_or, replicate, Option, Some, None}
use Rattle.std.proofs.lemmas.List.Edits.{sets}
use Rattle.ways.specs.Address.{data_offset}
use Rattle.words.specs.Bytes.{bytes_at}
use Rattle.ranges.specs.Ranges.{Range}
use Rattle.memory.specs.Parity.{Memory}
use Rattle.carried.specs.Carried.{Carried, due, later, landed, memory_at, in_line}
use Rattle.bus.specs.Bus.{ken, Cycle, cycles_of, burst, last_answer, buffer_after}
use Rattle.bus.specs.Record.{Record, read_record, plain_kind, fill_kind}
use Rattle.doubleword.specs.declared.change.Change.{Change}
use Rattle.doubleword.specs.declared.change.Change.TheVariants.{Unchanged, Use, Fill}
use Rattle.doubleword.specs.Doubleword.{Doubleword, Done, plain_cycles}

-- "Read hit: from the data array, no cycle, whatever CD and PCD are."
unfoldable pub read_hit : ℕ → Memory → List ℕ → Doubleword → Done
read_hit way m array w =
    record {
      change = Use way;
      memory = m;
      array = array;
      bytes = bytes_at array (data_offset w.line way + w.wanted.from) w.wanted.count;
      records = [];
    }

-- What the cycles of a miss brought: the line buffer, whether it is a line to keep, the records.
pub record Missed : Type 0 where
  pub buffer : List ℕ
  pub kept : Bool
  pub records : List Record

-- The line buffer after read cycles, by memory as it is at each of them; n is the number of the first.
unfoldable pub buffer_of : (ℕ → Memory) → ℕ → ℕ → List Cycle → List ℕ → List ℕ
buffer_of at line n [] buffer = buffer
buffer_of at line n (c ∷ cs) buffer = buffer_of at line (suc n) cs (buffer_after (at n).ram line c.moved buffer)

-- Their records, likewise.
unfoldable pub records_of : ℕ → (ℕ → Memory) → ℕ → ℕ → List Cycle → List Record
records_of kind at line n [] = []
records_of kind at line n (c ∷ cs) = read_record kind (at n) line c ∷ records_of kind at line (suc n) cs

-- "Otherwise the wanted bytes only."
unfoldable pub plain_miss : List Range → Memory → List Carried → ℕ → Doubleword → Missed
plain_miss rs m ws first w =
    record {
      buffer = buffer_of (memory_at rs m ws) w.line first (plain_cycles w) (replicate 16 0);
      kept = false;
      records = records_of plain_kind (memory_at rs m ws) w.line first (plain_cycles w);
    }

-- "Fill: all four bytes of each doubleword of the line".
abbrev pub fill_cycles : Doubleword → List Cycle
fill_cycles w = cycles_of w.answers (burst (w.wanted.from / 4))

-- "one landing before the first data leaves the fill valid. One landing later in the line being filled drops that fill, with NW = 1 too." (002)
unfoldable pub spoiled : List Carried → ℕ → Doubleword → Bool
spoiled ws first w = in_line w.line (due (first + length (fill_cycles w)) (later (suc first) ws))

-- "It is kept only if the last cycle also has KEN#; others in between don't matter."
unfoldable pub fill_miss : List Range → Memory → List Carried → ℕ → Doubleword → Missed
fill_miss rs m ws first w =
    record {
      buffer = buffer_of (memory_at rs m ws) w.line first (fill_cycles w) (replicate 16 0);
      kept = not (spoiled ws first w) && ken (last_answer 0 (fill_cycles w));
      records = records_of fill_kind (memory_at rs m ws) w.line first (fill_cycles w);
    }

-- "Read miss: a fill when CD = 0, PCD = 0 and the first cycle has KEN#." (001, 002) `mayFill`: CD = 0 and PCD = 0.
unfoldable pub read_miss : Bool → List Range → Memory → List Carried → ℕ → Doubleword → Missed
read_miss mayFill rs m ws first w =
    cond (mayFill && ken (get_or w.answers 0 0)) (fill_miss rs m ws first w) (plain_miss rs m ws first w)

-- "A kept fill writes the victim's bytes, tag and valid mark. A dropped one changes neither directory nor data array."
abbrev pub kept_change : Bool → ℕ → Change
kept_change kept victim = cond kept (Fill victim) Unchanged

abbrev pub kept_array : Bool → ℕ → ℕ → List ℕ → List ℕ → List ℕ
kept_array kept victim line buffer array = cond kept (sets array (data_offset line victim) (bytes_at buffer 0 16)) array

-- The end of a miss, by the victim. What landed during its cycles is in memory.
unfoldable pub settled : ℕ → List Range → Memory → List Carried → ℕ → List ℕ → Doubleword → Missed → Done
settled victim rs m ws first array w missed =
    record {
      change = kept_change missed.kept victim;
      memory = landed rs (due (first + length missed.records) ws) m;
      array = kept_array missed.kept victim w.line missed.buffer array;
      bytes = bytes_at missed.buffer w.wanted.from w.wanted.count;
      records = missed.records;
    }

-- A doubleword of a read, by what the lookup found: "A doubleword is looked up before a write lands ahead of its first cycle."
unfoldable pub read_done : Option ℕ → ℕ → Bool → List Range → Memory → List Carried → ℕ → List ℕ → Doubleword → Done
read_done (Some way) victim mayFill rs m ws first array w = read_hit way m array w
read_done None victim mayFill rs m ws first array w = settled victim rs m ws first array w (read_miss mayFill rs m ws first w)

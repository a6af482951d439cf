-- Laws of a read that carries nothing: memory is the same at every cycle, so that no cycle's number and no range matters.
use Rattle.std.specs.Prelude.{Option, Some, None}
use Prim.Native.Nat.{ℕ, suc}
use mathlib.Core.Path.{◌≡◌, refl}
use mathlib.Core.Bool.{Bool, false, cond, ◌&&◌}
use mathlib.Core.List.{List, [], ◌∷◌, map}
use lib.ListN.{get_or, replicate}
use Rattle.words.specs.Bytes.{bytes_at}
use Rattle.ranges.specs.Ranges.{Range}
use Rattle.memory.specs.Parity.{Memory}
use Rattle.carried.specs.Carried.{due, later, landed, memory_at, in_line}
use Rattle.bus.specs.Bus.{ken, Cycle, last_answer, after_cycles, buffer_after}
use Rattle.bus.specs.Record.{read_record, plain_kind, fill_kind}
use Rattle.doubleword.specs.Doubleword.{Doubleword, Done, plain_cycles}
use Rattle.reading.specs.Reading.{read_hit, Missed, buffer_of, records_of, plain_miss, fill_cycles, spoiled, fill_miss, read_miss, kept_change, kept_array, settled, read_done}

-- the line buffer and the records of cycles over one memory
abbrev pub buffer_alone : Memory → Doubleword → List Cycle → List ℕ
buffer_alone m w cs = after_cycles (buffer_after m.ram w.line) cs (replicate 16 0)

buffer_alone_lem : (rs : List Range) (m : Memory) (line n : ℕ) (cs : List Cycle) (b : List ℕ) → buffer_of (memory_at rs m []) line n cs b ≡ after_cycles (buffer_after m.ram line) cs b
unfolding buffer_of after_cycles due landed
buffer_alone_lem rs m line n [] b = refl
buffer_alone_lem rs m line n (c ∷ cs) b = buffer_alone_lem rs m line (suc n) cs (buffer_after m.ram line c.moved b)

records_alone : (kind : ℕ) (rs : List Range) (m : Memory) (line n : ℕ) (cs : List Cycle) → records_of kind (memory_at rs m []) line n cs ≡ map (read_record kind m line) cs
unfolding records_of due landed
records_alone kind rs m line n [] = refl
records_alone kind rs m line n (c ∷ cs) = rw (records_alone kind rs m line (suc n) cs)

-- a miss
unfoldable pub plain_alone : Memory → Doubleword → Missed
plain_alone m w =
    record {
      buffer = buffer_alone m w (plain_cycles w);
      kept = false;
      records = map (read_record plain_kind m w.line) (plain_cycles w);
    }

unfoldable pub fill_alone : Memory → Doubleword → Missed
fill_alone m w =
    record {
      buffer = buffer_alone m w (fill_cycles w);
      kept = ken (last_answer 0 (fill_cycles w));
      records = map (read_record fill_kind m w.line) (fill_cycles w);
    }

unfoldable pub miss_alone : Bool → Memory → Doubleword → Missed
miss_alone mayFill m w = cond (mayFill && ken (get_or w.answers 0 0)) (fill_alone m w) (plain_alone m w)

plain_alone_lem : (rs : List Range) (m : Memory) (n : ℕ) (w : Doubleword) → plain_miss rs m [] n w ≡ plain_alone m w
unfolding plain_miss plain_alone
plain_alone_lem rs m n w = rw (buffer_alone_lem rs m w.line n (plain_cycles w) (replicate 16 0), records_alone plain_kind rs m w.line n (plain_cycles w))

fill_alone_lem : (rs : List Range) (m : Memory) (n : ℕ) (w : Doubleword) → fill_miss rs m [] n w ≡ fill_alone m w
unfolding fill_miss fill_alone spoiled due later in_line
fill_alone_lem rs m n w = rw (buffer_alone_lem rs m w.line n (fill_cycles w) (replicate 16 0), records_alone fill_kind rs m w.line n (fill_cycles w))

pub miss_alone_lem : (mayFill : Bool) (rs : List Range) (m : Memory) (n : ℕ) (w : Doubleword) → read_miss mayFill rs m [] n w ≡ miss_alone mayFill m w
unfolding read_miss miss_alone
miss_alone_lem mayFill rs m n w = rw (plain_alone_lem rs m n w, fill_alone_lem rs m n w)

-- a doubleword
unfoldable pub settled_alone : ℕ → Memory → List ℕ → Doubleword → Missed → Done
settled_alone victim m array w missed =
    record {
      change = kept_change missed.kept victim;
      memory = m;
      array = kept_array missed.kept victim w.line missed.buffer array;
      bytes = bytes_at missed.buffer w.wanted.from w.wanted.count;
      records = missed.records;
    }

unfoldable pub done_alone : Option ℕ → ℕ → Bool → Memory → List ℕ → Doubleword → Done
done_alone (Some way) victim mayFill m array w = read_hit way m array w
done_alone None victim mayFill m array w = settled_alone victim m array w (miss_alone mayFill m w)

pub done_alone_lem : (f : Option ℕ) (victim : ℕ) (mayFill : Bool) (rs : List Range) (m : Memory) (n : ℕ) (array : List ℕ) (w : Doubleword) → read_done f victim mayFill rs m [] n array w ≡ done_alone f victim mayFill m array w
unfolding read_done done_alone settled settled_alone due landed
done_alone_lem (Some way) victim mayFill rs m n array w = refl
done_alone_lem None victim mayFill rs m n array w = rw (miss_alone_lem mayFill rs m n w)

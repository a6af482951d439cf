-- Laws of one doubleword of a read: what its cycles brought is RAM's, and what the code leaves in each case.
use Rattle.std.specs.Prelude.{Option, Some, None}
use Prim.Native.Nat.{ℕ, ◌+◌, ◌*◌, ◌-◌, ◌/◌, ◌%◌, ◌^◌, ◌≤◌, ◌<◌}
use mathlib.Core.Path.{◌≡◌, refl, sym, ◌∙◌, ap}
use mathlib.Core.Bool.{Bool, true, false, ◌&&◌}
use mathlib.Core.List.{List, [], map}
use native.Mathlib.Omega.{arith}
use native.Mathlib.Nat.{add-zero, zero-add}
use lib.ListN.{length, get_or, length-map}
use lib.Seq.{sets}
use Rattle.laws.proofs.Tests.{cond_true, cond_false}
use Rattle.ways.specs.Address.{data_offset, set_of}
use Rattle.ways.specs.Ways.{lookup_in, victim_in}
use Rattle.words.specs.Bytes.{bytes_at, value_of}
use Rattle.words.proofs.Spans.{bytes_same}
use Rattle.words.proofs.Numbers.{byte_powers, bytes_small, value_below}
use Rattle.words.proofs.Places.{bytes_length}
use Rattle.memory.specs.Parity.{Memory}
use Rattle.bus.specs.Bus.{run, ken, burst, last_answer}
use Rattle.bus.specs.Groups.{widest}
use Rattle.bus.specs.Record.{read_record, plain_kind, fill_kind, words_of}
use Rattle.parts.specs.Made.{CyclesMade}
use Rattle.bus.proofs.Runs.{last_answer_lem}
use Rattle.cycles.proofs.Brought.{OneDoubleword, fill_buffer, wanted_bytes}
use Rattle.doubleword.specs.declared.change.Change.TheVariants.{Unchanged, Use, Fill}
use Rattle.doubleword.specs.declared.change.Change.{Change}
use Rattle.doubleword.specs.declared.change.Wanted.{Wanted}
use Rattle.doubleword.specs.Doubleword.{Doubleword, Done, plain_cycles}
use Rattle.doubleword.specs.declared.cursor.AccessCursor.{AccessCursor}
use Rattle.doubleword.specs.DoublewordCode.{DoublewordNeeds, doubleword_of}
use Rattle.doubleword.specs.Cursor.{wanted_of, group_at}
use Rattle.carried.specs.Carried.{due, landed}
use Rattle.reading.specs.Reading.{read_hit, fill_cycles, settled, read_done}
use Rattle.reading.specs.ReadingCode.{Reads, ReadNext, read_alone}
use Rattle.reading.proofs.Alone.{buffer_alone, plain_alone, fill_alone, miss_alone, settled_alone, done_alone, done_alone_lem}

-- a read leaves memory as it was
pub read_memory : (f : Option ℕ) (victim : ℕ) (mayFill : Bool) (m : Memory) (array : List ℕ) (w : Doubleword) → (read_alone f victim mayFill m array w).memory ≡ m
unfolding read_done read_hit settled due landed
read_memory (Some way) victim mayFill m array w = refl
read_memory None victim mayFill m array w = refl

-- the bytes of a line buffer that a fill filled are RAM's
filled_bytes : (m : Memory) (w : Doubleword) (j n : ℕ) → 16 ≤ length w.answers → j + n ≤ 16 → bytes_at (buffer_alone m w (fill_cycles w)) j n ≡ bytes_at m.ram (w.line + j) n
filled_bytes m w j n l h =
    bytes_same (buffer_alone m w (fill_cycles w)) m.ram j (w.line + j) n
    (λ o k.
    let e : w.line + (j + o) ≡ w.line + j + o = omega arith in
    rw e at (fill_buffer m.ram w.line (w.wanted.from / 4) w.answers l (j + o) (omega arith)))

-- the number of so many bytes is below what that many can say
pub bytes_below : (l : List ℕ) → ((i : ℕ) → get_or l i 0 < 256) → (i n : ℕ) → value_of (bytes_at l i n) < 256 ^ n
bytes_below l h i n = rw (bytes_length l i n) at (value_below (bytes_at l i n) (bytes_small l h i n))

-- the wanted bytes of a doubleword lie in one
pub one_doubleword : (w : Wanted) (first ram parity answers log : ℕ) → DoublewordNeeds w first ram parity answers log → OneDoubleword (run w.from w.count)
one_doubleword w first ram parity answers log z = record { some = z.some; lanes = z.lanes; line = inside w.from w.count z.line z.lanes }
  where
    inside : (from count : ℕ) → from < 16 → from % 4 + count ≤ 4 → from + count ≤ 16
    inside from count h l = omega arith

module _ (victim : ℕ) (mayFill : Bool) (m : Memory) (array : List ℕ) (w : Doubleword) (first : ℕ) (log₀ : List ℕ) where
  -- a hit
  pub hit_reads : (way offset value : ℕ) → way < 4 → offset ≡ data_offset w.line way →
      value ≡ value_of (bytes_at array (offset + w.wanted.from) w.wanted.count) → ((i : ℕ) → get_or array i 0 < 256) →
      Reads (read_alone (Some way) victim mayFill m array w) w.wanted.count first log₀ (Use way) value 0 array log₀
  unfolding done_alone read_hit words_of
  hit_reads way offset value b eo ev small =
      rw (done_alone_lem (Some way) victim mayFill [] m 0 array w)
      (record {
        changes = refl;
        below = b;
        arrays = refl;
        logs = refl;
        gives = rw eo at ev;
        fits = rw ev (bytes_below array small (offset + w.wanted.from) w.wanted.count);
        made = refl;
        most = omega arith;
      })

  -- a miss reads RAM's bytes
  module _ (g : OneDoubleword w.wanted) (enough : 16 ≤ length w.answers) (value : ℕ) (ev : value ≡ value_of (bytes_at m.ram (w.line + w.wanted.from) w.wanted.count))
      (small : (i : ℕ) → get_or m.ram i 0 < 256) (cycles : ℕ) (log : List ℕ) where
    fits_ram : value < 256 ^ w.wanted.count
    fits_ram = rw ev (bytes_below m.ram small (w.line + w.wanted.from) w.wanted.count)

    pub plain_reads : (mayFill && ken (get_or w.answers 0 0)) ≡ false → CyclesMade (read_record plain_kind m w.line) (plain_cycles w) first 0 log₀ cycles log → cycles ≤ 4 →
        Reads (read_alone None victim mayFill m array w) w.wanted.count first log₀ Unchanged value cycles array log
    unfolding done_alone miss_alone settled_alone plain_alone
    plain_reads p made most =
        rw (done_alone_lem None victim mayFill [] m 0 array w, cond_false _ (fill_alone m w) (plain_alone m w) p)
        (record {
          changes = refl;
          below = tt;
          arrays = refl;
          logs = rw (add-zero first) at made.logs;
          gives = ev ∙ sym (ap value_of (wanted_bytes m.ram w.line w.wanted g w.answers enough));
          fits = fits_ram;
          made = made.made ∙ zero-add (length (plain_cycles w)) ∙ sym (length-map (plain_cycles w) (read_record plain_kind m w.line));
          most = omega arith;
        })

    -- a fill: kept where the last answer used has KEN#
    module _ (p : (mayFill && ken (get_or w.answers 0 0)) ≡ true) (made : CyclesMade (read_record fill_kind m w.line) (fill_cycles w) first 0 log₀ cycles log) (some : 0 < cycles) (most : cycles ≤ 16) where
      last_is : ken (last_answer 0 (fill_cycles w)) ≡ ken (get_or w.answers (cycles - 1) 0)
      last_is = ap ken (last_answer_lem w.answers (burst (w.wanted.from / 4)) cycles (made.made ∙ zero-add (length (fill_cycles w))) some)

      gives_ram : value ≡ value_of (bytes_at (buffer_alone m w (fill_cycles w)) w.wanted.from w.wanted.count)
      gives_ram = ev ∙ sym (ap value_of (filled_bytes m w w.wanted.from w.wanted.count enough g.line))

      filled_made : cycles ≡ length (map (read_record fill_kind m w.line) (fill_cycles w))
      filled_made = made.made ∙ zero-add (length (fill_cycles w)) ∙ sym (length-map (fill_cycles w) (read_record fill_kind m w.line))

      pub dropped_reads : ken (get_or w.answers (cycles - 1) 0) ≡ false →
          Reads (read_alone None victim mayFill m array w) w.wanted.count first log₀ Unchanged value cycles array log
      unfolding done_alone miss_alone settled_alone fill_alone
      dropped_reads k =
          let q = last_is ∙ k in
          rw (done_alone_lem None victim mayFill [] m 0 array w, cond_true _ (fill_alone m w) (plain_alone m w) p)
          (record {
            changes = rw q;
            below = tt;
            arrays = rw q;
            logs = rw (add-zero first) at made.logs;
            gives = gives_ram;
            fits = fits_ram;
            made = filled_made;
            most = most;
          })

      pub kept_reads : ken (get_or w.answers (cycles - 1) 0) ≡ true → (way : ℕ) → way ≡ victim → way < 4 → (array' : List ℕ) →
          array' ≡ sets array (data_offset w.line way) (bytes_at m.ram w.line 16) →
          Reads (read_alone None victim mayFill m array w) w.wanted.count first log₀ (Fill way) value cycles array' log
      unfolding done_alone miss_alone settled_alone fill_alone
      kept_reads k way ew b array' ea =
          let q = last_is ∙ k in
          let line : bytes_at (buffer_alone m w (fill_cycles w)) 0 16 ≡ bytes_at m.ram w.line 16 = rw (add-zero w.line) at (filled_bytes m w 0 16 enough (omega arith)) in
          rw (done_alone_lem None victim mayFill [] m 0 array w, cond_true _ (fill_alone m w) (plain_alone m w) p)
          (record {
            changes = rw (q, ew);
            below = b;
            arrays = rw (q, line, ← ew) ea;
            logs = rw (add-zero first) at made.logs;
            gives = gives_ram;
            fits = fits_ram;
            made = filled_made;
            most = most;
          })

-- the next doubleword of the code, from what its parts leave
module _ (tags : List ℕ) (valid : List Bool) (lru : List ℕ) (mayFill : Bool) (m : Memory) (array : List ℕ) where
  abbrev read_of : Wanted → List ℕ → Done
  read_of w xs = read_alone (lookup_in tags valid w.line) (victim_in valid lru (set_of w.line)) mayFill m array (doubleword_of w xs)

  pub read_next_left : (cursor : AccessCursor) (xs given : List ℕ) (w : Wanted) → w ≡ wanted_of cursor → given ≡ group_at cursor xs →
      {change : Change} {value cycles : ℕ} {log₀ array' log : List ℕ} → Reads (read_of w given) w.count cursor.cycles log₀ change value cycles array' log →
      ReadNext (read_of (wanted_of cursor) (group_at cursor xs)) cursor log₀ (record { line = w.line; change = change; count = w.count; value = value; cycles = cycles }) array' log
  read_next_left cursor xs given w ew eg k =
      record {
        line = ap (λ (x : Wanted). x.line) ew;
        counts = ap (λ (x : Wanted). x.count) ew;
        reads = rw (ew, eg) at k;
      }

-- a part above some bytes
pub part_above : (value place part r : ℕ) → value + part * 256 ^ place < 256 ^ widest → r ≡ value + part * 2 ^ (8 * place) % 2 ^ 64 → r ≡ value + part * 256 ^ place
part_above value place part r h e =
    let q : part * 2 ^ (8 * place) % 2 ^ 64 ≡ part * 256 ^ place = ap (λ (x : ℕ). part * x % 2 ^ 64) (sym (byte_powers place)) ∙ small (part * 256 ^ place) value h in
    e ∙ ap (λ (x : ℕ). value + x) q
  where
    small : (x value : ℕ) → value + x < 2 ^ 64 → x % 2 ^ 64 ≡ x
    small x value h = omega arith

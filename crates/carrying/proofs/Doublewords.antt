-- One doubleword of a read that carries writes, from what its parts leave.
use Rattle.std.specs.Prelude.{Option, Some, None}
use Prim.Native.Nat.{ℕ, suc, ◌+◌, ◌-◌, ◌/◌, ◌%◌, ◌^◌, ◌≤◌, ◌<◌}
use mathlib.Core.Path.{◌≡◌, refl, sym, ◌∙◌, ap}
use mathlib.Core.Bool.{Bool, true, false, not, ◌&&◌, and-false}
use mathlib.Core.List.{List, [], ◌∷◌}
use native.Mathlib.Omega.{arith}
use lib.ListN.{length, get_or, replicate}
use Rattle.laws.proofs.Tests.{cond_true, cond_false}
use Rattle.ways.specs.Address.{data_offset}
use Rattle.words.specs.Bytes.{bytes_at, value_of}
use Rattle.memory.specs.Parity.{Memory}
use Rattle.carried.specs.declared.CarriedWrites.{CarriedWrites}
use Rattle.carried.specs.Carried.{Carried, due, memory_at, in_line}
use Rattle.carried.specs.CarriedCode.{left_from, CarriedNeeds}
use Rattle.carried.proofs.Due.{due_early}
use Rattle.bus.specs.Bus.{run, ken, Cycle, cycles_of, burst, last_answer}
use Rattle.bus.specs.Record.{plain_kind, fill_kind, logged, words_of}
use Rattle.bus.proofs.Runs.{last_answer_lem}
use Rattle.doubleword.specs.declared.change.Wanted.{Wanted}
use Rattle.doubleword.specs.declared.cursor.AccessCursor.{AccessCursor}
use Rattle.doubleword.specs.Doubleword.{Doubleword, plain_cycles}
use Rattle.doubleword.specs.DoublewordCode.{doubleword_of, DoublewordNeeds}
use Rattle.doubleword.specs.Cursor.{wanted_of, line_address}
use Rattle.reading.specs.Reading.{Missed, buffer_of, records_of, plain_miss, fill_cycles, spoiled, fill_miss, read_miss}
use Rattle.carrying.specs.declared.cycle.Brought.{Brought}
use Rattle.carrying.specs.declared.next.CarriedRead.{CarriedRead}
use Rattle.carrying.specs.CarryingCode.{LandedTo, CyclesBrought, spoiled_at, none_brought, MissNeeds, begun_by, carried_read, keeps, CarriedNext}
use Rattle.carrying.proofs.Cycles.{records_length}
use Rattle.carrying.proofs.Misses.{landed_begin}

-- what a miss needs of what a doubleword needs
pub miss_needs : (w : Wanted) (first ram parity answers log : ℕ) → DoublewordNeeds w first ram parity answers log → (carried : CarriedWrites) (landed : ℕ) → CarriedNeeds carried ram parity → landed ≤ carried.count → due first (left_from carried landed) ≡ [] →
    MissNeeds carried w.line first landed ram parity answers log
miss_needs w first ram parity answers log z carried landed k h d =
    record {
      aligned = z.aligned;
      inside = z.inside;
      small = z.small;
      bits = z.bits;
      served = z.served;
      records = z.records;
      few = z.few;
      writes = k;
      within = h;
      due = d;
    }

module _ (cursor : AccessCursor) (xs : List ℕ) (carried : CarriedWrites) (landed : ℕ) (m : Memory) (array log₀ : List ℕ) (mayFill : Bool) (f : Option ℕ) (w : Wanted) (ew : w ≡ wanted_of cursor) where
  abbrev ws : List Carried
  ws = left_from carried landed

  abbrev first : ℕ
  first = cursor.cycles

  abbrev Leaves : List ℕ → CarriedRead → Memory → List ℕ → Type 0
  Leaves group r m' log = CarriedNext f (begun_by f mayFill m ws first array (doubleword_of (wanted_of cursor) group)) carried landed m cursor log₀ r m' log

  -- a hit
  pub hit_next : (group : List ℕ) (way : ℕ) (r : CarriedRead) → f ≡ Some way → due first ws ≡ [] → landed ≤ carried.count →
      r.value ≡ value_of (bytes_at array (data_offset w.line way + w.from) w.count) → r.value < 256 ^ w.count →
      r ≡ carried_read w.line (Some way) (none_brought landed) false (replicate 16 0) w.count r.value → Leaves group r m log₀
  unfolding begun_by words_of
  hit_next group way r e d h ev fits er =
      let n : first + 0 ≡ first = omega arith in
      rw e
      (record {
        line = ap (λ (x : CarriedRead). x.line) er ∙ ap (λ (x : Wanted). x.line) ew;
        counts = ap (λ (x : CarriedRead). x.count) er ∙ ap (λ (x : Wanted). x.count) ew;
        founds = ap (λ (x : CarriedRead). x.found) er;
        kept = ap keeps er;
        buffers = ap (λ (x : CarriedRead). x.buffer) er;
        gives = rw ew at ev;
        fits = rw ew at fits;
        made = ap (λ (x : CarriedRead). x.cycles) er;
        most = rw (ap (λ (x : CarriedRead). x.cycles) er) (omega arith);
        logs = refl;
        lands = rw (ap (λ (x : CarriedRead). x.cycles) er, ap (λ (x : CarriedRead). x.landed) er, n) (landed_begin carried landed m first d h);
      })

  -- a miss
  module _ (e : f ≡ None) (group : List ℕ) (b : Brought) (m' : Memory) (buffer log : List ℕ) (last : Bool) (r : CarriedRead)
      (ev : r.value ≡ value_of (bytes_at buffer w.from w.count)) (fits : r.value < 256 ^ w.count) (er : r ≡ carried_read w.line None b last buffer w.count r.value) (most : b.used ≤ 16) where
    abbrev here : Doubleword
    here = doubleword_of (wanted_of cursor) group

    missed_next : (missed : Missed) → read_miss mayFill [] m ws first here ≡ missed → LandedTo carried landed m (first + b.used) m' b.landed → log ≡ logged log₀ first missed.records → b.used ≡ length missed.records →
        buffer ≡ missed.buffer → (not b.spoiled && last) ≡ missed.kept → Leaves group r m' log
    unfolding begun_by
    missed_next missed em lands el en eb ek =
        rw (e, em)
        (record {
          line = ap (λ (x : CarriedRead). x.line) er ∙ ap (λ (x : Wanted). x.line) ew;
          counts = ap (λ (x : CarriedRead). x.count) er ∙ ap (λ (x : Wanted). x.count) ew;
          founds = ap (λ (x : CarriedRead). x.found) er;
          kept = ap keeps er ∙ ek;
          buffers = ap (λ (x : CarriedRead). x.buffer) er ∙ eb;
          gives = rw (ew, eb) at ev;
          fits = rw ew at fits;
          made = ap (λ (x : CarriedRead). x.cycles) er ∙ en;
          most = rw (ap (λ (x : CarriedRead). x.cycles) er) most;
          logs = el;
          lands = rw (ap (λ (x : CarriedRead). x.cycles) er, ap (λ (x : CarriedRead). x.landed) er) lands;
        })

    module _ (kind : ℕ) (cs : List Cycle) (made : CyclesBrought kind (line_address cursor) first carried landed m cs (none_brought landed) b m' (replicate 16 0) buffer log₀ log) where
      used_is : b.used ≡ length cs
      used_is = omega (arith, made.made)

      records_made : b.used ≡ length (records_of kind (memory_at [] m ws) (line_address cursor) first cs)
      records_made = used_is ∙ sym (records_length (memory_at [] m ws) (line_address cursor) kind first cs)

      zero_more : first + 0 ≡ first
      zero_more = omega arith

      logs_made : log ≡ logged log₀ first (records_of kind (memory_at [] m ws) (line_address cursor) first cs)
      logs_made = rw zero_more at made.logs

      buffers_made : buffer ≡ buffer_of (memory_at [] m ws) (line_address cursor) first cs (replicate 16 0)
      buffers_made = rw zero_more at made.buffers

    -- as the code has it, from its own wanted bytes and group of answers
    module _ (given : List ℕ) (eg : given ≡ group) where
      pub plain_next : (mayFill && ken (get_or given 0 0)) ≡ false → last ≡ false → CyclesBrought plain_kind w.line first carried landed m (cycles_of given (run w.from w.count ∷ [])) (none_brought landed) b m' (replicate 16 0) buffer log₀ log →
          Leaves group r m' log
      unfolding read_miss plain_miss
      plain_next p el k =
          let cs = plain_cycles here in
          let made : CyclesBrought plain_kind (line_address cursor) first carried landed m cs (none_brought landed) b m' (replicate 16 0) buffer log₀ log = rw (ew, eg) at k in
          missed_next (plain_miss [] m ws first here) (cond_false _ _ _ (rw eg at p)) made.lands (logs_made plain_kind cs made) (records_made plain_kind cs made) (buffers_made plain_kind cs made) (rw el (and-false (not b.spoiled)))

      -- kept where the last answer used has KEN# and no write landed in the line after the first cycle
      pub fill_next : (mayFill && ken (get_or given 0 0)) ≡ true → CyclesBrought fill_kind w.line first carried landed m (cycles_of given (burst (w.from / 4))) (none_brought landed) b m' (replicate 16 0) buffer log₀ log → 0 < b.used →
          last ≡ ken (get_or given (b.used - 1) 0) → Leaves group r m' log
      unfolding read_miss fill_miss spoiled in_line
      fill_next p k some el =
          let cs = fill_cycles here in
          let made : CyclesBrought fill_kind (line_address cursor) first carried landed m cs (none_brought landed) b m' (replicate 16 0) buffer log₀ log = rw (ew, eg) at k in
          let start : false ≡ spoiled_at carried landed (line_address cursor) first (first + 0) = rw (zero_more fill_kind cs made, due_early first (suc first) ws (omega arith)) in
          let u = used_is fill_kind cs made in
          let s : b.spoiled ≡ spoiled ws first here = made.spoils start ∙ ap (spoiled_at carried landed (line_address cursor) first) (ap (λ (i : ℕ). first + i) u) in
          let l : ken (last_answer 0 cs) ≡ ken (get_or group (b.used - 1) 0) = ap ken (last_answer_lem group (burst (cursor.address % 16 / 4)) b.used u some) in
          missed_next (fill_miss [] m ws first here) (cond_true _ _ _ (rw eg at p)) made.lands (logs_made fill_kind cs made) (records_made fill_kind cs made) (buffers_made fill_kind cs made) (rw (s, l, el, eg))

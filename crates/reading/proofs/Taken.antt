-- Laws of a read by the bytes that RAM takes of the carried writes: a doubleword does the same with them and no range as with the writes and the ranges.
use Rattle.std.specs.Prelude.{Option, Some, None}
use Prim.Native.Nat.{ℕ, suc, ◌+◌}
use mathlib.Core.Path.{◌≡◌, refl, sym, ◌∙◌, ap}
use mathlib.Core.Bool.{Bool}
use mathlib.Core.List.{List, [], ◌∷◌}
use lib.ListN.{length, replicate}
use Rattle.ranges.specs.Ranges.{Range}
use Rattle.memory.specs.Parity.{Memory}
use Rattle.carried.specs.Carried.{Carried, due, later, landed, memory_at, in_line, taken}
use Rattle.carried.proofs.Taken.{WithinLines, due_lines, taken_due, taken_later, taken_in_line, taken_landed, taken_memory}
use Rattle.bus.specs.Bus.{Cycle, buffer_after}
use Rattle.bus.specs.Record.{plain_kind, fill_kind}
use Rattle.doubleword.specs.Doubleword.{Doubleword, plain_cycles}
use Rattle.reading.specs.Reading.{Missed, buffer_of, records_of, plain_miss, fill_cycles, spoiled, fill_miss, read_miss, settled, read_done}

-- cycles over memories that are the same at each
module _ (a b : ℕ → Memory) (e : (n : ℕ) → a n ≡ b n) (line : ℕ) where
  buffer_same : (n : ℕ) (cs : List Cycle) (buffer : List ℕ) → buffer_of a line n cs buffer ≡ buffer_of b line n cs buffer
  unfolding buffer_of
  buffer_same n [] buffer = refl
  buffer_same n (c ∷ cs) buffer =
      buffer_same (suc n) cs (buffer_after (a n).ram line c.moved buffer)
      ∙ ap (λ (m : Memory). buffer_of b line (suc n) cs (buffer_after m.ram line c.moved buffer)) (e n)

  records_same : (kind n : ℕ) (cs : List Cycle) → records_of kind a line n cs ≡ records_of kind b line n cs
  unfolding records_of
  records_same kind n [] = refl
  records_same kind n (c ∷ cs) = rw (e n, records_same kind (suc n) cs)

module _ (rs : List Range) (m : Memory) (ws : List Carried) (h : WithinLines ws) (first : ℕ) (w : Doubleword) where
  abbrev with_ranges_lem : ℕ → Memory
  with_ranges_lem = memory_at rs m ws

  abbrev with_taken : ℕ → Memory
  with_taken = memory_at [] m (taken rs ws)

  same : (n : ℕ) → with_ranges_lem n ≡ with_taken n
  same n = taken_memory rs m ws n h

  plain_taken : plain_miss rs m ws first w ≡ plain_miss [] m (taken rs ws) first w
  unfolding plain_miss
  plain_taken =
      rw (
        buffer_same with_ranges_lem with_taken same w.line first (plain_cycles w) (replicate 16 0),
        records_same with_ranges_lem with_taken same w.line plain_kind first (plain_cycles w),
      )

  -- a write into a read-only line drops a fill of it too
  spoiled_taken : spoiled ws first w ≡ spoiled (taken rs ws) first w
  unfolding spoiled
  spoiled_taken =
      let n = first + length (fill_cycles w) in
      sym
      (ap (λ (l : List Carried). in_line w.line (due n l)) (taken_later rs (suc first) ws)
      ∙ ap (in_line w.line) (taken_due rs n (later (suc first) ws))
      ∙ taken_in_line rs w.line (due n (later (suc first) ws)))

  fill_taken : fill_miss rs m ws first w ≡ fill_miss [] m (taken rs ws) first w
  unfolding fill_miss
  fill_taken =
      rw (
        buffer_same with_ranges_lem with_taken same w.line first (fill_cycles w) (replicate 16 0),
        records_same with_ranges_lem with_taken same w.line fill_kind first (fill_cycles w),
        spoiled_taken,
      )

  pub miss_taken : (mayFill : Bool) → read_miss mayFill rs m ws first w ≡ read_miss mayFill [] m (taken rs ws) first w
  unfolding read_miss
  miss_taken mayFill = rw (plain_taken, fill_taken)

  settled_taken : (victim : ℕ) (array : List ℕ) (missed : Missed) → settled victim rs m ws first array w missed ≡ settled victim [] m (taken rs ws) first array w missed
  unfolding settled
  settled_taken victim array missed =
      let n = first + length missed.records in
      let e : landed rs (due n ws) m ≡ landed [] (due n (taken rs ws)) m =
      taken_landed rs (due n ws) m (due_lines n ws h) ∙ ap (λ (l : List Carried). landed [] l m) (sym (taken_due rs n ws)) in
      rw e

  pub done_taken : (f : Option ℕ) (victim : ℕ) (mayFill : Bool) (array : List ℕ) → read_done f victim mayFill rs m ws first array w ≡ read_done f victim mayFill [] m (taken rs ws) first array w
  unfolding read_done
  done_taken (Some way) victim mayFill array = refl
  done_taken None victim mayFill array = rw (miss_taken mayFill) (settled_taken victim array (read_miss mayFill [] m (taken rs ws) first w))

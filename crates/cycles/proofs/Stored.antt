-- Whatever the answers, write cycles write just the wanted bytes.
use Prim.Native.Nat.{ℕ, suc, ◌+◌, ◌%◌, ◌≤◌, ◌<◌}
use mathlib.Core.Path.{◌≡◌, refl, ◌∙◌, ap}
use mathlib.Core.List.{List, [], ◌∷◌}
use native.Mathlib.Omega.{arith}
use lib.ListN.{length, get_or, set, replicate, length-set}
use lib.Seq.{sets, get_or-set_same}
use Rattle.words.specs.Bytes.{bytes_at}
use Rattle.words.proofs.Places.{bytes_length, sets_below}
use Rattle.words.proofs.Spans.{bytes_split}
use Rattle.ranges.specs.Ranges.{Range}
use Rattle.memory.specs.Parity.{Memory, written}
use Rattle.memory.proofs.Written.{written_append}
use Rattle.bus.specs.Bus.{Run, run, cycles_of, after_cycles, memory_after}
use Rattle.cycles.proofs.Brought.{OneDoubleword, cycles_as_runs}

bytes_none : (l : List ℕ) (i : ℕ) → bytes_at l i 0 ≡ []
unfolding bytes_at
bytes_none l i = refl

bytes_cons : (l : List ℕ) (i n : ℕ) → bytes_at l i (suc n) ≡ get_or l i 0 ∷ bytes_at l (suc i) n
unfolding bytes_at
bytes_cons l i n = refl

-- bytes that were put in are read back
pub bytes_sets : (l : List ℕ) (i : ℕ) (x : List ℕ) → i + length x ≤ length l → bytes_at (sets l i x) i (length x) ≡ x
bytes_sets l i [] h = bytes_none l i
bytes_sets l i (b ∷ x) h =
    let e : get_or (sets (set l i b) (suc i) x) i 0 ≡ b = sets_below (set l i b) (suc i) x i (omega arith) ∙ get_or-set_same l i b 0 (omega arith) in
    bytes_cons (sets (set l i b) (suc i) x) i (length x) ∙ rw (e, bytes_sets (set l i b) (suc i) x (rw length-set (omega arith)))

sent_split : (rs : List Range) (buffer : List ℕ) (line a m n : ℕ) (s : Memory) →
    memory_after rs buffer line (run a (m + n)) s ≡ memory_after rs buffer line (run (a + m) n) (memory_after rs buffer line (run a m) s)
sent_split rs buffer line a m n s =
    let e : line + (a + m) ≡ line + a + m = omega arith in
    rw (bytes_split buffer a m n, written_append rs s (line + a) (bytes_at buffer a m) (bytes_at buffer (a + m) n), bytes_length buffer a m, e)

-- write cycles write the wanted bytes
pub wanted_written : (rs : List Range) (x : List ℕ) (line : ℕ) (w : Run) → OneDoubleword w → length x ≡ w.count → (xs : List ℕ) → 16 ≤ length xs → (m : Memory) →
    after_cycles (memory_after rs (sets (replicate 16 0) w.from x) line) (cycles_of xs (w ∷ [])) m ≡ written rs m (line + w.from) x
wanted_written rs x line w g e xs l m =
    let buffer = sets (replicate 16 0) w.from x in
    cycles_as_runs (memory_after rs buffer line) (sent_split rs buffer line) xs (w ∷ []) (g, tt) (omega (arith, g.line)) m
    ∙ ap (written rs m (line + w.from)) (rw e at (bytes_sets (replicate 16 0) w.from x (rw e g.line)))

-- bytes of one doubleword
pub one_run : (from count : ℕ) → 0 < count → from % 4 + count ≤ 4 → from < 16 → OneDoubleword (run from count)
one_run from count s l h = record { some = s; lanes = l; line = omega arith }

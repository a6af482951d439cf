-- Laws of cycles: each moves bytes of one doubleword, and where parity agrees no record carries 128.
use Prim.Native.Nat.{ℕ, zero, suc, ◌+◌, ◌*◌, ◌/◌, ◌%◌, ◌≤◌, ◌<◌}
use mathlib.Core.Path.{◌≡◌, refl, ◌∙◌, ap}
use mathlib.Core.Bool.{Bool, true, false, cond}
use mathlib.Core.List.{List, [], ◌∷◌, ◌++◌, map}
use native.Mathlib.Omega.{arith}
use native.Mathlib.Decide.{dec_lt}
use native.Mathlib.Nat.{zero-add}
use lib.ListN.{length, get_or, get_or-eq_default}
use lib.Seq.{length-sets}
use Rattle.memory.specs.Parity.{Memory, Agrees}
use Rattle.bus.proofs.Flags.{lanes_below, words_length}
use Rattle.bus.specs.Bus.{Run, run, size_of, wanted_after, Cycle, cycles_of}
use Rattle.bus.specs.Record.{Record, flags_of, read_record, write_record, write_kind, words_of, logged}
use Rattle.bus.proofs.Sizing.{size_some, size_most}
use Rattle.words.proofs.Places.{sets_in}
use Rattle.reading.specs.Reading.{records_of}
use Rattle.cycles.proofs.Brought.{OneDoubleword, Each, left_each}
use Rattle.calls.proofs.Memories.{never_wrong}

-- RECORDS

abbrev pub EachCycle : List Cycle → Type 0
EachCycle [] = Unit {0}
EachCycle (c ∷ cs) = OneDoubleword c.moved × EachCycle cs

moved_within : (x : ℕ) (w : Run) → OneDoubleword w → OneDoubleword (run w.from (size_of x w))
moved_within x w g =
    let a = size_some x w.from w.count g.some in
    let b = size_most x w.from w.count in
    record { some = a; lanes = omega (arith, g.lanes); line = omega (arith, g.line) }

pub cycles_within : (xs : List ℕ) (ws : List Run) → Each ws → EachCycle (cycles_of xs ws)
unfolding cycles_of
cycles_within [] ws g = tt
cycles_within (x ∷ xs) [] g = tt
cycles_within (x ∷ xs) (w ∷ ws) g = (moved_within x w g.0, cycles_within xs (wanted_after x w ws) (left_each x w ws g.0 g.1))

-- no record carries 128
abbrev carries : Record → ℕ
carries r = r.flags / 128 % 2

abbrev pub NoParityErrors : List Record → Type 0
NoParityErrors [] = Unit {0}
NoParityErrors (r ∷ rs) = (carries r ≡ 0) × NoParityErrors rs

pub no_error_append : (a b : List Record) → NoParityErrors a → NoParityErrors b → NoParityErrors (a ++ b)
no_error_append [] b p q = q
no_error_append (r ∷ rs) b p q = (p.0, no_error_append rs b p.1 q)

no_error_map : (make : Cycle → Record) → ((c : Cycle) → OneDoubleword c.moved → carries (make c) ≡ 0) → (cs : List Cycle) → EachCycle cs → NoParityErrors (map make cs)
no_error_map make h [] g = tt
no_error_map make h (c ∷ cs) g = (h c g.0, no_error_map make h cs g.1)

cond_most : (b : Bool) → cond b 64 0 ≤ 64
cond_most true = omega arith
cond_most false = omega arith

no_error_flags : (lane n kind : ℕ) → kind ≤ 32 → lane + n ≤ 4 → (last : Bool) → flags_of lane n kind last false / 128 % 2 ≡ 0
unfolding flags_of
no_error_flags lane n kind k h last = omega (arith, lanes_below lane n h, cond_most last)

-- of read cycles, by memory as it is at each of them
pub no_error_reads : (kind : ℕ) → kind ≤ 32 → (at : ℕ → Memory) → ((k : ℕ) → Agrees (at k)) → (line : ℕ) → ((k : ℕ) → line + 16 ≤ length (at k).ram) →
    (cs : List Cycle) → EachCycle cs → (n : ℕ) → NoParityErrors (records_of kind at line n cs)
unfolding records_of read_record
no_error_reads kind q at a line l [] g n = tt
no_error_reads kind q at a line l (c ∷ cs) g n =
    let w = g.0 in
    let i = l n in (
      rw (never_wrong (at n) (a n) (line + c.moved.from) c.moved.count (omega (arith, w.line)))
          (no_error_flags (c.moved.from % 4) c.moved.count kind q w.lanes c.last),
      no_error_reads kind q at a line l cs g.1 (suc n),
    )

pub no_error_writes : (buffer : List ℕ) (line : ℕ) (cs : List Cycle) → EachCycle cs → NoParityErrors (map (write_record buffer line) cs)
unfolding write_record
no_error_writes buffer line =
    no_error_map (write_record buffer line) λ c g. no_error_flags (c.moved.from % 4) c.moved.count write_kind (omega arith) g.lanes c.last

-- the flags that a log has for the records put into it
words_at : (rs : List Record) (k : ℕ) → NoParityErrors rs → get_or (words_of rs) (3 * k + 1) 0 / 128 % 2 ≡ 0
unfolding words_of
words_at [] k h = refl
words_at (r ∷ rs) zero h = h.0
words_at (r ∷ rs) (suc k) h = let e : 3 * suc k + 1 ≡ suc (suc (suc (3 * k + 1))) = omega arith in rw e (words_at rs k h.1)

pub logged_no_error : (log : List ℕ) (rs : List Record) → NoParityErrors rs → (k : ℕ) → k < length rs → get_or (logged log 0 rs) (3 * k + 1) 0 / 128 % 2 ≡ 0
logged_no_error log rs h k l =
    let n = words_length rs in
    elim (dec_lt (3 * k + 1) (length log)) [
      | yes p ↦ let e = sets_in log 0 (words_of rs) (3 * k + 1) (omega arith) (rw (zero-add (3 * k + 1)) p) in rw (zero-add (3 * k + 1)) at (ap (λ (x : ℕ). x / 128 % 2) e ∙ words_at rs k h)
      | no p ↦ rw (get_or-eq_default (logged log 0 rs) 0 {n = 3 * k + 1} (rw (length-sets log 0 (words_of rs)) (omega arith)))
    ]

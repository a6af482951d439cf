-- Laws of the writes with the bytes that RAM takes: they land with no range as the writes land with the ranges, and nothing else asks their bytes.
use Prim.Native.Nat.{ℕ, zero, suc, ◌+◌, ◌*◌, ◌/◌, ◌%◌, ◌≤◌, ◌<◌}
use mathlib.Core.Path.{◌≡◌, refl, sym, ◌∙◌, ap}
use mathlib.Core.Bool.{Bool, cond, ◌||◌}
use mathlib.Core.List.{List, [], ◌∷◌}
use native.Mathlib.Omega.{arith}
use lib.Dec.{eqb, ltb}
use lib.ListN.{length, get_or}
use Rattle.laws.proofs.Tests.{by_test}
use Rattle.ranges.specs.Ranges.{Range, read_only}
use Rattle.words.specs.Bytes.{bytes_at}
use Rattle.memory.specs.Parity.{Memory, stored, written}
use Rattle.memory.proofs.Written.{written_everywhere, written_line}
use Rattle.carried.specs.Carried.{Carried, due, later, landed, memory_at, in_line, taken}
use Rattle.carried.specs.CarriedCode.{write_in, writes_from, carried_of, CarriedNeeds}
use Rattle.carried.specs.declared.CarriedWrites.{CarriedWrites}

-- each write lies in one line
unfoldable pub WithinLines : List Carried → Type 0
WithinLines [] = Unit {0}
WithinLines (w ∷ ws) = (w.address % 16 + length w.bytes ≤ 16) × WithinLines ws

-- and so do some of them
pub due_lines : (n : ℕ) (ws : List Carried) → WithinLines ws → WithinLines (due n ws)
unfolding WithinLines due
due_lines n [] h = tt
due_lines n (w ∷ ws) h = by_test (λ t. WithinLines (cond t (w ∷ due n ws) [])) (ltb w.cycle n) (λ _. (h.0, due_lines n ws h.1)) (λ _. tt)

pub later_lines : (n : ℕ) (ws : List Carried) → WithinLines ws → WithinLines (later n ws)
unfolding WithinLines later
later_lines n [] h = tt
later_lines n (w ∷ ws) h = by_test (λ t. WithinLines (cond t (later n ws) (w ∷ ws))) (ltb w.cycle n) (λ _. later_lines n ws h.1) (λ _. h)

-- with no range all bytes are taken
pub taken_everywhere : (ws : List Carried) → taken [] ws ≡ ws
unfolding taken read_only
taken_everywhere [] = refl
taken_everywhere (w ∷ ws) = ap (λ (l : List Carried). w ∷ l) (taken_everywhere ws)

module _ (rs : List Range) where
  abbrev taken_of : Carried → Carried
  taken_of w = record { cycle = w.cycle; address = w.address; bytes = cond (read_only rs w.address) [] w.bytes }

  -- cycles and addresses stay
  pub taken_due : (n : ℕ) (ws : List Carried) → due n (taken rs ws) ≡ taken rs (due n ws)
  unfolding due taken
  taken_due n [] = refl
  taken_due n (w ∷ ws) =
      by_test (λ t. cond t (taken_of w ∷ due n (taken rs ws)) [] ≡ taken rs (cond t (w ∷ due n ws) [])) (ltb w.cycle n)
      (λ _. ap (λ (l : List Carried). taken_of w ∷ l) (taken_due n ws))
      (λ _. refl)

  pub taken_later : (n : ℕ) (ws : List Carried) → later n (taken rs ws) ≡ taken rs (later n ws)
  unfolding later taken
  taken_later n [] = refl
  taken_later n (w ∷ ws) =
      by_test (λ t. cond t (later n (taken rs ws)) (taken rs (w ∷ ws)) ≡ taken rs (cond t (later n ws) (w ∷ ws))) (ltb w.cycle n)
      (λ _. taken_later n ws)
      (λ _. refl)

  pub taken_in_line : (line : ℕ) (ws : List Carried) → in_line line (taken rs ws) ≡ in_line line ws
  unfolding in_line taken
  taken_in_line line [] = refl
  taken_in_line line (w ∷ ws) = ap (λ (b : Bool). eqb (w.address / 16 * 16) line || b) (taken_in_line line ws)

  pub taken_length : (ws : List Carried) → length (taken rs ws) ≡ length ws
  unfolding taken
  taken_length [] = refl
  taken_length (w ∷ ws) = ap suc (taken_length ws)

  -- a write of one line lands whole or not at all
  written_of : (m : Memory) (a : ℕ) (bytes : List ℕ) → a % 16 + length bytes ≤ 16 → written rs m a bytes ≡ written [] m a (cond (read_only rs a) [] bytes)
  unfolding stored
  written_of m a bytes h =
      written_line rs m a bytes h
      ∙ by_test (λ t. cond t m (stored m a bytes) ≡ stored m a (cond t [] bytes)) (read_only rs a) (λ _. refl) (λ _. refl)
      ∙ sym (written_everywhere m a (cond (read_only rs a) [] bytes))

  pub taken_landed : (ws : List Carried) (m : Memory) → WithinLines ws → landed rs ws m ≡ landed [] (taken rs ws) m
  unfolding WithinLines landed taken
  taken_landed [] m h = refl
  taken_landed (w ∷ ws) m h =
      taken_landed ws (written rs m w.address w.bytes) h.1
      ∙ ap (λ (x : Memory). landed [] (taken rs ws) x) (written_of m w.address w.bytes h.0)

  pub taken_memory : (m : Memory) (ws : List Carried) (n : ℕ) → WithinLines ws → memory_at rs m ws n ≡ memory_at [] m (taken rs ws) n
  taken_memory m ws n h =
      taken_landed (due (suc n) ws) m (due_lines (suc n) ws h) ∙ ap (λ (l : List Carried). landed [] l m) (sym (taken_due (suc n) ws))

-- THE STRUCT

-- how many bytes RAM takes of a write of a struct
abbrev pub length_taken : List Range → CarriedWrites → ℕ → ℕ
length_taken rs c k = cond (read_only rs (get_or c.addresses k 0)) 0 (get_or c.lengths k 0)

-- of a struct with the lengths that RAM takes
module _ (rs : List Range) (c : CarriedWrites) (lengths : List ℕ) where
  abbrev taken_by : CarriedWrites
  taken_by = record { count = c.count; cycles = c.cycles; addresses = c.addresses; lengths = lengths; bytes = c.bytes }

  module _ (few : c.count ≤ 4) (each : (k : ℕ) → k < 4 → get_or lengths k 0 ≡ length_taken rs c k) where
    taken_at : (k : ℕ) → k < 4 → write_in taken_by k ≡ taken_of rs (write_in c k)
    unfolding bytes_at
    taken_at k h =
        let b = read_only rs (get_or c.addresses k 0) in
        let n = get_or c.lengths k 0 in
        let bytes : bytes_at c.bytes (16 * k) (get_or lengths k 0) ≡ cond b [] (bytes_at c.bytes (16 * k) n) =
        ap (bytes_at c.bytes (16 * k)) (each k h)
        ∙ by_test (λ t. bytes_at c.bytes (16 * k) (cond t 0 n) ≡ cond t [] (bytes_at c.bytes (16 * k) n)) b (λ _. refl) (λ _. refl) in
        ap (λ (l : List ℕ). record { cycle = get_or c.cycles k 0; address = get_or c.addresses k 0; bytes = l }) bytes

    taken_from : (k n : ℕ) → k + n ≤ 4 → writes_from taken_by k n ≡ taken rs (writes_from c k n)
    unfolding writes_from taken
    taken_from k zero h = refl
    taken_from k (suc n) h = rw (taken_at k (omega arith), taken_from (suc k) n (omega arith))

    pub taken_carried : carried_of taken_by ≡ taken rs (carried_of c)
    taken_carried = taken_from 0 c.count (omega arith)

    shorter : (k : ℕ) → k < c.count → get_or lengths k 0 ≤ get_or c.lengths k 0
    shorter k h =
        rw (each k (omega arith))
        (by_test (λ t. cond t 0 (get_or c.lengths k 0) ≤ get_or c.lengths k 0) (read_only rs (get_or c.addresses k 0)) (λ _. omega arith) (λ _. omega arith))

    pub taken_needs : (ram parity : ℕ) → CarriedNeeds c ram parity → CarriedNeeds taken_by ram parity
    taken_needs ram parity z =
        record {
          few = few;
          short = λ k h. omega (arith, shorter k h, z.short k h);
          inside = λ k h. omega (arith, shorter k h, z.inside k h);
          bits = z.bits;
        }

-- Laws of the records of cycles of one doubleword, from numbers.
use Prim.Native.Nat.{ℕ, ◌+◌, ◌-◌, ◌/◌, ◌%◌, ◌≤◌, ◌<◌}
use mathlib.Core.Path.{◌≡◌, refl, ◌∙◌}
use mathlib.Core.Bool.{Bool, true, cond, not, ◌&&◌}
use mathlib.Core.List.{List, [], ◌∷◌, map}
use native.Mathlib.Omega.{arith}
use native.Mathlib.Nat.{add-zero}
use lib.Dec.{eqb}
use lib.ListN.{length, get_or}
use Rattle.laws.proofs.Tests.{by_test}
use Rattle.words.specs.Bytes.{lanes_word}
use Rattle.bus.specs.Bus.{Run, run, size_of}
use Rattle.bus.specs.Record.{Record, flags_of, logged}
use Rattle.bus.specs.Runs.{run_cycles}
use Rattle.bus.proofs.Sizing.{size_lane, size_whole}
use Rattle.parts.specs.declared.lanes.Transfer.{Transfer}
use Rattle.parts.specs.Parts.{bits_in, moving, part_record}
use Rattle.parts.specs.Made.{CyclesMade}
use Rattle.parts.proofs.Made.{made_one}

-- no record tells a cycle's answer
pub part_blind : (t : Transfer) (w : Run) (x : ℕ) (b : Bool) →
    part_record t (record { moved = w; answer = x; last = b }) ≡ part_record t (moving w.from w.count b)
unfolding part_record
part_blind t w x b = refl

-- the record of a cycle, from what its parts leave
pub part_left : (t : Transfer) (lane count place : ℕ) (last : Bool) (log₀ : List ℕ) {flags moved : ℕ} {log : List ℕ} →
    flags ≡ flags_of (lane % 4) count t.kind last (not (eqb (bits_in t.held (lane % 4) count) (bits_in t.due (lane % 4) count))) →
    moved ≡ lanes_word t.word (lane % 4) count →
    log ≡ logged log₀ place (record { address = t.base; flags = flags; word = moved } ∷ []) →
    log ≡ logged log₀ place (part_record t (moving lane count last) ∷ [])
unfolding part_record
part_left t lane count place last log₀ ef ed el = el ∙ rw (ed, ef)

-- only the lane matters that a run starts in
pub part_lane : (t : Transfer) (last : Bool) (xs : List ℕ) (a b count : ℕ) → a % 4 ≡ b % 4 →
    map (part_record t) (run_cycles last xs (run a count)) ≡ map (part_record t) (run_cycles last xs (run b count))
unfolding run_cycles part_record
part_lane t last [] a b count e = refl
part_lane t last (x ∷ xs) a b count e =
    let make = part_record t in
    let s = size_of x (run b count) in
    let h : (a + s) % 4 ≡ (b + s) % 4 = omega arith in
    rw (size_lane x a b count e, e)
    (by_test (λ whole. ◌≡◌ {A = List Record}
    (make (record { moved = run b s; answer = x; last = eqb s count && last }) ∷ map make (cond whole [] (run_cycles last xs (run (a + s) (count - s)))))
    (make (record { moved = run b s; answer = x; last = eqb s count && last }) ∷ map make (cond whole [] (run_cycles last xs (run (b + s) (count - s))))))
    (eqb s count)
    (λ _. refl)
    (λ _. rw (part_lane t last xs (a + s) (b + s) (count - s) h)))

-- one cycle, where the board asks for no smaller size
pub part_whole : (t : Transfer) (lane count : ℕ) → lane + count ≤ 4 → (xs : List ℕ) → 0 < length xs → get_or xs 0 0 / 2 % 4 ≡ 0 → (first : ℕ) (log₀ log : List ℕ) →
    log ≡ logged log₀ first (part_record t (moving lane count true) ∷ []) →
    CyclesMade (part_record t) (run_cycles true xs (run lane count)) first 0 log₀ 1 log
part_whole t lane count l xs some w first log₀ log el =
    made_one (part_record t) (part_blind t) true xs first lane count 0 log₀ log some
    (size_whole (get_or xs 0 0) lane count w (omega arith)) (rw (add-zero first) el)

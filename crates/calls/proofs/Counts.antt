-- An access makes at most as many cycles as it has answers, so that the log of an accepted one has room for each of its records.
use Rattle.std.specs.Prelude.{Option, Some, None}
use Prim.Native.Nat.{ℕ, zero, suc, ◌+◌, ◌*◌, ◌-◌, ◌/◌, ◌%◌, ◌≤◌, ◌<◌, min}
use mathlib.Core.Path.{◌≡◌, refl}
use mathlib.Core.Bool.{Bool, true, false, cond, ◌&&◌}
use mathlib.Core.List.{List, [], ◌∷◌, ◌++◌, map}
use native.Mathlib.Omega.{arith}
use lib.ListN.{length, get_or, take, drop, length-append, length-take, length-map}
use lib.Seq.{length-sets}
use Rattle.laws.proofs.Tests.{by_test}
use Rattle.ways.specs.Address.{byte_of}
use Rattle.words.proofs.Places.{sets_in}
use Rattle.ranges.specs.Ranges.{Range}
use Rattle.memory.specs.Parity.{Memory}
use Rattle.carried.specs.Carried.{Carried, memory_at}
use Rattle.bus.specs.Bus.{Run, run, Cycle, cycles_of, wanted_after, ken}
use Rattle.bus.specs.Groups.{group_size}
use Rattle.bus.specs.Record.{Record, words_of, logged}
use Rattle.bus.proofs.Flags.{words_length}
use Rattle.doubleword.specs.Doubleword.{Doubleword, Done, doublewords_of}
use Rattle.reading.specs.Reading.{read_hit, fill_miss, plain_miss, read_miss, settled, read_done}
use Rattle.writing.specs.Writing.{write_through, write_done}
use Rattle.refusal.specs.Call.{State, After}
use Rattle.access.specs.Access.{next, all_of, write_one, UnderWay, read_one, read_next, read_each}
use Rattle.calls.specs.Calls.{records_from}
use Rattle.calls.specs.Matches.{NoParityError}
use Rattle.calls.proofs.Following.{records_length}

cycles_most : (xs : List ℕ) (ws : List Run) → length (cycles_of xs ws) ≤ length xs
unfolding cycles_of
cycles_most [] ws = omega arith
cycles_most (x ∷ xs) [] = omega arith
cycles_most (x ∷ xs) (w ∷ ws) = let h = cycles_most xs (wanted_after x w ws) in omega arith

records_most : (make : Cycle → Record) (xs : List ℕ) (ws : List Run) → length (map make (cycles_of xs ws)) ≤ length xs
records_most make xs ws = rw (length-map (cycles_of xs ws) make) (cycles_most xs ws)

-- of a doubleword
done_most : (f : Option ℕ) (victim : ℕ) (mayFill : Bool) (rom : List Range) (m : Memory) (ws : List Carried) (first : ℕ) (array : List ℕ) (w : Doubleword) →
    length (read_done f victim mayFill rom m ws first array w).records ≤ length w.answers
unfolding read_done read_hit settled read_miss fill_miss plain_miss
done_most (Some way) victim mayFill rom m ws first array w = omega arith
done_most None victim mayFill rom m ws first array w =
    by_test (λ b. length (cond b (fill_miss rom m ws first w) (plain_miss rom m ws first w)).records ≤ length w.answers) (mayFill && ken (get_or w.answers 0 0))
    (λ _. rw (records_length _ (memory_at rom m ws) w.line first _) (cycles_most w.answers _))
    (λ _. rw (records_length _ (memory_at rom m ws) w.line first _) (cycles_most w.answers _))

read_most : (pcd : Bool) (rom : List Range) (u : UnderWay) (w : Doubleword) → length (read_one pcd rom u w).records ≤ length w.answers
unfolding read_one
read_most pcd rom u w = done_most _ _ _ rom u.unit.memory u.writes u.cycle u.unit.array w

sent_most : (f : Option ℕ) (stays : Bool) (rom : List Range) (m : Memory) (array operand : List ℕ) (w : Doubleword) → length (write_done f stays rom m array operand w).records ≤ length w.answers
unfolding write_done write_through
sent_most (Some way) true rom m array operand w = omega arith
sent_most (Some way) false rom m array operand w = records_most _ w.answers _
sent_most None stays rom m array operand w = records_most _ w.answers _

write_most : (rom : List Range) (operand : List ℕ) (s : State) (w : Doubleword) → length (write_one rom operand s w).records ≤ length w.answers
unfolding write_one
write_most rom operand s w = sent_most _ _ rom s.memory s.array operand w

-- of an access: its doublewords one after the other, in states of a read or of a write
module _ {S : Type 0} (one : S → Doubleword → Done) (most : (s : S) (w : Doubleword) → length (one s w).records ≤ length w.answers) (rest : S → Doubleword → S)
    (all : S → List Doubleword → List Record) (none : (s : S) → all s [] ≡ []) (parted : (s : S) (w : Doubleword) (ws : List Doubleword) → all s (w ∷ ws) ≡ (one s w).records ++ all (rest s w) ws) where
  each_most : (g : ℕ) (xs : List ℕ) (a n place : ℕ) (s : S) → length (all s (doublewords_of g xs a n place)) ≤ group_size * g
  unfolding doublewords_of
  each_most zero xs a n place s = rw (none s) (omega arith)
  each_most (suc g) xs a zero place s = rw (none s) (omega arith)
  each_most (suc g) xs a (suc n) place s =
      let k = min (suc n) (4 - a % 4) in
      let w : Doubleword = record { line = a / 16 * 16; wanted = run (byte_of a) k; place = place; answers = take group_size xs } in
      let ws = doublewords_of g (drop group_size xs) (a + k) (suc n - k) (place + k) in
      let h : length (one s w).records ≤ length (take group_size xs) = most s w in
      let t : length (take group_size xs) ≡ min group_size (length xs) = length-take group_size xs in
      let r : length (all (rest s w) ws) ≤ group_size * g = each_most g (drop group_size xs) (a + k) (suc n - k) (place + k) (rest s w) in
      rw (parted s w ws, length-append (one s w).records (all (rest s w) ws)) (omega arith)

pub reads_most : (pcd : Bool) (rom : List Range) (g : ℕ) (xs : List ℕ) (a n place : ℕ) (u : UnderWay) → length (read_each pcd rom u (doublewords_of g xs a n place)).records ≤ group_size * g
unfolding read_each
reads_most pcd rom = each_most (read_one pcd rom) (read_most pcd rom) (λ u w. read_next u w (read_one pcd rom u w)) (λ u ws. (read_each pcd rom u ws).records) (λ u. refl) (λ u w ws. refl)

pub writes_most : (rom : List Range) (operand : List ℕ) (g : ℕ) (xs : List ℕ) (a n place : ℕ) (s : State) → length (all_of (write_one rom operand) s (doublewords_of g xs a n place)).records ≤ group_size * g
unfolding all_of
writes_most rom operand = each_most (write_one rom operand) (write_most rom operand) (λ s w. next s w (write_one rom operand s w)) (λ s ws. (all_of (write_one rom operand) s ws).records) (λ s. refl) (λ s w ws. refl)

-- an accepted access leaves each of its records in the log
pub records_there : (log : List ℕ) (rs : List Record) (n : ℕ) → length rs ≤ n → 3 * n ≤ length log → 3 * length rs ≤ length (logged log 0 rs)
records_there log rs n h l = rw (length-sets log 0 (words_of rs)) (omega arith)

-- and those that it leaves are these
words_left : (rs : List Record) (log : List ℕ) (i : ℕ) → ((j : ℕ) → j < length (words_of rs) → get_or log (i + j) 0 ≡ get_or (words_of rs) j 0) → records_from log i (length rs) ≡ rs
unfolding records_from words_of
words_left [] log i h = refl
words_left (r ∷ rs) log i h =
    let a : get_or log i 0 ≡ r.address = let z : i + 0 ≡ i = omega arith in rw z at (h 0 (omega arith)) in
    let b : get_or log (i + 1) 0 ≡ r.flags = h 1 (omega arith) in
    let c : get_or log (i + 2) 0 ≡ r.word = h 2 (omega arith) in
    rw (a, b, c, words_left rs log (i + 3) (λ j l. let z : i + suc (suc (suc j)) ≡ i + 3 + j = omega arith in rw z at (h (suc (suc (suc j))) (omega arith))))

pub records_left_lem : (log : List ℕ) (rs : List Record) → 3 * length rs ≤ length log → records_from (logged log 0 rs) 0 (length rs) ≡ rs
records_left_lem log rs l =
    words_left rs (logged log 0 rs) 0 (λ j k. let n = words_length rs in sets_in log 0 (words_of rs) j k (omega arith))

-- a call that counts no cycle leaves none
pub none_counted : (a : After) → a.outcome.cycles ≡ 0 → NoParityError a
none_counted a z = record { there = omega arith; clear = λ k l. absurd (omega arith) }

-- Document 01, 'One doubleword': the board's answers, the sizing of a cycle, the cycles of a list of wanted bytes, the burst order.
use Rattle.std.specs.Prelude.{ℕ, ◌+◌, ◌-◌, ◌*◌, ◌/◌, ◌%◌, min, Bool, true, false, cond, List, [], ◌∷◌, map, eqb}
use Rattle.std.specs.Int.Bits.{bit_xor}
use Rattle.std.proofs.lemmas.List.Edits.{sets}
use Rattle.words.specs.Bytes.{bytes_at}
use Rattle.ranges.specs.Ranges.{Range}
use Rattle.memory.specs.Parity.{Memory, written}

-- "An answer is 1 for KEN# active + 2 for BS8# + 4 for BS16#."
abbrev pub ken : ℕ → Bool
ken x = eqb (x % 2) 1

abbrev pub bs8 : ℕ → Bool
bs8 x = eqb (x / 2 % 2) 1

abbrev pub bs16 : ℕ → Bool
bs16 x = eqb (x / 4 % 2) 1

-- Neighbouring bytes of one doubleword, by the offset of the first in its line: those still wanted, or those that a cycle moves.
pub record Run : Type 0 where
  pub from : ℕ
  pub count : ℕ

abbrev pub run : ℕ → ℕ → Run
run from count = record { from = from; count = count }

-- "with BS8# that byte alone; with BS16# all wanted bytes in its half of the doubleword; otherwise all. With both, BS8# rules." (001, 002)
unfoldable pub size_limit : ℕ → ℕ → ℕ
size_limit x from = cond (bs8 x) 1 (cond (bs16 x) (2 - from % 2) (4 - from % 4))

-- "A cycle moves part of the bytes still wanted, starting with the lowest": so many of them.
unfoldable pub size_of : ℕ → Run → ℕ
size_of x w = min w.count (size_limit x w.from)

-- What is wanted after a cycle with this answer.
unfoldable pub wanted_after : ℕ → Run → List Run → List Run
wanted_after x w ws =
    cond (eqb (size_of x w) w.count) ws
    (run (w.from + size_of x w) (w.count - size_of x w) ∷ ws)

-- A cycle: the bytes moved, the answer that it had, and whether nothing is wanted after it.
pub record Cycle : Type 0 where
  pub moved : Run
  pub answer : ℕ
  pub last : Bool

-- Nothing is wanted.
abbrev pub none : List Run → Bool
none [] = true
none (w ∷ ws) = false

-- The cycles that answers, in turn, make for wanted bytes: plain reads, fills and writes alike.
unfoldable pub cycles_of : List ℕ → List Run → List Cycle
cycles_of [] ws = []
cycles_of (x ∷ xs) [] = []
cycles_of (x ∷ xs) (w ∷ ws) =
    record { moved = run w.from (size_of x w); answer = x; last = none (wanted_after x w ws) } ∷ cycles_of xs (wanted_after x w ws)

-- "Starting at byte 0, 4, 8 or 12, the order is 0-4-8-12, 4-0-12-8, 8-12-0-4 or 12-8-4-0." By the byte of its line that a burst starts at.
-- Document 02, C-13: "four cases of four offsets", as 002's table 3-9 prints them: First, Second, Third and Fourth Address.
unfoldable pub burst_order : ℕ → List ℕ
burst_order start =
    cond (eqb start 0) (0 ∷ 4 ∷ 8 ∷ 12 ∷ [])  -- 0 4 8 C
    (cond (eqb start 4) (4 ∷ 0 ∷ 12 ∷ 8 ∷ [])  -- 4 0 C 8
    (cond (eqb start 8) (8 ∷ 12 ∷ 0 ∷ 4 ∷ [])  -- 8 C 0 4
    (12 ∷ 8 ∷ 4 ∷ 0 ∷ [])))  -- C 8 4 0

-- C-13: "each case is its start exclusive-or 0, 4, 8 and 12 in turn", which is a law, `order_exclusive_or`. `bit_xor` is what the language's `^` means.
abbrev pub exclusive_ors : ℕ → List ℕ
exclusive_ors start = map (bit_xor start) (0 ∷ 4 ∷ 8 ∷ 12 ∷ [])

-- "all four bytes of each doubleword of the line", in that order. By the doubleword, 0 to 3, that it starts with.
unfoldable pub burst : ℕ → List Run
burst doubleword = map (λ from. run from 4) (burst_order (doubleword * 4))

-- The answer of the last cycle, or another where there is none.
unfoldable pub last_answer : ℕ → List Cycle → ℕ
last_answer x [] = x
last_answer x (c ∷ cs) = last_answer c.answer cs

-- What cycles do, one after another, to what they work on.
unfoldable pub after_cycles : {S : Type 0} → (Run → S → S) → List Cycle → S → S
after_cycles f [] s = s
after_cycles f (c ∷ cs) s = after_cycles f cs (f c.moved s)

-- "Bytes keep their own lanes": a read cycle brings bytes of RAM's line into the same places of a line buffer, a write cycle sends them from there.
abbrev pub buffer_after : List ℕ → ℕ → Run → List ℕ → List ℕ
buffer_after ram line r buffer = sets buffer r.from (bytes_at ram (line + r.from) r.count)

abbrev pub memory_after : List Range → List ℕ → ℕ → Run → Memory → Memory
memory_after rs buffer line r m = written rs m (line + r.from) (bytes_at buffer r.from r.count)

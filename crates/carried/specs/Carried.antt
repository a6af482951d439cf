-- Document 02, C-12, 'Other masters during a fill': the external writes that a read carries, and when they land.
use Rattle.std.specs.Prelude.{ℕ, suc, ◌*◌, ◌/◌, Bool, false, cond, ◌||◌, List, [], ◌∷◌, eqb, ltb}
use Rattle.ranges.specs.Ranges.{Range, read_only}
use Rattle.memory.specs.Parity.{Memory, written}

-- "Let a read carry up to four external writes, each with the cycle number, counted from 0 over the access, before which it lands."
pub record Carried : Type 0 where
  pub cycle : ℕ
  pub address : ℕ
  pub bytes : List ℕ

-- Of writes in cycle order, those numbered below n: they have landed once the first n cycles are made.
unfoldable pub due : ℕ → List Carried → List Carried
due n [] = []
due n (w ∷ ws) = cond (ltb w.cycle n) (w ∷ due n ws) []

-- The others.
unfoldable pub later : ℕ → List Carried → List Carried
later n [] = []
later n (w ∷ ws) = cond (ltb w.cycle n) (later n ws) (w ∷ ws)

-- "Equal numbers land in list order.": each puts its bytes into RAM and sets their parity, as an external write does; read-only ranges ignore it.
unfoldable pub landed : List Range → List Carried → Memory → Memory
landed rs [] m = m
landed rs (w ∷ ws) m = landed rs ws (written rs m w.address w.bytes)

-- Memory at a cycle, by its number: what lands before it has landed.
abbrev pub memory_at : List Range → Memory → List Carried → ℕ → Memory
memory_at rs m ws n = landed rs (due (suc n) ws) m

-- Whether one of them lies in a line.
unfoldable pub in_line : ℕ → List Carried → Bool
in_line line [] = false
in_line line (w ∷ ws) = eqb (w.address / 16 * 16) line || in_line line ws

-- The writes with the bytes that RAM takes of them: none of a write into a read-only line.
unfoldable pub taken : List Range → List Carried → List Carried
taken rs [] = []
taken rs (w ∷ ws) = record { cycle = w.cycle; address = w.address; bytes = cond (read_only rs w.address) [] w.bytes } ∷ taken rs ws

-- What the code's own struct of carried writes stands for.
use Rattle.std.specs.Prelude.{ℕ, zero, suc, ◌+◌, ◌*◌, ◌-◌, ◌≤◌, ◌<◌, List, [], ◌∷◌, get_or}
use Rattle.words.specs.Bytes.{bytes_at}
use Rattle.carried.specs.Carried.{Carried}
use Rattle.carried.specs.declared.CarriedWrites.{CarriedWrites}

-- The write at a place: its sixteen bytes stand together.
abbrev pub write_in : CarriedWrites → ℕ → Carried
write_in c k =
    record {
      cycle = get_or c.cycles k 0;
      address = get_or c.addresses k 0;
      bytes = bytes_at c.bytes (16 * k) (get_or c.lengths k 0);
    }

-- So many writes, from a place on.
unfoldable pub writes_from : CarriedWrites → ℕ → ℕ → List Carried
writes_from c k zero = []
writes_from c k (suc n) = write_in c k ∷ writes_from c (suc k) n

-- All of them. A count above four or a length above sixteen stands for as many writes or bytes, which 33 refuses.
abbrev pub carried_of : CarriedWrites → List Carried
carried_of c = writes_from c 0 c.count

-- Those that have not landed where so many have.
abbrev pub left_from : CarriedWrites → ℕ → List Carried
left_from c k = writes_from c k (c.count - k)

-- What landing needs: each write lies in RAM and has at most sixteen bytes.
pub record CarriedNeeds (c : CarriedWrites) (ram parity : ℕ) : Type 0 where
  pub few : c.count ≤ 4
  pub short : (k : ℕ) → k < c.count → get_or c.lengths k 0 ≤ 16
  pub inside : (k : ℕ) → k < c.count → get_or c.addresses k 0 + get_or c.lengths k 0 ≤ ram
  pub bits : ram ≤ 4 * parity

-- Document 01, 'Memory and parity'.
use Rattle.std.specs.Prelude.{ℕ, zero, suc, ◌+◌, ◌*◌, ◌/◌, ◌%◌, ◌^◌, ◌<◌, ◌≡◌, Bool, false, cond, not, ◌||◌, List, [], ◌∷◌, length, get_or, set, eqb}
use Rattle.ranges.specs.Ranges.{Range, read_only}

-- RAM, and "The parity array has one byte for each four RAM bytes".
pub record Memory : Type 0 where
  pub ram : List ℕ
  pub parity : List ℕ

abbrev pub memory : List ℕ → List ℕ → Memory
memory ram parity = record { ram = ram; parity = parity }

-- The ones among the lowest binary digits of a number.
unfoldable pub ones_of : ℕ → ℕ → ℕ
ones_of zero x = 0
ones_of (suc n) x = x % 2 + ones_of n (x / 2)

-- "Even parity: a byte and its DP bit together have an even number of ones." (001, 002)
unfoldable pub dp_of : ℕ → ℕ
dp_of b = ones_of 8 b % 2

-- The DP bits of some bytes, that of the first the lowest.
unfoldable pub dps_of : List ℕ → ℕ
dps_of [] = 0
dps_of (b ∷ bs) = dp_of b + 2 * dps_of bs

-- "bits 0 to 3 are DP0 to DP3": the bit of a lane of a parity byte.
unfoldable pub lane_bit : ℕ → ℕ → ℕ
lane_bit p lane = p / 2 ^ lane % 2

-- The DP bit that a parity array has for the RAM byte at an address.
unfoldable pub dp_at : List ℕ → ℕ → ℕ
dp_at parity a = lane_bit (get_or parity (a / 4) 0) (a % 4)

-- A parity byte with the bit of one lane replaced: "the upper four are ignored and become 0 when that byte is written".
unfoldable pub with_dp : ℕ → ℕ → ℕ → ℕ
with_dp p lane bit = p % 2 ^ lane + bit * 2 ^ lane + p % 16 / 2 ^ (lane + 1) * 2 ^ (lane + 1)

-- One byte put into RAM, with its parity.
unfoldable pub put : Memory → ℕ → ℕ → Memory
put m a b =
    memory (set m.ram a b)
    (set m.parity (a / 4) (with_dp (get_or m.parity (a / 4) 0) (a % 4) (dp_of b)))

-- Bytes put in one after another, from an address on.
unfoldable pub stored : Memory → ℕ → List ℕ → Memory
stored m a [] = m
stored m a (b ∷ bs) = stored (put m a b) (suc a) bs

-- Document 02, C-17: "RAM and parity there ignore CPU writes and external writes": what every writer does with its bytes, each by its own address.
unfoldable pub written : List Range → Memory → ℕ → List ℕ → Memory
written rs m a [] = m
written rs m a (b ∷ bs) = written rs (cond (read_only rs a) m (put m a b)) (suc a) bs

-- "wrong parity in a moved byte": of one byte.
unfoldable pub wrong_at : Memory → ℕ → Bool
wrong_at m a = not (eqb (dp_at m.parity a) (dp_of (get_or m.ram a 0)))

-- Whether any of so many bytes from an address on is wrong.
unfoldable pub wrong_in : Memory → ℕ → ℕ → Bool
wrong_in m a zero = false
wrong_in m a (suc n) = wrong_at m a || wrong_in m (suc a) n

-- "Parity agrees when this holds for all of RAM."
pub record Agrees (m : Memory) : Type 0 where
  pub agree : (a : ℕ) → a < length m.ram → dp_at m.parity a ≡ dp_of (get_or m.ram a 0)

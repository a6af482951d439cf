-- Document 01, 'The directory': LRU numbers.
use Rattle.std.specs.Prelude.{ℕ, zero, suc, ◌+◌, ◌*◌, ◌/◌, ◌%◌, cond, eqb}

-- "An LRU number is B0 + 2·B1 + 4·B2."
abbrev pub lru_number : ℕ → ℕ → ℕ → ℕ
lru_number b0 b1 b2 = b0 + 2 * b1 + 4 * b2

abbrev pub B0 : ℕ → ℕ
B0 n = n % 2

abbrev pub B1 : ℕ → ℕ
B1 n = n / 2 % 2

abbrev pub B2 : ℕ → ℕ
B2 n = n / 4 % 2

-- "Use of way 0 sets B0 and B1; way 1 sets B0, clears B1; way 2 clears B0, sets B2; way 3 clears B0 and B2. The other bit is kept." (001)
unfoldable pub lru_after : ℕ → ℕ → ℕ
lru_after n zero = lru_number 1 1 (B2 n)
lru_after n (suc zero) = lru_number 1 0 (B2 n)
lru_after n (suc (suc zero)) = lru_number 0 (B1 n) 1
lru_after n (suc (suc (suc w))) = lru_number 0 (B1 n) 0

-- "B0 = 0 takes way B1; B0 = 1 takes way 2 + B2."
unfoldable pub lru_way : ℕ → ℕ
lru_way n = cond (eqb (B0 n) 0) (B1 n) (2 + B2 n)

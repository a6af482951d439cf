-- What the laws on two LRU numbers of a set speak of (document 02, C-14).
use Rattle.std.specs.Prelude.{ℕ, ◌≤◌, ◌<◌, ◌≡◌}
use Rattle.ways.specs.Lru.{B0, B1, B2}

-- Two LRU numbers have in common what the use of a way sets or clears: B0, with B1 of ways 0 and 1, with B2 of ways 2 and 3.
pub record SameBits (n k w : ℕ) : Type 0 where
  pub b0 : B0 n ≡ B0 k
  pub b1 : w < 2 → B1 n ≡ B1 k
  pub b2 : 2 ≤ w → B2 n ≡ B2 k

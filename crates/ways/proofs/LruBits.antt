-- Laws of the bits of an LRU number that the use of a way sets or clears (document 02, C-14): the victim of a set whose ways are all valid depends on no other.
use Rattle.std.specs.Prelude.{Option, Some, None, unwrap_or}
use Prim.Native.Nat.{ℕ, ◌<◌}
use mathlib.Core.Path.{◌≡◌, refl}
use mathlib.Core.Bool.{Bool, true, not}
use mathlib.Core.List.{List}
use native.Mathlib.Omega.{arith}
use lib.ListN.{get_or}
use borrow.Author.Tests.{not-false}
use Rattle.ways.specs.Lru.{lru_after, lru_way}
use Rattle.ways.specs.LruBits.{SameBits}
use Rattle.ways.specs.Ways.{valid_in, victim_in}
use Rattle.laws.proofs.Below.{four}
use Rattle.ways.proofs.FourWays.{lowest_of, lowest_nothing}

-- after a use of a way, two numbers have in common what a use of it sets or clears; and so for every other way for which they had it in common
pub use_bits : (n k v : ℕ) (w : ℕ) → w < 4 → ((v ≡ w → ⊥) → SameBits n k v) → SameBits (lru_after n w) (lru_after k w) v
unfolding lru_after
use_bits n k v =
    four (λ w. ((v ≡ w → ⊥) → SameBits n k v) → SameBits (lru_after n w) (lru_after k w) v)
    (λ h. record { b0 = omega arith; b1 = λ l. omega arith; b2 = λ l. let o = (h (λ e. omega arith)).b2 l in omega arith })
    (λ h. record { b0 = omega arith; b1 = λ l. omega arith; b2 = λ l. let o = (h (λ e. omega arith)).b2 l in omega arith })
    (λ h. record { b0 = omega arith; b1 = λ l. let o = (h (λ e. omega arith)).b1 l in omega arith; b2 = λ l. omega arith })
    (λ h. record { b0 = omega arith; b1 = λ l. let o = (h (λ e. omega arith)).b1 l in omega arith; b2 = λ l. omega arith })

-- where two numbers of a set have it in common for each valid way, the victim is the same
module _ (valid : List Bool) (lru other : List ℕ) (s : ℕ) (bits : (w : ℕ) → w < 4 → valid_in valid s w ≡ true → SameBits (get_or lru s 0) (get_or other s 0) w) where
  abbrev invalid : ℕ → Bool
  invalid w = not (valid_in valid s w)

  by_invalid : (f : Option ℕ) → lowest_of invalid ≡ f → unwrap_or f (lru_way (get_or lru s 0)) ≡ unwrap_or f (lru_way (get_or other s 0))
  unfolding lru_way
  by_invalid (Some w) e = refl
  by_invalid None e =
      let full : (w : ℕ) → w < 4 → valid_in valid s w ≡ true = λ w l. not-false (valid_in valid s w) (lowest_nothing invalid e w l) in
      let low = bits 0 (omega arith) (full 0 (omega arith)) in
      let high = bits 2 (omega arith) (full 2 (omega arith)) in
      rw (low.b0, low.b1 (omega arith), high.b2 (omega arith))

  pub victim_bits : victim_in valid lru s ≡ victim_in valid other s
  unfolding victim_in
  victim_bits = by_invalid (lowest_of invalid) refl

-- Four bytes as one number, and back, in the words of the library's conversions.
use Prim.Native.Nat.{ℕ, ◌*◌}
use mathlib.Core.Path.{◌≡◌}
use mathlib.Core.List.{List, [], ◌∷◌}
use native.Mathlib.Omega.{arith}
use native.Mathlib.Nat.{div-div-eq-div-mul}
use lib.ListN.{length}
use Rattle.std.specs.Int.{w32, from_le_bytes, to_le_bytes}
use Rattle.words.specs.Bytes.{value_of, bytes_of}

pub value_of_four : (l : List ℕ) → length l ≡ 4 → from_le_bytes w32 l ≡ value_of l
unfolding value_of
value_of_four [] e = absurd (omega arith)
value_of_four (a ∷ []) e = absurd (omega arith)
value_of_four (a ∷ b ∷ []) e = absurd (omega arith)
value_of_four (a ∷ b ∷ c ∷ []) e = absurd (omega arith)
value_of_four (a ∷ b ∷ c ∷ d ∷ []) e = omega arith
value_of_four (a ∷ b ∷ c ∷ d ∷ x ∷ l) e = absurd (omega arith)

pub four_bytes_of : (v : ℕ) → to_le_bytes w32 v ≡ bytes_of 4 v
unfolding bytes_of
four_bytes_of v = rw (div-div-eq-div-mul v 256 256, div-div-eq-div-mul v (256 * 256) 256)

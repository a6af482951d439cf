-- Bytes in lists and as numbers. Bytes are put into a list from a place on by the library's `sets`.
use Rattle.std.specs.Prelude.{ℕ, zero, suc, ◌+◌, ◌-◌, ◌*◌, ◌/◌, ◌%◌, ◌^◌, List, [], ◌∷◌, get_or, replicate}
use Rattle.std.proofs.lemmas.List.Edits.{sets}

-- So many bytes of a list, from a place on.
unfoldable pub bytes_at : List ℕ → ℕ → ℕ → List ℕ
bytes_at l i zero = []
bytes_at l i (suc n) = get_or l i 0 ∷ bytes_at l (suc i) n

-- "little-endian": the number that some bytes say.
unfoldable pub value_of : List ℕ → ℕ
value_of [] = 0
value_of (b ∷ bs) = b + 256 * value_of bs

-- So many bytes of a number, the lowest first.
unfoldable pub bytes_of : ℕ → ℕ → List ℕ
bytes_of zero v = []
bytes_of (suc n) v = v % 256 ∷ bytes_of n (v / 256)

-- "data, unmoved lanes 0": the doubleword of some bytes that start in a lane.
abbrev pub word_in : ℕ → List ℕ → ℕ
word_in lane bytes = value_of (sets (replicate 4 0) lane bytes)

-- The number that so many bytes of a doubleword say, from a lane on.
unfoldable pub lanes_value : ℕ → ℕ → ℕ → ℕ
lanes_value word lane count = word / 256 ^ lane % 256 ^ count

-- The same bytes in their own lanes, the other lanes 0.
unfoldable pub lanes_word : ℕ → ℕ → ℕ → ℕ
lanes_word word lane count = lanes_value word lane count * 256 ^ lane

-- A mask of lanes, bit k for lane k: of so many from a lane on.
unfoldable pub lanes_mask : ℕ → ℕ → ℕ
lanes_mask lane count = 2 ^ (count + lane) - 2 ^ lane

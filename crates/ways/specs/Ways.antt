-- Document 01, 'The directory': the way that holds an address, and the victim, asked of the arrays of a directory.
use Rattle.std.specs.Prelude.{ℕ, Bool, false, cond, not, ◌&&◌, List, eqb, get_or, Option, Some, None, unwrap_or}
use Rattle.ways.specs.Address.{tag_of, set_of, line_index}
use Rattle.ways.specs.Lru.{lru_way}

-- The valid mark of a line, and its tag.
abbrev pub valid_in : List Bool → ℕ → ℕ → Bool
valid_in valid set way = get_or valid (line_index set way) false

abbrev pub tag_in : List ℕ → ℕ → ℕ → ℕ
tag_in tags set way = get_or tags (line_index set way) 0

-- A way of a set is valid and has a tag.
abbrev pub holds : List ℕ → List Bool → ℕ → ℕ → ℕ → Bool
holds tags valid set way tag = valid_in valid set way && eqb (tag_in tags set way) tag

-- The lowest of the ways 0 to 3 for which a test holds, or none.
unfoldable pub lowest : Bool → Bool → Bool → Bool → Option ℕ
lowest test0 test1 test2 test3 =
    cond test0 (Some 0) (cond test1 (Some 1) (cond test2 (Some 2) (cond test3 (Some 3) None)))

-- "the line holding its address": the way of the address's set that is valid and has its tag.
unfoldable pub lookup_in : List ℕ → List Bool → ℕ → Option ℕ
lookup_in tags valid address =
    lowest
    (holds tags valid (set_of address) 0 (tag_of address))
    (holds tags valid (set_of address) 1 (tag_of address))
    (holds tags valid (set_of address) 2 (tag_of address))
    (holds tags valid (set_of address) 3 (tag_of address))

-- "The victim is the lowest invalid way (H). If all are valid", the one that the LRU number takes. (002: invalid ways first)
unfoldable pub victim_in : List Bool → List ℕ → ℕ → ℕ
victim_in valid lru set =
    unwrap_or
    (lowest
    (not (valid_in valid set 0))
    (not (valid_in valid set 1))
    (not (valid_in valid set 2))
    (not (valid_in valid set 3)))
    (lru_way (get_or lru set 0))

-- Document 01, 'Turned away because of the state': what is wrong with one set.
use Rattle.std.specs.Prelude.{ℕ, Bool, cond, ◌&&◌, ◌||◌, List, eqb, ltb, get_or}
use Rattle.ways.specs.Ways.{valid_in, tag_in}

-- Two ways of a set are valid and have one tag.
abbrev pub same_pair : List ℕ → List Bool → ℕ → ℕ → ℕ → Bool
same_pair tags valid set way other =
    valid_in valid set way && valid_in valid set other && eqb (tag_in tags set way) (tag_in tags set other)

-- "21. Two valid lines with one tag.": any of the six pairs.
unfoldable pub same_tags : List ℕ → List Bool → ℕ → Bool
same_tags tags valid set =
    same_pair tags valid set 0 1
    || same_pair tags valid set 0 2
    || same_pair tags valid set 0 3
    || same_pair tags valid set 1 2
    || same_pair tags valid set 1 3
    || same_pair tags valid set 2 3

-- A way of a set is valid and its tag is above the limit.
abbrev pub tag_above : List ℕ → List Bool → ℕ → ℕ → Bool
tag_above tags valid set way = valid_in valid set way && ltb 2097151 (tag_in tags set way)

-- "22. A valid tag above 2,097,151.": any of the four ways.
unfoldable pub tags_above : List ℕ → List Bool → ℕ → Bool
tags_above tags valid set =
    tag_above tags valid set 0
    || tag_above tags valid set 1
    || tag_above tags valid set 2
    || tag_above tags valid set 3

-- "Lowest number first"; "23. LRU number above 7."; 0 where none is met.
unfoldable pub first_number : Bool → Bool → ℕ → ℕ
first_number same above lru = cond same 21 (cond above 22 (cond (ltb 7 lru) 23 0))

-- The number of a set.
unfoldable pub state_number_in : List ℕ → List Bool → List ℕ → ℕ → ℕ
state_number_in tags valid lru set =
    first_number (same_tags tags valid set) (tags_above tags valid set) (get_or lru set 0)

-- Document 01, 'Board table and program', with document 02, C-15 and C-16: the board's answers for an access. "Our sixteen constant answers suit one board":
-- a table has the answer of each block.
use Rattle.std.specs.Prelude.{ℕ, zero, suc, ◌+◌, ◌*◌, ◌/◌, ◌%◌, ◌≤◌, cond, List, [], ◌∷◌, ◌++◌, ltb, get_or, replicate}
use Rattle.bus.specs.Groups.{bad_width, group_count, group_size, highest_answer}

-- "1 MiB block 0 to 15"
abbrev pub block_size : ℕ
block_size = 1048576

abbrev pub block_count : ℕ
block_count = 16

-- Our table: "The answer by 1 MiB block 0 to 15 is 1 1 1 1 1 1 1 1 5 5 5 5 4 4 2 3"
abbrev pub block_answers : List ℕ
block_answers = 1 ∷ 1 ∷ 1 ∷ 1 ∷ 1 ∷ 1 ∷ 1 ∷ 1 ∷ 5 ∷ 5 ∷ 5 ∷ 5 ∷ 4 ∷ 4 ∷ 2 ∷ 3 ∷ []

-- A table whose answers are those that an access takes: C-16 loads no other, "36 for an answer above 7".
abbrev pub GoodTable : List ℕ → Type 0
GoodTable table = (block : ℕ) → get_or table block 0 ≤ highest_answer

-- "The block is (address / 1,048,576) mod 16."
unfoldable pub answer_at : List ℕ → ℕ → ℕ
answer_at table address = get_or table (address / block_size % block_count) 0

-- "an absent upper doubleword takes the lower's."; C-15: "the board table fills the third group from its own doubleword, or from the lowest where there is
-- none." So a group has the address of its doubleword, or the access's own. A refused width has only the lowest.
unfoldable pub group_address : ℕ → ℕ → ℕ → ℕ
group_address address width group =
    cond (bad_width width) address (cond (ltb (4 * group) (address % 4 + width)) (address + 4 * group) address)

-- "repeated 16 times for each doubleword": so many groups, from one on.
unfoldable pub groups_from : List ℕ → ℕ → ℕ → ℕ → ℕ → List ℕ
groups_from table address width group zero = []
groups_from table address width group (suc more) =
    replicate group_size (answer_at table (group_address address width group)) ++ groups_from table address width (suc group) more

unfoldable pub board_answers : List ℕ → ℕ → ℕ → List ℕ
board_answers table address width = groups_from table address width 0 group_count

-- Document 01, 'One doubleword', with document 02, C-15: the widths of an access, and the groups that the board's answers come in. Every size of an access is here.
use Rattle.std.specs.Prelude.{ℕ, ◌*◌, Bool, not, ◌&&◌, eqb}

-- The bytes of a value, of which a write moves as many as its width.
abbrev pub widest : ℕ
widest = 8

-- "An access of 1, 2 or 4 bytes"; C-15: "Add width 8."; "4. Width not 1, 2, 4." reads with it.
abbrev pub bad_width : ℕ → Bool
bad_width width = not (eqb width 1) && not (eqb width 2) && not (eqb width 4) && not (eqb width widest)

-- "An access then touches up to three doublewords, takes 48 answers in groups of 16": 0 to 15 serve the cycles of the lowest doubleword in turn, 16 to 31 those
-- of the next, 32 to 47 those of the third.
abbrev pub group_size : ℕ
group_size = 16

abbrev pub group_count : ℕ
group_count = 3

abbrev pub answer_count : ℕ
answer_count = group_size * group_count

-- "6. Not 32 answers, or one above 7.", 48 by C-15.
abbrev pub highest_answer : ℕ
highest_answer = 7

-- "and needs a log of 144 words": three for each answer.
abbrev pub log_size : ℕ
log_size = 3 * answer_count

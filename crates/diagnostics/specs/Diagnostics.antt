-- Document 02, C-11: "The old disks load cache lines by hand and read them back." Both calls receive directory and data array.
use Rattle.std.specs.Prelude.{ℕ, Bool, false, cond, not, ◌||◌, List, [], eqb, ltb, length, replicate}
use Rattle.std.proofs.lemmas.List.Edits.{sets}
use Rattle.ways.specs.Address.{line_offset}
use Rattle.directory.specs.declared.steps.Directory.{Directory}
use Rattle.directory.specs.Outcome.{outcome}
use Rattle.directory.specs.Steps.{valid_at, tag_at, lru_at, with_line}
use Rattle.words.specs.Bytes.{bytes_at}
use Rattle.refusal.specs.Call.{State, After, after, refused}
use Rattle.refusal.specs.Refusal.{when, or_else, array_number}
use Rattle.diagnostics.specs.declared.in_place.TestLine.{TestLine}

-- "Answers: 31 where CD = 0, after 3; 32 where the set is above 127, the way above 3 or the tag above 2,097,151, after 31." The state of a set is not looked at.
unfoldable pub test_number : ℕ → Bool → Bool → ℕ
test_number array cd outside = or_else (array_number array) (or_else (when (not cd) 31) (when outside 32))

abbrev pub outside_sets : ℕ → ℕ → Bool
outside_sets set way = ltb 127 set || ltb 3 way

-- 32 of a write looks at its tag too; a read has none.
abbrev pub test_write_number : ℕ → Bool → ℕ → ℕ → ℕ → ℕ
test_write_number array cd set way tag = test_number array cd (outside_sets set way || ltb 2097151 tag)

abbrev pub test_read_number : ℕ → Bool → ℕ → ℕ → ℕ
test_read_number array cd set way = test_number array cd (outside_sets set way)

-- "a test write, which puts a tag, a valid mark and sixteen bytes in a given set and way"; RAM and parity are not received.
unfoldable pub test_write_call : State → ℕ → ℕ → ℕ → Bool → List ℕ → After
test_write_call s set way tag mark bytes =
    let number = test_write_number (length s.array) s.directory.cd set way tag in
    cond (eqb number 0)
    (after (outcome (with_line s.directory set way tag mark) 0 0 0) s.memory (sets s.array (line_offset set way) bytes) [])
    (refused number s [])

-- "and a test read, which returns them with the set's LRU number"; "A refused test read gives zeros and an invalid mark."
abbrev pub line_read : Directory → ℕ → ℕ → List ℕ → TestLine
line_read d set way bytes =
    record { number = 0; tag = tag_at d set way; valid = valid_at d set way; lru = lru_at d set; bytes = bytes }

abbrev pub nothing_read : ℕ → TestLine
nothing_read number = record { number = number; tag = 0; valid = false; lru = 0; bytes = replicate 16 0 }

unfoldable pub test_read_line : Directory → List ℕ → ℕ → ℕ → TestLine
test_read_line d array set way =
    let number = test_read_number (length array) d.cd set way in
    cond (eqb number 0) (line_read d set way (bytes_at array (line_offset set way) 16)) (nothing_read number)

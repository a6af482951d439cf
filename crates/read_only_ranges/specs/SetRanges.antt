-- Document 02, C-17, 'Boot ROM': "One call sets them all anew; the directory keeps them". It receives directory, RAM and the ranges, two words each.
use Rattle.std.specs.Prelude.{ℕ, cond, List, [], eqb, length, replicate}
use Rattle.std.proofs.lemmas.List.Edits.{sets}
use Rattle.ranges.specs.declared.Ranges.{Ranges}
use Rattle.ranges.specs.Ranges.{ranges_in}
use Rattle.directory.specs.Outcome.{outcome}
use Rattle.directory.specs.Steps.{with_ranges}
use Rattle.refusal.specs.Call.{State, After, on_directory, refused}
use Rattle.refusal.specs.Refusal.{or_else, ram_number, ranges_number}

-- Its number: 1, then "37 where a range is empty, not whole lines or beyond RAM" of all that are given, then "38 for more than eight".
unfoldable pub set_ranges_number : ℕ → List ℕ → ℕ
set_ranges_number ram words = or_else (ram_number ram) (ranges_number ram (ranges_in words) (length (ranges_in words)))

-- "all anew": the words that are not given are 0.
unfoldable pub ranges_set : List ℕ → Ranges
ranges_set words = record { count = length (ranges_in words); bounds = sets (replicate 16 0) 0 words }

-- The call, refused or not.
unfoldable pub set_ranges_call : State → List ℕ → After
set_ranges_call s words =
    let number = set_ranges_number (length s.memory.ram) words in
    cond (eqb number 0)
    (on_directory s (outcome (with_ranges s.directory (ranges_set words)) 0 0 0))
    (refused number s [])

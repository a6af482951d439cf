-- Document 01, 'Other masters, views, and the plain memory': line views, asked of the arrays of a directory.
use Rattle.std.specs.Prelude.{ℕ, ◌+◌, ◌*◌, ◌/◌, Bool, cond, List, [], eqb, length, Option, Some, None}
use Rattle.ways.specs.Address.{set_of, data_offset}
use Rattle.ways.specs.Ways.{lookup_in}
use Rattle.ways.specs.State.{state_number_in}
use Rattle.ranges.specs.declared.Ranges.{Ranges}
use Rattle.words.specs.Bytes.{bytes_at}
use Rattle.refusal.specs.Refusal.{or_else, view_input_number, kept_number}

-- "a companion question on the same inputs gives the view's number": 1, 3 and 5, 37 and 38 of the ranges that the directory keeps, then the state of its set.
unfoldable pub view_number_in : List ℕ → List Bool → List ℕ → Ranges → ℕ → ℕ → ℕ → ℕ
view_number_in tags valid lru ranges ram array address =
    or_else (view_input_number ram array address)
    (or_else (kept_number ram ranges) (state_number_in tags valid lru (set_of address)))

-- "A line view is a part of the data array where the line is held, otherwise a part of RAM, always the sixteen bytes around the address": for each case of a lookup's answer.
unfoldable pub shown : Option ℕ → List ℕ → List ℕ → ℕ → List ℕ
shown (Some way) ram array address = bytes_at array (data_offset address way) 16
shown None ram array address = bytes_at ram (address / 16 * 16) 16

-- The bytes of a view, none where it is refused.
unfoldable pub view_in : List ℕ → List Bool → List ℕ → Ranges → List ℕ → List ℕ → ℕ → List ℕ
view_in tags valid lru ranges ram array address =
    cond (eqb (view_number_in tags valid lru ranges (length ram) (length array) address) 0)
    (shown (lookup_in tags valid address) ram array address) []

-- Where the part begins, by where RAM and the data array begin: a block of the host's memory, and a byte of it.
unfoldable pub shown_at : Option ℕ → ℕ × ℕ → ℕ × ℕ → ℕ → ℕ × ℕ
shown_at (Some way) ramAt array_at address = (array_at.0, array_at.1 + data_offset address way)
shown_at None ramAt array_at address = (ramAt.0, ramAt.1 + address / 16 * 16)

-- "a refused view is the empty part at RAM's start"
unfoldable pub view_at : List ℕ → List Bool → List ℕ → Ranges → List ℕ → List ℕ → ℕ × ℕ → ℕ × ℕ → ℕ → ℕ × ℕ
view_at tags valid lru ranges ram array ramAt array_at address =
    cond (eqb (view_number_in tags valid lru ranges (length ram) (length array) address) 0)
    (shown_at (lookup_in tags valid address) ramAt array_at address)
    ramAt

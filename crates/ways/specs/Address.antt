-- Document 01, 'The directory': its sizes, the parts of an address, and the name of a line.
use Rattle.std.specs.Prelude.{ℕ, ◌+◌, ◌*◌, ◌/◌, ◌%◌}

-- "The directory holds 512 tags, 512 valid marks and 128 LRU numbers": lines of 128 sets of four ways; and a data array of sixteen bytes for
-- each line, "(4 × 128 × 16 = 8,192)".
abbrev pub set_count : ℕ
set_count = 128

abbrev pub way_count : ℕ
way_count = 4

abbrev pub line_count : ℕ
line_count = 512

abbrev pub data_size : ℕ
data_size = 8192

-- "An address has 32 bits: tag = address / 2048, set = (address / 16) mod 128, byte = address mod 16." (002: 21-bit tag, 7-bit index)
abbrev pub tag_of : ℕ → ℕ
tag_of address = address / 2048

abbrev pub set_of : ℕ → ℕ
set_of address = address / 16 % set_count

abbrev pub byte_of : ℕ → ℕ
byte_of address = address % 16

-- "A line is named by set and way 0 to 3": its place among the 512 tags and valid marks.
abbrev pub line_index : ℕ → ℕ → ℕ
line_index set way = set * way_count + way

-- "Its bytes stand in the lent data array from (set × 4 + way) × 16 (H)."
abbrev pub line_offset : ℕ → ℕ → ℕ
line_offset set way = line_index set way * 16

-- The same for the line of an address, in a way.
abbrev pub data_offset : ℕ → ℕ → ℕ
data_offset line way = line_offset (set_of line) way

-- What the code's own cursor between two doublewords of an access stands for.
use Rattle.std.specs.Prelude.{ℕ, ◌+◌, ◌*◌, ◌-◌, ◌/◌, ◌%◌, ◌≤◌, ◌<◌, min, ◌≡◌, List, take, drop}
use Rattle.ways.specs.Address.{data_size}
use Rattle.bus.specs.Groups.{widest, group_size, group_count, answer_count, log_size}
use Rattle.doubleword.specs.declared.change.Wanted.{Wanted}
use Rattle.doubleword.specs.declared.cursor.AccessCursor.{AccessCursor}
use Rattle.doubleword.specs.Doubleword.{Doubleword}
use Rattle.doubleword.specs.DoublewordCode.{doubleword_of}

-- The start of an access.
abbrev pub access_begin : ℕ → ℕ → AccessCursor
access_begin address width = record { address = address; left = width; group = 0; place = 0; cycles = 0 }

-- The next doubleword: the address of its line, how many of its bytes are wanted, and what its code is given.
abbrev pub line_address : AccessCursor → ℕ
line_address cursor = cursor.address / 16 * 16

abbrev pub count_of : AccessCursor → ℕ
count_of cursor = min cursor.left (4 - cursor.address % 4)

abbrev pub wanted_of : AccessCursor → Wanted
wanted_of cursor =
    record {
      line = line_address cursor;
      from = cursor.address % 16;
      count = count_of cursor;
      place = cursor.place;
    }

-- What is left after a doubleword: so many bytes, and so many cycles.
abbrev pub access_next : AccessCursor → ℕ → ℕ → AccessCursor
access_next cursor count cycles =
    record {
      address = cursor.address + count;
      left = cursor.left - count;
      group = cursor.group + 1;
      place = cursor.place + count;
      cycles = cursor.cycles + cycles;
    }

-- The group of answers that serves the next doubleword, and the doubleword with that group.
abbrev pub group_at : AccessCursor → List ℕ → List ℕ
group_at cursor answers = take group_size (drop (cursor.group * group_size) answers)

abbrev pub next_doubleword : AccessCursor → List ℕ → Doubleword
next_doubleword cursor answers = doubleword_of (wanted_of cursor) (group_at cursor answers)

-- What the doublewords left need of the buffers.
pub record AccessNeeds (cursor : AccessCursor) (ram parity array answers log : ℕ) : Type 0 where
  pub inside : cursor.address + cursor.left ≤ ram
  pub whole : ram % 16 ≡ 0
  pub small : ram ≤ 16777216
  pub bits : parity ≡ ram / 4
  pub array_length : array ≡ data_size
  pub served : answers ≡ answer_count
  pub records : log_size ≤ log
  pub fits : cursor.left ≤ 4 * (group_count - cursor.group) - cursor.address % 4
  pub last : cursor.group ≤ group_count
  pub made : cursor.cycles ≤ cursor.group * group_size
  pub operands : cursor.place + cursor.left ≤ widest

-- What keeps the numbers of the next cursor in range.
pub record NextNeeds (cursor : AccessCursor) (count cycles : ℕ) : Type 0 where
  pub some : count ≤ cursor.left
  pub below : cursor.address + cursor.left < 4294967296
  pub bytes : cursor.left ≤ 64
  pub groups : cursor.group < 64
  pub places : cursor.place < 64
  pub made : cursor.cycles ≤ 64
  pub more : cycles ≤ 64

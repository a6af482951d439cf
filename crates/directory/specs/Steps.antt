-- Document 01, 'The directory': the steps, each as the whole directory that it hands back.
use Rattle.std.specs.Prelude.{ℕ, Bool, true, false, cond, not, ◌&&◌, List, eqb, get_or, set, replicate, Option, Some, None}
use Rattle.directory.specs.declared.steps.Directory.{Directory}
use Rattle.directory.specs.declared.steps.Outcome.{Outcome}
use Rattle.directory.specs.Outcome.{outcome}
use Rattle.ways.specs.Address.{set_count, line_count, set_of, line_index}
use Rattle.ways.specs.Lru.{lru_after}
use Rattle.ways.specs.Ways.{valid_in, tag_in, lookup_in, victim_in}
use Rattle.ways.specs.State.{state_number_in}
use Rattle.ranges.specs.declared.Ranges.{Ranges}
use Rattle.ranges.specs.Ranges.{Range, ranges_of}

-- "The directory holds 512 tags, 512 valid marks and 128 LRU numbers, with CD and NW."; document 02, C-17: "up to eight read-only ranges ..; the
-- directory keeps them": a directory of these.
abbrev pub directory_of : List ℕ → List Bool → List ℕ → Bool → Bool → Ranges → Directory
directory_of tags valid lru cd nw ranges =
    record { tags = tags; valid = valid; lru = lru; cd = cd; nw = nw; ranges = ranges }

-- What a directory has of a line and of a set, and the questions asked of it.
abbrev pub valid_at : Directory → ℕ → ℕ → Bool
valid_at d s w = valid_in d.valid s w

abbrev pub tag_at : Directory → ℕ → ℕ → ℕ
tag_at d s w = tag_in d.tags s w

abbrev pub lru_at : Directory → ℕ → ℕ
lru_at d s = get_or d.lru s 0

abbrev pub lookup_of : Directory → ℕ → Option ℕ
lookup_of d address = lookup_in d.tags d.valid address

abbrev pub victim_of : Directory → ℕ → ℕ
victim_of d s = victim_in d.valid d.lru s

abbrev pub state_number_of : Directory → ℕ → ℕ
state_number_of d s = state_number_in d.tags d.valid d.lru s

-- The read-only ranges that a directory keeps.
abbrev pub ranges_kept : Directory → List Range
ranges_kept d = ranges_of d.ranges

-- A use of a way changes the LRU number of its set. "Read hits, write hits and kept fills are uses". (001, 002)
unfoldable pub after_use : Directory → ℕ → ℕ → Directory
after_use d s w =
    record {
      tags = d.tags;
      valid = d.valid;
      lru = set d.lru s (lru_after (lru_at d s) w);
      cd = d.cd;
      nw = d.nw;
      ranges = d.ranges;
    }

-- Document 02, C-11: "a test write, which puts a tag, a valid mark and sixteen bytes in a given set and way"; the bytes are the data array's. It is no
-- use: "Neither changes the LRU number".
unfoldable pub with_line : Directory → ℕ → ℕ → ℕ → Bool → Directory
with_line d s w tag mark =
    record {
      tags = set d.tags (line_index s w) tag;
      valid = set d.valid (line_index s w) mark;
      lru = d.lru;
      cd = d.cd;
      nw = d.nw;
      ranges = d.ranges;
    }

-- "A kept fill writes the victim's bytes, tag and valid mark", and is a use; the bytes are the data array's.
unfoldable pub after_fill : Directory → ℕ → ℕ → ℕ → Directory
after_fill d s w tag = after_use (with_line d s w tag true) s w

-- Document 02, C-17: "One call sets them all anew".
unfoldable pub with_ranges : Directory → Ranges → Directory
with_ranges d ranges =
    record { tags = d.tags; valid = d.valid; lru = d.lru; cd = d.cd; nw = d.nw; ranges = ranges }

-- "After reset all 512 lines are invalid, tags and LRU numbers are 0, and CD = NW = 1." (002: all invalid, CD = NW = 1): the directory then, with its ranges.
unfoldable pub reset_keeping : Ranges → Directory
reset_keeping ranges =
    record {
      tags = replicate line_count 0;
      valid = replicate line_count false;
      lru = replicate set_count 0;
      cd = true;
      nw = true;
      ranges = ranges;
    }

-- C-17: "A later reset keeps them."; "none at first".
abbrev pub after_reset : Directory → Directory
after_reset d = reset_keeping d.ranges

abbrev pub no_ranges : Ranges
no_ranges = record { count = 0; bounds = replicate 16 0 }

abbrev pub first_reset : Directory
first_reset = reset_keeping no_ranges

-- "An accepted control call sets CD and NW to the two it is given and changes nothing else."
unfoldable pub after_control : Directory → Bool → Bool → Directory
after_control d cd nw =
    record { tags = d.tags; valid = d.valid; lru = d.lru; cd = cd; nw = nw; ranges = d.ranges }

-- "9. A control call with CD = 0 and NW = 1" (001)
abbrev pub control_refused : Bool → Bool → Bool
control_refused cd nw = not cd && nw

-- The control call, refused or not.
unfoldable pub control_call : Directory → Bool → Bool → Outcome
control_call d cd nw =
    cond (control_refused cd nw)
    (outcome d 9 0 0)
    (outcome (after_control d cd nw) 0 0 0)

-- "A flush (FLUSH#, INVD and WBINVD alike) clears valid marks"; document 02, C-14: "The data sheet zeroes the 128 LRU numbers on a flush as on reset. This
-- replaces our flush rule in the directory section."
unfoldable pub after_flush : Directory → Directory
after_flush d =
    record {
      tags = d.tags;
      valid = replicate line_count false;
      lru = replicate set_count 0;
      cd = d.cd;
      nw = d.nw;
      ranges = d.ranges;
    }

-- A flush, by a rule that says what it leaves, and a reset are never turned away.
abbrev pub flush_call : (Directory → Directory) → Directory → Outcome
flush_call rule d = outcome (rule d) 0 0 0

abbrev pub reset_call : Directory → Outcome
reset_call d = outcome (after_reset d) 0 0 0

-- The directory with the line that a lookup found invalid, and as it was where none was found.
unfoldable pub invalidated : Directory → ℕ → Option ℕ → Directory
invalidated d s (Some w) =
    record {
      tags = d.tags;
      valid = set d.valid (line_index s w) false;
      lru = d.lru;
      cd = d.cd;
      nw = d.nw;
      ranges = d.ranges;
    }
invalidated d s None = d

-- "A snoop invalidates the line holding its address. With NW = 1 it changes nothing." (001, 002)
unfoldable pub after_snoop : Directory → ℕ → Directory
after_snoop d address = cond d.nw d (invalidated d (set_of address) (lookup_of d address))

-- A snoop is turned away because of the state of its set, whatever NW is.
unfoldable pub snoop_call : Directory → ℕ → Outcome
snoop_call d address =
    cond (eqb (state_number_of d (set_of address)) 0)
    (outcome (after_snoop d address) 0 0 0)
    (outcome d (state_number_of d (set_of address)) 0 0)

-- Directories between which no access tells (document 02, C-14): the terms of the laws in which the two flush rules are compared.
use Rattle.std.specs.Prelude.{ℕ, ◌≤◌, ◌<◌, ◌≡◌, List}
use Rattle.ways.specs.Address.{set_count, way_count}
use Rattle.ways.specs.LruBits.{SameBits}
use Rattle.directory.specs.declared.steps.Directory.{Directory}
use Rattle.directory.specs.Steps.{directory_of, lru_at}
use Rattle.directory.specs.WellFormed.{Held, Sized}

-- A directory with other LRU numbers.
abbrev pub with_lru : Directory → List ℕ → Directory
with_lru d lru = directory_of d.tags d.valid lru d.cd d.nw d.ranges

-- Tags, valid marks, CD, NW and ranges are the same, and no LRU number is above 7.
pub record SameLines (d e : Directory) : Type 0 where
  pub same : e ≡ with_lru d e.lru
  pub sized : Sized d × Sized e
  pub lru : (s : ℕ) → s < set_count → (lru_at d s ≤ 7) × (lru_at e s ≤ 7)

-- And for each held line, the LRU numbers of its set have in common what a use of it sets or clears: B0 where any way is valid, B1 where way 0 or 1 is, B2
-- where way 2 or 3 is.
pub record Alike (d e : Directory) : Type 0 where
  pub lines : SameLines d e
  pub bits : (s w tag : ℕ) → s < set_count → w < way_count → Held d s w tag → SameBits (lru_at d s) (lru_at e s) w

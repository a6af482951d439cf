-- What the steps keep of a directory: the terms of the laws that the layer above works from.
use Rattle.std.specs.Prelude.{ℕ, ◌≤◌, ◌<◌, ◌≡◌, true, length}
use Rattle.ways.specs.Address.{set_count, way_count, line_count}
use Rattle.directory.specs.declared.steps.Directory.{Directory}
use Rattle.directory.specs.Steps.{valid_at, tag_at, lru_at}

-- A way of a set is valid and has a tag.
abbrev pub Held : Directory → ℕ → ℕ → ℕ → Type 0
Held d s w tag = (valid_at d s w ≡ true) × (tag_at d s w ≡ tag)

-- Two names of one line, by set and way; or of one address, by set and tag.
abbrev pub Same : ℕ → ℕ → ℕ → ℕ → Type 0
Same r v s w = (r ≡ s) × (v ≡ w)

-- No tag stands twice in a set: 21 is not met.
abbrev pub SetApart : Directory → ℕ → Type 0
SetApart d s = (w v tag : ℕ) → w < way_count → v < way_count → Held d s w tag → Held d s v tag → w ≡ v

-- The held tags and the LRU number of a set are within their limits: 22 and 23 are not met.
pub record SetLimits (d : Directory) (s : ℕ) : Type 0 where
  pub tags : (w tag : ℕ) → w < way_count → Held d s w tag → tag ≤ 2097151
  pub lru : lru_at d s ≤ 7

-- A set that meets none of 21, 22 and 23.
pub record GoodSet (d : Directory) (s : ℕ) : Type 0 where
  pub apart : SetApart d s
  pub limits : SetLimits d s

-- The lengths of a directory's arrays.
pub record Sized (d : Directory) : Type 0 where
  pub tags : length d.tags ≡ line_count
  pub valid : length d.valid ≡ line_count
  pub lru : length d.lru ≡ set_count

-- Whole arrays, and every set within its limits: what any step keeps, whatever tags stand in a set.
pub record WithinLimits (d : Directory) : Type 0 where
  pub sized : Sized d
  pub sets : (s : ℕ) → s < set_count → SetLimits d s

-- No tag twice in any set: what a lookup needs to find the one line of an address.
pub record Apart (d : Directory) : Type 0 where
  pub sets : (s : ℕ) → s < set_count → SetApart d s

-- Both: whole arrays, and every set good.
pub record WellFormed (d : Directory) : Type 0 where
  pub limits : WithinLimits d
  pub apart : Apart d

-- Document 02, C-17, 'Boot ROM': "Give the unit up to eight read-only ranges of whole lines."
use Rattle.std.specs.Prelude.{ℕ, ◌+◌, ◌*◌, ◌/◌, ◌%◌, min, Bool, false, not, ◌&&◌, ◌||◌, List, [], ◌∷◌, eqb, ltb, take}
use Rattle.ranges.specs.declared.Kept.{Kept}
use Rattle.ranges.specs.declared.Ranges.{Ranges}

-- A range: the address where it starts, and its bytes.
pub record Range : Type 0 where
  pub start : ℕ
  pub size : ℕ

abbrev pub range : ℕ → ℕ → Range
range start size = record { start = start; size = size }

-- Ranges as words, two for each. A start left over at the end has no size.
unfoldable pub ranges_in : List ℕ → List Range
ranges_in [] = []
ranges_in (start ∷ []) = range start 0 ∷ []
ranges_in (start ∷ size ∷ words) = range start size ∷ ranges_in words

-- "the directory keeps them": eight at most, also where a host made a count above.
unfoldable pub ranges_of : Ranges → List Range
ranges_of kept = ranges_in (take (2 * min kept.count 8) kept.bounds)

-- The ranges that are lent as their count and their words.
abbrev pub lent_ranges : ℕ → List ℕ → Ranges
lent_ranges count bounds = record { count = count; bounds = bounds }

-- The same of their lent form.
abbrev pub kept_ranges : Kept → Ranges
kept_ranges kept = lent_ranges kept.count kept.bounds.now

-- "whole lines": a byte lies in a range where its line does.
unfoldable pub in_range : Range → ℕ → Bool
in_range r a = not (ltb (a / 16 * 16) r.start) && ltb (a / 16 * 16) (r.start + r.size)

-- Whether a byte is read-only.
unfoldable pub read_only : List Range → ℕ → Bool
read_only [] a = false
read_only (r ∷ rs) a = in_range r a || read_only rs a

-- "37 where a range is empty, not whole lines or beyond RAM": of one range, by RAM's length.
unfoldable pub bad_range : ℕ → Range → Bool
bad_range ram r = eqb r.size 0 || not (eqb (r.start % 16) 0) || not (eqb (r.size % 16) 0) || ltb ram (r.start + r.size)

-- Of some ranges.
unfoldable pub any_bad : ℕ → List Range → Bool
any_bad ram [] = false
any_bad ram (r ∷ rs) = bad_range ram r || any_bad ram rs

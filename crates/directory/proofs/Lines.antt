-- What a store does to single lines, and what a directory with fewer lines keeps.
use Prim.Native.Nat.{ℕ, ◌≤◌, ◌<◌}
use mathlib.Core.Path.{◌≡◌}
use mathlib.Core.List.{List}
use native.Mathlib.Omega.{arith}
use lib.ListN.{length, get_or, set}
use lib.Seq.{get_or-set_same, get_or-set_other}
use Rattle.directory.specs.declared.steps.Directory.{Directory}
use Rattle.ways.specs.Address.{line_index}
use Rattle.directory.specs.Steps.{lru_at}
use Rattle.directory.specs.WellFormed.{Held, Same, Sized, WithinLimits, Apart}
use Rattle.laws.proofs.Tests.{same_or}

-- a line is named by one set and one way
module _ (s w r v : ℕ) (wl : w < 4) (vl : v < 4) where
  line_other : (Same r v s w → ⊥) → line_index r v ≡ line_index s w → ⊥
  line_other n e =
      let i : r ≡ s = omega arith in
      let j : v ≡ w = omega arith in
      n (i, j)

  pub same_line : (P : Type 0) → (Same r v s w → P) → ((Same r v s w → ⊥) → P) → P
  same_line P f g =
      same_or P (line_index r v) (line_index s w)
      (λ e.
      let i : r ≡ s = omega arith in
      let j : v ≡ w = omega arith in
      f (i, j))
      (λ n. g λ p. n (omega arith))

  -- an array of lines after a store: every other line has its own element
  module _ {A : Type 0} (l : List A) (x z : A) where
    pub stored_other : (Same r v s w → ⊥) → get_or (set l (line_index s w) x) (line_index r v) z ≡ get_or l (line_index r v) z
    stored_other n = let o = line_other n in rw get_or-set_other

-- the stored line has the new element
pub stored_line : {A : Type 0} (l : List A) (x z : A) (s w : ℕ) → length l ≡ 512 → s < 128 → w < 4 →
    get_or (set l (line_index s w) x) (line_index s w) z ≡ x
stored_line l x z s w e sl wl = let i : line_index s w < length l = rw e (omega arith) in rw get_or-set_same

-- a directory that holds no line which another doesn't
module _ (d e : Directory) (held : (s w tag : ℕ) → s < 128 → w < 4 → Held e s w tag → Held d s w tag) where
  pub fewer_limits : Sized e → ((s : ℕ) → s < 128 → lru_at e s ≤ 7) → WithinLimits d → WithinLimits e
  fewer_limits z lru g =
      record {
        sized = z;
        sets = λ s l. record { tags = λ w tag wl h. (g.sets s l).tags w tag wl (held s w tag l wl h); lru = lru s l };
      }

  pub fewer_apart : Apart d → Apart e
  fewer_apart g =
      record { sets = λ s l w v tag wl vl h k. g.sets s l w v tag wl vl (held s w tag l wl h) (held s v tag l vl k) }

-- a directory that holds no line
module _ (d : Directory) (none : (s w tag : ℕ) → s < 128 → w < 4 → Held d s w tag → ⊥) where
  pub none_limits : Sized d → ((s : ℕ) → s < 128 → lru_at d s ≤ 7) → WithinLimits d
  none_limits z lru =
      record {
        sized = z;
        sets = λ s l. record { tags = λ w tag wl h. absurd (none s w tag l wl h); lru = lru s l };
      }

  pub none_apart : Apart d
  none_apart = record { sets = λ s l w v tag wl vl h k. absurd (none s w tag l wl h) }

-- A line copied out: all of its sixteen bytes.
use Prim.Native.Nat.{ℕ}
use mathlib.Core.Path.{◌≡◌, sym, ◌∙◌, ap}
use mathlib.Core.List.{List}
use lib.ListN.{length}
use lib.Seq.{sets}
use Rattle.words.specs.Bytes.{bytes_at}
use Rattle.words.proofs.Places.{bytes_all}

pub line_copied : (part line : List ℕ) → part ≡ line → length part ≡ 16 →
    (before after : List ℕ) → after ≡ sets before 0 (bytes_at part 0 16) → after ≡ sets before 0 line
line_copied part line e whole before after k =
    k ∙ ap (sets before 0) (ap (bytes_at part 0) (sym whole) ∙ bytes_all part ∙ e)

-- The end of a doubleword of a read that carries writes.
use Rattle.std.specs.Prelude.{Option, Some, None}
use Prim.Native.Nat.{ℕ, ◌<◌}
use mathlib.Core.Path.{◌≡◌, refl, ◌∙◌, ap}
use mathlib.Core.Bool.{Bool, true, false}
use mathlib.Core.List.{List}
use lib.Seq.{sets}
use Rattle.ways.specs.Address.{data_offset}
use Rattle.words.specs.Bytes.{bytes_at}
use Rattle.doubleword.specs.declared.change.Change.{Change}
use Rattle.doubleword.specs.declared.change.Change.TheVariants.{Fill}
use Rattle.doubleword.specs.DoublewordCode.{BelowFour}
use Rattle.reading.specs.Reading.{kept_array}
use Rattle.carrying.specs.CarryingCode.{use_of, settled_change, FoundBelow}

use_below : (f : Option ℕ) → FoundBelow f → BelowFour (use_of f)
use_below (Some way) h = h
use_below None h = tt

module _ (f : Option ℕ) (victim line : ℕ) (buffer array : List ℕ) where
  pub kept_settled : {kept : Bool} (way offset : ℕ) (array' : List ℕ) → kept ≡ true → way ≡ victim → victim < 4 → offset ≡ data_offset line way → array' ≡ sets array offset (bytes_at buffer 0 16) →
      (Fill way ≡ settled_change kept victim f) × BelowFour (Fill way) × (array' ≡ kept_array kept victim line buffer array)
  kept_settled way offset array' k ew b eo ea =
      rw k (ap Fill ew, rw ew b, ea ∙ ap (λ (x : ℕ). sets array x (bytes_at buffer 0 16)) (eo ∙ ap (data_offset line) ew))

  pub not_settled : {kept : Bool} (change : Change) → kept ≡ false → change ≡ use_of f → FoundBelow f →
      (change ≡ settled_change kept victim f) × BelowFour change × (array ≡ kept_array kept victim line buffer array)
  not_settled change k e b = rw (k, e) (refl, use_below f b, refl)

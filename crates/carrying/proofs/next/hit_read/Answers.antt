use Prim.Native.Nat.{ℕ, ◌+◌}
use Rattle.words.specs.Bytes.{bytes_at, value_of}
use mathlib.Core.Path.{refl, ◌∙◌, ap}
use Rattle.carrying.proofs.next.hit_read.Goals as goal

pub returns : goal.returns
returns c = (
  c.number_at-value.ensures.0 ∙ ap (λ (x : ℕ). value_of (bytes_at c.args.«data».now (x + c.args.w.from) c.args.w.count)) c.data_offset.ensures.0,
  c.number_at-value.ensures.1,
  refl,
)

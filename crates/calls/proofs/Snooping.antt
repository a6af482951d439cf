-- Snoops and external writes keep the invariant.
use Prim.Native.Nat.{ℕ, ◌+◌, ◌*◌, ◌/◌, ◌%◌, ◌<◌}
use mathlib.Core.Path.{◌≡◌, refl, ◌∙◌}
use mathlib.Core.List.{List}
use native.Mathlib.Omega.{arith}
use lib.ListN.{length}
use Rattle.laws.proofs.Tests.{by_test}
use Rattle.ways.specs.Address.{set_of, tag_of}
use Rattle.directory.specs.declared.steps.Directory.{Directory}
use Rattle.ranges.specs.Ranges.{Range}
use Rattle.directory.specs.Steps.{after_snoop}
use Rattle.directory.specs.WellFormed.{Held, Sized}
use Rattle.directory.proofs.Laws.{snoop_held, snoop_control, snoop_ranges, snoop_none, snoop_apart}
use Rattle.memory.specs.Parity.{written}
use Rattle.refusal.specs.Call.{State, state}
use Rattle.refusal.proofs.Accepted.{GoodExternal}
use Rattle.calls.specs.Plain.{replaced}
use Rattle.calls.proofs.Coherence.{address_of, Beside, Coherent, fewer_beside, beside_written, line_set, replaced_miss}

module _ (rom : List Range) (s : State) (m : List ℕ) (c : Coherent rom s m) (a : ℕ) where
  abbrev d : Directory
  d = s.directory

  abbrev z : Sized d
  z = c.kept.limits.sized

  abbrev b : Beside rom s m
  b = c.beside

  abbrev snooped : State
  snooped = state (after_snoop d a) s.memory s.array

  pub snoop_beside : Beside rom snooped m
  snoop_beside =
      fewer_beside rom s m b (after_snoop d a) (λ r v tag rl vl. snoop_held d z a r v tag vl) (snoop_control d z a).1 (snoop_ranges d a) (snoop_apart d z b.apart a)

  same_tag : (tag r : ℕ) → r < 128 → address_of r tag ≡ a / 16 * 16 → tag ≡ tag_of a
  same_tag tag r l e = omega arith

  same_set : (tag r : ℕ) → r < 128 → address_of r tag ≡ a / 16 * 16 → r ≡ set_of a
  same_set tag r l e = let k : a / 16 * 16 / 16 ≡ a / 16 = omega arith in rw k at (line_set r tag (a / 16 * 16) l e)

  -- no line of a snooped address is held, with NW = 1 because none is
  snooped_none : (r v tag : ℕ) → r < 128 → v < 4 → Held (after_snoop d a) r v tag → address_of r tag ≡ a / 16 * 16 → ⊥
  snooped_none r v tag rl vl h e =
      by_test (λ on. d.nw ≡ on → ⊥) d.nw
      (λ _ n. snoop_beside.nw ((snoop_control d z a).1 ∙ n) r v tag rl vl h)
      (λ _ n. snoop_none d z a (b.apart.sets (set_of a) (omega arith)) n v vl (rw (same_set tag r rl e, same_tag tag r rl e) at h))
      refl

  pub external_beside : (x : List ℕ) → GoodExternal (length m) a (length x) → Beside rom (state (after_snoop d a) (written rom s.memory a x) s.array) (replaced rom m a x)
  external_beside x k =
      let e : a / 16 * 16 + a % 16 ≡ a = omega arith in
      beside_written rom snooped m snoop_beside a x s.array
      (rw e at (replaced_miss (after_snoop d a) m s.array snoop_beside.lines (a / 16 * 16) (a % 16) x (omega arith) k.line rom snooped_none))

-- What snoops, flushes and resets drop. Demand 3 compares bytes, and a line that stays is not seen there while its bytes are the memory's.
use Rattle.std.specs.Prelude.{Option, None}
use Prim.Native.Nat.{ℕ}
use mathlib.Core.Path.{◌≡◌}
use mathlib.Core.Bool.{false}
use native.Mathlib.Omega.{arith}
use Rattle.ways.specs.Address.{set_of}
use Rattle.directory.specs.Steps.{lookup_of}
use Rattle.directory.specs.WellFormed.{WellFormed}
use Rattle.directory.proofs.Laws.{snoop_accepted, snoop_lookup, flush_lookup, reset_lookup}
use Rattle.directory.proofs.SetState.{well_formed_zero}
use Rattle.refusal.specs.Call.{State, next_state}
use Rattle.calls.specs.Calls.{Call, snoop, flush, reset, step, step_by}

-- the way in which an address is found after a call
abbrev found_after : State → Call → ℕ → Option ℕ
found_after s c a = lookup_of (next_state (step s c)).directory a

module _ (s : State) (a : ℕ) where
  pub snoop_drops : WellFormed s.directory → s.directory.nw ≡ false → found_after s (snoop a) a ≡ None
  unfolding step_by
  snoop_drops g n =
      rw (snoop_accepted s.directory a (well_formed_zero s.directory g (set_of a) (omega arith)))
      (snoop_lookup s.directory g.limits.sized a (g.apart.sets (set_of a) (omega arith)) n)

  pub flush_drops : found_after s flush a ≡ None
  unfolding step_by
  flush_drops = flush_lookup s.directory a

  pub reset_drops : found_after s reset a ≡ None
  unfolding step_by
  reset_drops = reset_lookup s.directory.ranges a

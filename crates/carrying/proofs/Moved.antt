-- The record of a cycle of a read, from what the doubleword says.
use Prim.Native.Nat.{ℕ, ◌+◌, ◌*◌, ◌/◌, ◌%◌, ◌≤◌, ◌<◌}
use mathlib.Core.Path.{◌≡◌, ◌∙◌, ap}
use mathlib.Core.Bool.{Bool}
use mathlib.Core.List.{List, [], ◌∷◌}
use native.Mathlib.Omega.{arith}
use lib.ListN.{get_or}
use Rattle.memory.specs.Parity.{memory}
use Rattle.bus.specs.Record.{Record, read_record, logged}
use Rattle.parts.specs.declared.lanes.Transfer.{Transfer}
use Rattle.parts.specs.Parts.{moving, read_transfer, part_record}
use Rattle.cycles.proofs.Records.{read_part}

module _ (ram parity : List ℕ) (line from count kind : ℕ) (last : Bool) (place : ℕ) (log₀ : List ℕ) (small : (i : ℕ) → get_or ram i 0 < 256) (al : line % 16 ≡ 0) (some : 0 < count) (l : from % 4 + count ≤ 4) where
  pub moved_record : (t : Transfer) {log : List ℕ} → t ≡ read_transfer ram parity (line + from / 4 * 4) kind →
      log ≡ logged log₀ place (part_record t (moving (from % 4) count last) ∷ []) →
      log ≡ logged log₀ place (read_record kind (memory ram parity) line (moving from count last) ∷ [])
  unfolding part_record
  moved_record t e el =
      let q : from % 4 % 4 ≡ from % 4 = omega arith in
      let whole : from / 4 * 4 % 4 ≡ 0 = omega arith in
      el
      ∙ rw (e, q)
      (ap (λ (r : Record). logged log₀ place (r ∷ [])) (read_part kind ram parity line (from / 4 * 4) small al whole (moving from count last) (omega arith) some (omega arith)))

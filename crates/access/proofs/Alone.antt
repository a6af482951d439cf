-- Laws of a read that carries nothing: its doublewords one after the other, as those of a write, and its number. It writes nothing, so that no
-- read-only range matters.
use Rattle.std.specs.Prelude.{Option, Some, None}
use Prim.Native.Nat.{ℕ, ◌+◌}
use mathlib.Core.Path.{◌≡◌, refl, sym, ◌∙◌, ap}
use mathlib.Core.Bool.{Bool, not, ◌&&◌}
use mathlib.Core.List.{List, [], ◌∷◌}
use lib.ListN.{length}
use Rattle.laws.proofs.Tests.{same_or}
use Rattle.ways.specs.Address.{set_of}
use Rattle.ranges.specs.Ranges.{Range}
use Rattle.directory.specs.Steps.{lookup_of, victim_of}
use Rattle.words.proofs.Places.{bytes_length}
use Rattle.memory.specs.Parity.{Memory}
use Rattle.carried.specs.Carried.{Carried, due, later, landed}
use Rattle.doubleword.specs.Doubleword.{Doubleword, Done}
use Rattle.reading.specs.Reading.{read_hit, settled, read_done}
use Rattle.reading.specs.ReadingCode.{read_alone}
use Rattle.reading.proofs.Alone.{done_alone_lem}
use Rattle.reading.proofs.ReadDoublewords.{read_memory}
use Rattle.refusal.specs.Call.{State}
use Rattle.refusal.specs.Refusal.{or_else, lent_number, argument_number, carried_number, kept_number, states_number_of, carried_states_number_in, in_order, any_refused}
use Rattle.refusal.proofs.Accepted.{zero_or, first_or}
use Rattle.access.specs.Access.{next, all_of, under_way, snooped_by, read_one, landed_after, read_each, read_number}

-- a doubleword by the directory as it is then
unfoldable pub one_alone : Bool → State → Doubleword → Done
one_alone pcd s w =
    read_alone (lookup_of s.directory w.line) (victim_of s.directory (set_of w.line))
    (not s.directory.cd && not pcd)
    s.memory
    s.array
    w

pub one_alone_lem : (pcd : Bool) (rs : List Range) (s : State) (n : ℕ) (w : Doubleword) → read_one pcd rs (under_way s [] n) w ≡ one_alone pcd s w
unfolding read_one one_alone due snooped_by
one_alone_lem pcd rs s n w = done_alone_lem _ _ _ rs s.memory n s.array w ∙ sym (done_alone_lem _ _ _ [] s.memory 0 s.array w)

-- it gives its wanted bytes, whatever the read carries
pub done_length : (f : Option ℕ) (victim : ℕ) (mayFill : Bool) (rs : List Range) (m : Memory) (ws : List Carried) (first : ℕ) (array : List ℕ) (w : Doubleword) →
    length (read_done f victim mayFill rs m ws first array w).bytes ≡ w.wanted.count
unfolding read_done read_hit settled
done_length (Some way) victim mayFill rs m ws first array w = bytes_length _ _ w.wanted.count
done_length None victim mayFill rs m ws first array w = bytes_length _ _ w.wanted.count

pub one_length : (pcd : Bool) (s : State) (w : Doubleword) → length (one_alone pcd s w).bytes ≡ w.wanted.count
unfolding one_alone
one_length pcd s w = done_length _ _ _ _ _ _ _ _ w

-- it leaves memory as it was
pub one_memory : (pcd : Bool) (s : State) (w : Doubleword) → (one_alone pcd s w).memory ≡ s.memory
unfolding one_alone
one_memory pcd s w = read_memory _ _ _ _ _ w

-- all doublewords
pub each_alone : (pcd : Bool) (rs : List Range) (s : State) (n : ℕ) (ws : List Doubleword) → read_each pcd rs (under_way s [] n) ws ≡ all_of (one_alone pcd) s ws
unfolding read_each all_of landed_after snooped_by landed due later
each_alone pcd rs s n [] = refl
each_alone pcd rs s n (w ∷ ws) =
    let e = one_alone_lem pcd rs s n w in
    rw e (rw (each_alone pcd rs (next s w (one_alone pcd s w)) (n + length (one_alone pcd s w).records) ws))

-- the number
pub number_alone : (s : State) (address width : ℕ) (answers log : List ℕ) →
    read_number s address width answers log []
    ≡ or_else (lent_number (length s.memory.ram) (length s.memory.parity) (length s.array))
    (or_else (argument_number (length s.memory.ram) address width answers (length log))
    (or_else (kept_number (length s.memory.ram) s.directory.ranges) (states_number_of s.directory address width)))
unfolding read_number carried_number carried_states_number_in in_order any_refused
number_alone s address width answers log =
    ap
    (λ (x : ℕ).
    or_else (lent_number (length s.memory.ram) (length s.memory.parity) (length s.array))
    (or_else (argument_number (length s.memory.ram) address width answers (length log)) (or_else (kept_number (length s.memory.ram) s.directory.ranges) x)))
    (none_after (states_number_of s.directory address width))
  where
    none_after : (n : ℕ) → or_else n 0 ≡ n
    none_after n = same_or _ n 0 (λ z. zero_or n 0 z ∙ sym z) (λ h. first_or n 0 h)

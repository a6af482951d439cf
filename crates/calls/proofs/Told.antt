-- The records that the plain memory is told: of an accepted read those of its cycles, and of one that carries nothing it needs none.
use Prim.Native.Nat.{ℕ, suc, ◌+◌, ◌*◌, ◌/◌}
use mathlib.Core.Path.{◌≡◌, refl, sym, ◌∙◌, ap}
use mathlib.Core.Bool.{Bool, true, false, cond, true≢false}
use mathlib.Core.List.{List, [], ◌∷◌}
use native.Mathlib.Omega.{arith}
use lib.Dec.{eqb, ltb}
use lib.ListN.{length, get_or}
use Rattle.laws.proofs.Tests.{by_test}
use Rattle.words.specs.Bytes.{bytes_at, value_of}
use Rattle.ranges.specs.Ranges.{Range, read_only}
use Rattle.doubleword.specs.Doubleword.{Doubleword}
use Rattle.directory.specs.Steps.{ranges_kept}
use Rattle.carried.specs.Carried.{Carried}
use Rattle.bus.specs.Groups.{group_count}
use Rattle.bus.specs.Record.{Record}
use Rattle.refusal.specs.Call.{State}
use Rattle.refusal.specs.Refusal.{lent_number, argument_number}
use Rattle.refusal.proofs.Accepted.{or_zero, arguments_accepted}
use Rattle.access.specs.Access.{under_way, read_number, read_all}
use Rattle.access.proofs.Calls.{read_done_lem}
use Rattle.calls.specs.Calls.{Call, read, write, external, snoop, flush, control, view, reset, test_write, test_read, set_ranges, step, step_by, records_left}
use Rattle.calls.specs.Plain.{PlainMemory, held_after, held_at_end, groups_of, named_by, moves, byte_moved, byte_read, Plain, plain_accepted, plain_refused, plain_number, plain_done, plain}
use Rattle.calls.specs.Matches.{kind_of, alters, EachQuiet, KenInactive}
use Rattle.calls.proofs.Counts.{reads_most, records_left_lem}
use Rattle.calls.proofs.Doublewords.{bytes_by_at}

-- the log of an accepted read has the records of its cycles
pub read_records : (s : State) (a w : ℕ) (pcd : Bool) (xs log : List ℕ) (ws : List Carried) → read_number s a w xs log ws ≡ 0 →
    records_left (step s (read a w pcd xs log ws)) ≡ (read_all s a w pcd xs ws).records
unfolding step_by read_number read_all
read_records s a w pcd xs log ws z =
    let size = length s.memory.ram in
    let p = (or_zero (lent_number size (length s.memory.parity) (length s.array)) _ z).1 in
    let k = arguments_accepted size a w xs (length log) (or_zero (argument_number size a w xs (length log)) _ p).0 in
    let most = reads_most pcd (ranges_kept s.directory) group_count xs a w 0 (under_way s ws 0) in
    rw (read_done_lem s a w pcd xs log ws z) (records_left_lem log (read_all s a w pcd xs ws).records (omega (arith, k.records)))

-- A READ THAT CARRIES NOTHING

same_cond : (b : Bool) (n : ℕ) → cond b n n ≡ n
same_cond true n = refl
same_cond false n = refl

module _ (rom : List Range) (m : List ℕ) (a : ℕ) where
  byte_moved_alone : (n : ℕ) (rs : List Record) → byte_moved rom m [] n rs a (get_or m a 0) ≡ get_or m a 0
  unfolding byte_moved held_after
  byte_moved_alone n [] = refl
  byte_moved_alone n (r ∷ rs) = ap (cond (moves r a) (get_or m a 0)) (byte_moved_alone (suc n) rs) ∙ same_cond (moves r a) (get_or m a 0)

  byte_alone : (n : ℕ) (gs : List (List Record)) → byte_read rom m [] n gs a ≡ get_or m a 0
  unfolding byte_read held_after
  byte_alone n [] = refl
  byte_alone n (g ∷ gs) =
      by_test (λ b. cond b (byte_read rom m [] (n + length g) gs a) (byte_moved rom m [] n (cond (eqb (named_by g) (a / 4 * 4)) g []) a (get_or m a 0)) ≡ get_or m a 0) (ltb (named_by g) (a / 4 * 4))
      (λ _. byte_alone (n + length g) gs)
      (λ _. byte_moved_alone n (cond (eqb (named_by g) (a / 4 * 4)) g []))

-- its bytes are the plain memory's, whatever the records are
pub read_alone_lem : (m : PlainMemory) (a w : ℕ) (pcd : Bool) (xs log : List ℕ) (rs : List Record) →
    plain_done m (read a w pcd xs log []) rs ≡ plain_accepted (value_of (bytes_at m.bytes a w)) [] m
unfolding plain_done held_at_end
read_alone_lem m a w pcd xs log rs =
    rw (bytes_by_at m.bytes (byte_read m.rom m.bytes [] 0 (groups_of rs)) a a w (λ o l. let e = byte_alone m.rom m.bytes (a + o) 0 (groups_of rs) in rw e))

-- a call that carries nothing: the plain memory's answer is the same whatever it is told
abbrev pub carries_none : Call → Bool
carries_none (read a w pcd xs log []) = true
carries_none (read a w pcd xs log (x ∷ ws)) = false
carries_none (write a w v xs log) = true
carries_none (external a x) = true
carries_none (snoop a) = true
carries_none flush = true
carries_none (control cd nw) = true
carries_none (view a) = true
carries_none reset = true
carries_none (test_write r w tag mark x) = true
carries_none (test_read r w) = true
carries_none (set_ranges words) = true

done_alone_lem : (m : PlainMemory) (c : Call) → carries_none c ≡ true → (rs : List Record) → plain_done m c rs ≡ plain_done m c []
unfolding plain_done
done_alone_lem m (read a w pcd xs log []) h rs = read_alone_lem m a w pcd xs log rs ∙ sym (read_alone_lem m a w pcd xs log [])
done_alone_lem m (read a w pcd xs log (x ∷ ws)) h rs = absurd (true≢false (sym h))
done_alone_lem m (write a w v xs log) h rs = refl
done_alone_lem m (external a x) h rs = refl
done_alone_lem m (snoop a) h rs = refl
done_alone_lem m flush h rs = refl
done_alone_lem m (control cd nw) h rs = refl
done_alone_lem m (view a) h rs = refl
done_alone_lem m reset h rs = refl
done_alone_lem m (test_write r w tag mark x) h rs = refl
done_alone_lem m (test_read r w) h rs = refl
done_alone_lem m (set_ranges words) h rs = refl

pub told_alone : (m : PlainMemory) (c : Call) → carries_none c ≡ true → (rs : List Record) → plain m c rs ≡ plain m c []
unfolding plain
told_alone m c h rs = ap (λ (p : Plain). cond (eqb (plain_number m.bytes c) 0) p (plain_refused (plain_number m.bytes c) m)) (done_alone_lem m c h rs)

-- a call that sets no range leaves the plain memory's ranges
done_rom : (m : PlainMemory) (c : Call) → alters (kind_of c) 0 ≡ false → (rs : List Record) → (plain_done m c rs).memory.rom ≡ m.rom
unfolding plain_done
done_rom m (read a w pcd xs log ws) h rs = refl
done_rom m (write a w v xs log) h rs = refl
done_rom m (external a x) h rs = refl
done_rom m (snoop a) h rs = refl
done_rom m flush h rs = refl
done_rom m (control cd nw) h rs = refl
done_rom m (view a) h rs = refl
done_rom m reset h rs = refl
done_rom m (test_write r w tag mark x) h rs = refl
done_rom m (test_read r w) h rs = refl
done_rom m (set_ranges words) h rs = absurd (true≢false h)

pub rom_stays : (m : PlainMemory) (c : Call) → alters (kind_of c) 0 ≡ false → (rs : List Record) → (plain m c rs).memory.rom ≡ m.rom
unfolding plain
rom_stays m c h rs =
    by_test (λ b. (cond b (plain_done m c rs) (plain_refused (plain_number m.bytes c) m)).memory.rom ≡ m.rom) (eqb (plain_number m.bytes c) 0)
    (λ _. done_rom m c h rs)
    (λ _. refl)

-- without a range every answer may have KEN#
none_quiet : (ds : List Doubleword) → EachQuiet [] ds
unfolding EachQuiet read_only
none_quiet [] = tt
none_quiet (d ∷ ds) = ((λ h. absurd (true≢false (sym h))), none_quiet ds)

pub none_inactive : (c : Call) → KenInactive [] c
none_inactive (read a w pcd xs log ws) = none_quiet _
none_inactive (write a w v xs log) = tt
none_inactive (external a x) = tt
none_inactive (snoop a) = tt
none_inactive flush = tt
none_inactive (control cd nw) = tt
none_inactive (view a) = tt
none_inactive reset = tt
none_inactive (test_write r w tag mark x) = tt
none_inactive (test_read r w) = tt
none_inactive (set_ranges words) = tt

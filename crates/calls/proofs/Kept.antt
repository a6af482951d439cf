-- What every list of calls keeps, whatever it does to CD and NW and whatever tags stand in a set: lengths, limits, ranges, parity that agrees.
use Rattle.std.specs.Prelude.{Option, Some, None}
use Prim.Native.Nat.{ℕ, ◌+◌, ◌≤◌}
use mathlib.Core.Path.{◌≡◌, refl, sym, ◌∙◌, ap}
use mathlib.Core.Bool.{Bool, true, ◌&&◌}
use mathlib.Core.List.{List, [], ◌∷◌}
use native.Mathlib.Omega.{arith}
use lib.ListN.{length}
use lib.Seq.{length-sets}
use Rattle.laws.proofs.Tests.{by_test, same_or}
use Rattle.directory.specs.declared.steps.Directory.{Directory}
use Rattle.ways.specs.Address.{set_of, tag_of, line_offset, data_offset}
use Rattle.directory.specs.Steps.{ranges_kept, lookup_of, victim_of, state_number_of, after_use, with_ranges, after_reset, after_control, after_snoop, control_refused}
use Rattle.directory.specs.WellFormed.{WithinLimits}
use Rattle.ways.proofs.FourWays.{victim_below}
use Rattle.directory.proofs.Laws.{lookup_at, reset_control, reset_ranges, reset_limits, ranges_set_lem, ranges_control, ranges_limits, use_control, use_ranges, use_limits}
use Rattle.directory.proofs.Laws.{line_control, line_ranges, line_limits, fill_control, fill_ranges, fill_address_limits, control_ranges, control_limits, control_disabled, control_accepted, control_refused_lem, flush_control, flush_ranges, flush_limits, snoop_ranges, snoop_control, snoop_limits, snoop_accepted, snoop_refused}
use Rattle.words.specs.Bytes.{bytes_at}
use Rattle.ranges.specs.Ranges.{Range}
use Rattle.memory.specs.Parity.{Agrees, written}
use Rattle.memory.proofs.Written.{written_lengths}
use Rattle.carried.specs.Carried.{Carried, due, later, landed}
use Rattle.carried.proofs.Due.{due_zero, due_none}
use Rattle.bus.specs.Groups.{group_count}
use Rattle.doubleword.specs.Doubleword.{Doubleword, Done, doublewords_of, changed}
use Rattle.reading.specs.Reading.{kept_change, kept_array, read_hit, read_miss, settled, read_done}
use Rattle.writing.specs.Writing.{write_through, hit_array, write_done}
use Rattle.refusal.specs.Refusal.{or_else, lent_number, argument_number, carried_number, memory_number, external_number, kept_number}
use Rattle.refusal.proofs.Accepted.{or_zero, GoodMemory, GoodExternal, arguments_accepted, external_accepted}
use Rattle.refusal.specs.Call.{State, state, next_state}
use Rattle.access.specs.Access.{operand_of, read_number, write_number, write_one, next, all_of, UnderWay, under_way, snooped_by, directory_after, read_one, read_next, landed_after, read_each, read_all, write_all}
use Rattle.access.proofs.Landing.{landed_one, none_snooped}
use Rattle.access.proofs.Calls.{read_refused, read_done_lem, write_refused, write_done_lem}
use Rattle.masters.specs.Masters.{external_write_number}
use Rattle.masters.proofs.External.{external_refused, external_done}
use Rattle.diagnostics.specs.Diagnostics.{test_write_number}
use Rattle.diagnostics.proofs.Laws.{test_write_done, test_write_refused, test_write_place}
use Rattle.read_only_ranges.specs.SetRanges.{set_ranges_number, ranges_set}
use Rattle.read_only_ranges.proofs.SetRanges.{set_ranges_done, set_ranges_refused, set_ranges_kept}
use Rattle.calls.specs.Calls.{Call, read, write, external, snoop, flush, control, view, reset, test_write, test_read, set_ranges, step, step_by}
use Rattle.calls.proofs.Memories.{written_agrees}
use Rattle.calls.proofs.Carrying.{EachGood, carried_accepted, due_good, later_good}
use Rattle.calls.proofs.Doublewords.{Proper, EachProper, given_of, given_inside, given_written, access_proper}

-- directory and buffers have document 01's lengths, tags and LRU numbers are within their limits, NW = 1 only with CD = 1, 37 and 38 are not met, parity agrees
pub record Kept (s : State) : Type 0 where
  pub limits : WithinLimits s.directory
  pub control : s.directory.nw ≡ true → s.directory.cd ≡ true
  pub lent : GoodMemory (length s.memory.ram) (length s.memory.parity)
  pub array_length : length s.array ≡ 8192
  pub ranges : kept_number (length s.memory.ram) s.directory.ranges ≡ 0
  pub agrees : Agrees s.memory

module _ (s : State) (k : Kept s) where
  -- another directory
  kept_changed : (d : Directory) → WithinLimits d → (d.nw ≡ true → d.cd ≡ true) → kept_number (length s.memory.ram) d.ranges ≡ 0 → Kept (state d s.memory s.array)
  kept_changed d g h z = record { limits = g; control = h; lent = k.lent; array_length = k.array_length; ranges = z; agrees = k.agrees }

  -- ranges that stay
  kept_ranges : (d : Directory) → d.ranges ≡ s.directory.ranges → kept_number (length s.memory.ram) d.ranges ≡ 0
  kept_ranges d e = ap (kept_number (length s.memory.ram)) e ∙ k.ranges

  -- one with the same CD, NW and ranges, and another data array
  kept_with : (d : Directory) → WithinLimits d → (d.cd ≡ s.directory.cd) × (d.nw ≡ s.directory.nw) → d.ranges ≡ s.directory.ranges →
      (array : List ℕ) → length array ≡ length s.array → Kept (state d s.memory array)
  kept_with d g c q array e =
      record {
        limits = g;
        control = λ h. c.0 ∙ k.control (sym c.1 ∙ h);
        lent = k.lent;
        array_length = e ∙ k.array_length;
        ranges = kept_ranges d q;
        agrees = k.agrees;
      }

  -- bytes written into RAM with their parity
  kept_written : (rom : List Range) (a : ℕ) (x : List ℕ) → a + length x ≤ length s.memory.ram → Kept (state s.directory (written rom s.memory a x) s.array)
  kept_written rom a x fits =
      let l = written_lengths rom s.memory a x in
      record {
        limits = k.limits;
        control = k.control;
        lent = rw (l.0, l.1) k.lent;
        array_length = k.array_length;
        ranges = rw l.0 k.ranges;
        agrees = written_agrees rom s.memory a x fits (omega (arith, k.lent.whole, k.lent.bits)) k.agrees;
      }

module _ (s : State) (k : Kept s) where
  -- a snoop, and an external write that 10 does not refuse
  snooped_kept : (a : ℕ) → Kept (state (after_snoop s.directory a) s.memory s.array)
  snooped_kept a =
      let d = s.directory in
      kept_with s k (after_snoop d a) (snoop_limits d k.limits a) (snoop_control d k.limits.sized a) (snoop_ranges d a) s.array refl

  pub landed_kept : (rom : List Range) (w : Carried) → GoodExternal (length s.memory.ram) w.address (length w.bytes) → Kept (landed_one rom s w)
  landed_kept rom w g = kept_written (state (after_snoop s.directory w.address) s.memory s.array) (snooped_kept w.address) rom w.address w.bytes g.inside

-- A DOUBLEWORD

-- the same with so many bytes of RAM, in which the doublewords of an access lie
pub record KeptIn (size : ℕ) (s : State) : Type 0 where
  pub kept : Kept s
  pub ram_length : length s.memory.ram ≡ size

module _ (size : ℕ) (s : State) (k : KeptIn size s) (w : Doubleword) (ok : Proper size w) where
  abbrev d : Directory
  d = s.directory

  changed_kept : (d' : Directory) → WithinLimits d' → (d'.cd ≡ d.cd) × (d'.nw ≡ d.nw) → d'.ranges ≡ d.ranges →
      (array : List ℕ) → length array ≡ length s.array → KeptIn size (state d' s.memory array)
  changed_kept d' g c q array e = record { kept = kept_with s k.kept d' g c q array e; ram_length = k.ram_length }

  used_kept : (way : ℕ) → lookup_of d w.line ≡ Some way →
      (array : List ℕ) → length array ≡ length s.array → KeptIn size (state (after_use d (set_of w.line) way) s.memory array)
  used_kept way e =
      let r = set_of w.line in
      changed_kept (after_use d r way) (use_limits d k.kept.limits r way (omega arith) (lookup_at d w.line way e).0) (use_control d r way) (use_ranges d r way)

  -- the end of a miss
  settled_kept : (kept : Bool) (buffer : List ℕ) →
      let victim = victim_of d (set_of w.line) in
      KeptIn size (state (changed d w.line (kept_change kept victim)) s.memory (kept_array kept victim w.line buffer s.array))
  unfolding changed
  settled_kept kept buffer =
      let victim = victim_of d (set_of w.line) in
      by_test (λ b. KeptIn size (state (changed d w.line (kept_change b victim)) s.memory (kept_array b victim w.line buffer s.array))) kept
      (λ _.
      changed_kept _
      (fill_address_limits d w.line victim (victim_below d.valid d.lru (set_of w.line)) k.kept.limits (omega (arith, ok.inside, k.ram_length, k.kept.lent.most)))
      (fill_control d (set_of w.line) victim (tag_of w.line))
      (fill_ranges d (set_of w.line) victim (tag_of w.line))
      _ (length-sets s.array (data_offset w.line victim) (bytes_at buffer 0 16)))
      (λ _. k)

  module _ (rom : List Range) (operand : List ℕ) where
    hit_kept : (way : ℕ) → lookup_of d w.line ≡ Some way → KeptIn size (state (after_use d (set_of w.line) way) s.memory (hit_array way s.array operand w))
    unfolding hit_array
    hit_kept way e =
        used_kept way e _ (length-sets s.array (data_offset w.line way + w.wanted.from) (given_of operand w))

    -- RAM with the bytes that a doubleword is given
    through_kept : (t : State) → KeptIn size t → KeptIn size (state t.directory (written rom t.memory (w.line + w.wanted.from) (given_of operand w)) t.array)
    through_kept t kt =
        let a = w.line + w.wanted.from in
        let x = given_of operand w in
        record {
          kept = kept_written t kt.kept rom a x (rw kt.ram_length (given_inside operand size w ok));
          ram_length = (written_lengths rom t.memory a x).0 ∙ kt.ram_length;
        }

    write_found : (f : Option ℕ) → lookup_of d w.line ≡ f → KeptIn size (next s w (write_done f (d.cd && d.nw) rom s.memory s.array operand w))
    unfolding write_done write_through changed
    write_found (Some way) e =
        by_test (λ b. KeptIn size (next s w (write_done (Some way) b rom s.memory s.array operand w))) (d.cd && d.nw)
        (λ _. hit_kept way e)
        (λ _. rw (given_written operand size w ok rom s.memory) (through_kept _ (hit_kept way e)))
    write_found None e = rw (given_written operand size w ok rom s.memory) (through_kept s k)

    pub write_one_kept : KeptIn size (next s w (write_one rom operand s w))
    unfolding write_one
    write_one_kept = write_found (lookup_of d w.line) refl

-- A READ UNDER WAY

-- the same, with writes that 10 does not refuse and of which none is due
pub record UnderKept (size : ℕ) (u : UnderWay) : Type 0 where
  pub unit : KeptIn size u.unit
  pub good : EachGood size u.writes
  pub quiet : due u.cycle u.writes ≡ []

pub landing_kept : (rom : List Range) (size n : ℕ) (ws : List Carried) (s : State) → KeptIn size s → EachGood size ws → KeptIn size (landed_after rom (under_way s ws n))
unfolding landed_after snooped_by landed
landing_kept rom size n [] s k g = k
landing_kept rom size n (w ∷ ws) s k g =
    let e = k.ram_length in
    landing_kept rom size n ws (landed_one rom s w)
    (record {
      kept = landed_kept s k.kept rom w (rw e g.0);
      ram_length = (written_lengths rom s.memory w.address w.bytes).0 ∙ e;
    })
    g.1

module _ (rom : List Range) (size : ℕ) (u : UnderWay) (k : UnderKept size u) where
  -- what lands during so many cycles
  abbrev pub landed_during : ℕ → State
  landed_during n = landed_after rom (under_way u.unit (due (u.cycle + n) u.writes) n)

  pub during_kept : (n : ℕ) → KeptIn size (landed_during n)
  during_kept n = landing_kept rom size n (due (u.cycle + n) u.writes) u.unit k.unit (due_good size (u.cycle + n) u.writes k.good)

  module _ (w : Doubleword) (ok : Proper size w) where
    read_found : (mayFill : Bool) (f : Option ℕ) → lookup_of u.unit.directory w.line ≡ f →
        let n = length (read_miss mayFill rom u.unit.memory u.writes u.cycle w).records in
        KeptIn size (read_next u w (read_done f (victim_of (directory_after u n) (set_of w.line)) mayFill rom u.unit.memory u.writes u.cycle u.unit.array w)).unit
    unfolding read_done read_hit settled changed landed_after
    read_found mayFill (Some way) e = rw (none_snooped u k.quiet) (used_kept size u.unit k.unit w ok way e u.unit.array refl)
    read_found mayFill None e =
        let missed = read_miss mayFill rom u.unit.memory u.writes u.cycle w in
        let n = length missed.records in
        settled_kept size (landed_during n) (during_kept n) w ok missed.kept missed.buffer

    pub read_one_kept : (pcd : Bool) → UnderKept size (read_next u w (read_one pcd rom u w))
    unfolding read_one
    read_one_kept pcd =
        record {
          unit = read_found _ (lookup_of u.unit.directory w.line) refl;
          good = later_good size _ u.writes k.good;
          quiet = due_none _ u.writes;
        }

-- all its doublewords
each_kept : (rom : List Range) (size : ℕ) (pcd : Bool) (ws : List Doubleword) (u : UnderWay) → UnderKept size u → EachProper size ws → KeptIn size (read_each pcd rom u ws).state
unfolding read_each
each_kept rom size pcd [] u k g = landing_kept rom size u.cycle u.writes u.unit k.unit k.good
each_kept rom size pcd (w ∷ ws) u k g = each_kept rom size pcd ws (read_next u w (read_one pcd rom u w)) (read_one_kept rom size u k w g.0 pcd) g.1

-- A CALL

all_kept : (size : ℕ) (one : State → Doubleword → Done) → ((s : State) → KeptIn size s → (w : Doubleword) → Proper size w → KeptIn size (next s w (one s w))) →
    (ws : List Doubleword) (s : State) → KeptIn size s → EachProper size ws → KeptIn size (all_of one s ws).state
unfolding all_of
all_kept size one each [] s k g = k
all_kept size one each (w ∷ ws) s k g = all_kept size one each ws (next s w (one s w)) (each s k w g.0) g.1

module _ (s : State) (k : Kept s) where
  abbrev size : ℕ
  size = length s.memory.ram

  abbrev here : KeptIn size s
  here = record { kept = k; ram_length = refl }

  -- the doublewords of an access that is not refused
  proper : (a w : ℕ) (xs log : List ℕ) (later : ℕ) →
      or_else (lent_number size (length s.memory.parity) (length s.array)) (or_else (argument_number size a w xs (length log)) later) ≡ 0 →
      EachProper size (doublewords_of group_count xs a w 0)
  proper a w xs log later z =
      let q = or_zero (argument_number size a w xs (length log)) later (or_zero (lent_number size _ _) _ z).1 in
      access_proper size a w xs (length log) (arguments_accepted size a w xs (length log) q.0) k.lent.whole

  -- the writes that a read carries which is not refused
  carries : (a w : ℕ) (xs log : List ℕ) (ws : List Carried) → read_number s a w xs log ws ≡ 0 → EachGood size ws
  unfolding read_number
  carries a w xs log ws z =
      let p = (or_zero (lent_number size _ _) _ z).1 in
      let q = (or_zero (argument_number size a w xs (length log)) _ p).1 in
      (carried_accepted size ws (or_zero (carried_number size ws) _ q).0).0

  read_kept : (a w : ℕ) (pcd : Bool) (xs log : List ℕ) (ws : List Carried) → Kept (next_state (step s (read a w pcd xs log ws)))
  unfolding step_by read_number read_all
  read_kept a w pcd xs log ws =
      same_or _ (read_number s a w xs log ws) 0
      (λ z.
      let u : UnderKept size (under_way s ws 0) = record { unit = here; good = carries a w xs log ws z; quiet = due_zero ws } in
      rw (read_done_lem s a w pcd xs log ws z) (each_kept (ranges_kept s.directory) size pcd (doublewords_of group_count xs a w 0) (under_way s ws 0) u (proper a w xs log _ z)).kept)
      (λ h. rw (read_refused s a w pcd xs log ws h) k)

  write_kept : (a w v : ℕ) (xs log : List ℕ) → Kept (next_state (step s (write a w v xs log)))
  unfolding step_by write_number write_all
  write_kept a w v xs log =
      same_or _ (write_number s a w v xs log) 0
      (λ z. rw (write_done_lem s a w v xs log z) (all_kept size (write_one (ranges_kept s.directory) (operand_of v)) (λ t kt u ok. write_one_kept size t kt u ok (ranges_kept s.directory) (operand_of v)) (doublewords_of group_count xs a w 0) s here (proper a w xs log _ z)).kept)
      (λ h. rw (write_refused s a w v xs log h) k)

  external_kept : (a : ℕ) (x : List ℕ) → Kept (next_state (step s (external a x)))
  unfolding step_by external_write_number
  external_kept a x =
      same_or _ (external_write_number s.directory s.memory a x) 0
      (λ z.
      let own = (or_zero (external_number size a (length x)) _ (or_zero (memory_number size (length s.memory.parity)) _ z).1).0 in
      rw (external_done s a x z) (kept_written _ (snooped_kept s k a) (ranges_kept s.directory) a x (external_accepted size a (length x) own).inside))
      (λ h. rw (external_refused s a x _ refl h) k)

  snoop_kept : (a : ℕ) → Kept (next_state (step s (snoop a)))
  unfolding step_by
  snoop_kept a =
      same_or _ (state_number_of s.directory (set_of a)) 0
      (λ z. rw (snoop_accepted s.directory a z) (snooped_kept s k a))
      (λ h. rw (snoop_refused s.directory a h) k)

  control_kept : (cd nw : Bool) → Kept (next_state (step s (control cd nw)))
  unfolding step_by
  control_kept cd nw =
      by_test (λ b. control_refused cd nw ≡ b → Kept (next_state (step s (control cd nw)))) (control_refused cd nw)
      (λ _ e. rw (control_refused_lem s.directory cd nw e) k)
      (λ _ e. rw (control_accepted s.directory cd nw e) (kept_changed s k _ (control_limits s.directory cd nw k.limits) (control_disabled s.directory cd nw e) (kept_ranges s k (after_control s.directory cd nw) (control_ranges s.directory cd nw))))
      refl

  -- lines are planted within the limits of tags
  test_write_kept : (r w tag : ℕ) (mark : Bool) (x : List ℕ) → Kept (next_state (step s (test_write r w tag mark x)))
  unfolding step_by
  test_write_kept r w tag mark x =
      same_or _ (test_write_number (length s.array) s.directory.cd r w tag) 0
      (λ z.
      let p = test_write_place (length s.array) s.directory.cd r w tag z in
      let g = line_limits s.directory k.limits r w tag mark p.0 p.1 p.2 in
      rw (test_write_done s r w tag mark x z) (kept_with s k _ g (line_control s.directory r w tag mark) (line_ranges s.directory r w tag mark) _ (length-sets s.array (line_offset r w) x)))
      (λ h. rw (test_write_refused s r w tag mark x h) k)

  -- ranges are set within RAM
  ranges_call_kept : (words : List ℕ) → Kept (next_state (step s (set_ranges words)))
  unfolding step_by
  ranges_call_kept words =
      same_or _ (set_ranges_number size words) 0
      (λ z.
      let d = s.directory in
      let kept = ranges_set words in
      let c = ranges_control d kept in
      rw (set_ranges_done s words z)
      (kept_changed s k (with_ranges d kept) (ranges_limits d kept k.limits) (λ h. c.0 ∙ k.control (sym c.1 ∙ h)) (ap (kept_number size) (ranges_set_lem d kept) ∙ set_ranges_kept size words z)))
      (λ h. rw (set_ranges_refused s words h) k)

-- every call, refused or done
pub call_kept : (s : State) → Kept s → (c : Call) → Kept (next_state (step s c))
unfolding step_by
call_kept s k (read a w pcd xs log ws) = read_kept s k a w pcd xs log ws
call_kept s k (write a w v xs log) = write_kept s k a w v xs log
call_kept s k (external a x) = external_kept s k a x
call_kept s k (snoop a) = snoop_kept s k a
call_kept s k flush = kept_with s k _ (flush_limits s.directory k.limits) (flush_control s.directory) (flush_ranges s.directory) s.array refl
call_kept s k (control cd nw) = control_kept s k cd nw
call_kept s k (view a) = k
call_kept s k reset =
    let ranges = s.directory.ranges in
    kept_changed s k _ (reset_limits ranges) (λ _. (reset_control ranges).0) (kept_ranges s k (after_reset s.directory) (reset_ranges ranges))
call_kept s k (test_write r w tag mark x) = test_write_kept s k r w tag mark x
call_kept s k (test_read r w) = k
call_kept s k (set_ranges words) = ranges_call_kept s k words

-- A LIST

-- the state after a list of calls
abbrev pub state_after_all : State → List Call → State
state_after_all s [] = s
state_after_all s (c ∷ cs) = state_after_all (next_state (step s c)) cs

pub list_kept : (s : State) → Kept s → (cs : List Call) → Kept (state_after_all s cs)
list_kept s k [] = k
list_kept s k (c ∷ cs) = list_kept (next_state (step s c)) (call_kept s k c) cs

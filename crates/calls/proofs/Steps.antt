-- Each call keeps the invariant and matches the plain memory.
use Rattle.std.specs.Prelude.{Option, Some, None}
use Prim.Native.Nat.{ℕ, ◌*◌, ◌/◌, ◌%◌}
use mathlib.Core.Path.{◌≡◌, refl, sym, ◌∙◌, ap}
use mathlib.Core.Bool.{Bool, true, false, true≢false}
use mathlib.Core.List.{List, []}
use native.Mathlib.Omega.{arith}
use lib.ListN.{length}
use borrow.Author.Tests.{eq-eqb, ne_eqb}
use Rattle.laws.proofs.Tests.{differ, cond_true, cond_false, by_test, same_or}
use Rattle.directory.specs.declared.steps.Directory.{Directory}
use Rattle.ways.specs.Address.{set_of, tag_of, data_offset}
use Rattle.directory.specs.Steps.{ranges_kept, lookup_of, with_ranges, after_reset, after_flush, after_control, after_snoop, control_refused}
use Rattle.directory.specs.WellFormed.{Apart}
use Rattle.directory.proofs.Laws.{lookup_at, reset_none, reset_ranges, reset_apart, ranges_set_lem, ranges_held, ranges_apart, flush_none, flush_ranges, flush_apart, control_ranges, control_held, control_set, control_apart, control_accepted, control_refused_lem, snoop_accepted}
use Rattle.ranges.specs.Ranges.{Range, ranges_in, ranges_of}
use Rattle.words.specs.Bytes.{bytes_at, value_of}
use Rattle.carried.specs.Carried.{Carried}
use Rattle.carried.proofs.Due.{later_zero}
use Rattle.bus.specs.Groups.{group_count, answer_count}
use Rattle.bus.specs.Record.{Record}
use Rattle.doubleword.specs.Doubleword.{doublewords_of}
use Rattle.directory.specs.Outcome.{outcome}
use Rattle.refusal.specs.Call.{State, state, After, on_directory, refused, next_state}
use Rattle.access.specs.Access.{operand_of, read_number, write_number, write_one, all_of, under_way, read_each, read_all, write_all}
use Rattle.masters.specs.Masters.{external_write_number}
use Rattle.refusal.specs.Refusal.{argument_number, value_number, carried_number}
use Rattle.refusal.proofs.Accepted.{or_zero, arguments_accepted, external_accepted}
use Rattle.access.proofs.Calls.{read_refused, read_done_lem, write_refused, write_done_lem}
use Rattle.masters.proofs.External.{external_refused, external_done}
use Rattle.diagnostics.specs.Diagnostics.{test_write_number}
use Rattle.diagnostics.proofs.Laws.{test_write_done, test_write_refused}
use Rattle.read_only_ranges.specs.SetRanges.{set_ranges_number, ranges_set}
use Rattle.read_only_ranges.proofs.SetRanges.{set_ranges_done, set_ranges_refused, set_ranges_given}
use Rattle.views.specs.View.{shown}
use Rattle.views.proofs.Viewing.{view_refused, view_done}
use Rattle.calls.specs.Calls.{Call, read, write, external, snoop, flush, control, view, reset, test_write, test_read, set_ranges, step, step_by, view_number_of, records_left}
use Rattle.calls.specs.Plain.{PlainMemory, Plain, bytes_read, plain_accepted, plain_refused, plain_number, plain_done, plain, plain_told}
use Rattle.calls.specs.Matches.{NoParityError, setting, kind_of, testing, plants, empties, alters, KenInactive, SameResults, Matches, sets_nw}
use Rattle.words.proofs.Spans.{bytes_same}
use Rattle.calls.proofs.Bytes.{operand_bytes}
use Rattle.calls.proofs.Cycles.{logged_no_error}
use Rattle.calls.proofs.Counts.{reads_most, writes_most, records_there, records_left_lem, none_counted}
use Rattle.calls.proofs.Coherence.{Empty, Beside, Coherent, fewer_lines, empty_beside, line_around}
use Rattle.calls.proofs.Doublewords.{access_proper, doublewords_by, doublewords_written, doublewords_ascending}
use Rattle.calls.proofs.Carrying.{carried_accepted, held_first}
use Rattle.calls.proofs.Reading.{UnderBeside, read_all_lem}
use Rattle.calls.proofs.Writing.{write_all_lem}
use Rattle.calls.proofs.Snooping.{snoop_beside, external_beside}
use Rattle.calls.proofs.Numbers.{state_zero, read_number_lem, write_number_lem, external_write_number_lem, view_number, setting_number, plain_read, plain_write, plain_external, plain_ranges, plain_view}

-- what a step leaves beside what the plain memory answers
pub record StepMatches (x : After) (p : Plain) : Type 0 where
  pub beside : Beside p.memory.rom (next_state x) p.memory.bytes
  pub results : SameResults x p
  pub no_error : NoParityError x

-- what is compared of a call; and beside the plain memory after it, but for an accepted test write
pub record CallMatches (x : Call) (a : After) (p : Plain) : Type 0 where
  pub matches : Matches x a p
  pub beside : plants (kind_of x) a.outcome.number ≡ false → Beside p.memory.rom (next_state a) p.memory.bytes

matched : (x : Call) {a : After} {p : Plain} → StepMatches a p → CallMatches x a p
matched x g =
    record { matches = record { results = λ _. g.results; rams = g.beside.rams; no_parity_error = g.no_error }; beside = λ _. g.beside }

-- of a test call RAM is compared, and that no record carries 128
tested : (x : Call) {a : After} {p : Plain} → testing (kind_of x) ≡ true → a.memory.ram ≡ p.memory.bytes → a.outcome.cycles ≡ 0 →
    (plants (kind_of x) a.outcome.number ≡ false → Beside p.memory.rom (next_state a) p.memory.bytes) → CallMatches x a p
tested x t e z b =
    record { matches = record { results = λ n. absurd (differ t n); rams = e; no_parity_error = none_counted _ z }; beside = b }

-- nothing changed, with a number
pub refused_matches : (s : State) (m : PlainMemory) → Coherent m.rom s m.bytes → (n : ℕ) (log : List ℕ) → StepMatches (refused n s log) (plain_refused n m)
refused_matches s m c n log =
    record {
      beside = c.beside;
      results = record { numbers = refl; values = refl; views = refl };
      no_error = none_counted _ refl;
    }

-- the plain memory by its number
plain_accepted_lem : (m : PlainMemory) (x : Call) (rs : List Record) → plain_number m.bytes x ≡ 0 → plain m x rs ≡ plain_done m x rs
unfolding plain
plain_accepted_lem m x rs z = cond_true _ _ _ (eq-eqb _ 0 z)

plain_refused_lem : (m : PlainMemory) (x : Call) (rs : List Record) → (plain_number m.bytes x ≡ 0 → ⊥) → plain m x rs ≡ plain_refused (plain_number m.bytes x) m
unfolding plain
plain_refused_lem m x rs h = cond_false _ _ _ (ne_eqb _ 0 h)

-- a call by its number: refused and nothing changed, or done
module _ (s : State) (m : PlainMemory) (c : Coherent m.rom s m.bytes) (x : Call) where
  by_number : (n : ℕ) → n ≡ plain_number m.bytes x → (n ≡ 0 → StepMatches (step s x) (plain_done m x (records_left (step s x)))) → (log : List ℕ) → ((n ≡ 0 → ⊥) → step s x ≡ refused n s log) →
      StepMatches (step s x) (plain_told s m x)
  by_number n e g log f =
      same_or _ n 0
      (λ z. rw (plain_accepted_lem m x _ (sym e ∙ z)) (g z))
      (λ h. rw (plain_refused_lem m x _ (λ q. h (e ∙ q)), f h, e) (refused_matches s m c (plain_number m.bytes x) log))

-- a call that changes nothing but the directory
module _ (s : State) (m : PlainMemory) where
  changed_matches : (d : Directory) → Beside m.rom (state d s.memory s.array) m.bytes → StepMatches (on_directory s (outcome d 0 0 0)) (plain_accepted 0 [] m)
  changed_matches d b =
      record {
        beside = b;
        results = record { numbers = refl; values = refl; views = refl };
        no_error = none_counted _ refl;
      }

  -- one that drops every line: only RAM and ranges need be the memory's before it
  module _ (e : s.memory.ram ≡ m.bytes) (q : ranges_kept s.directory ≡ m.rom) where
    emptied_matches : (d : Directory) → Apart d → Empty d → d.ranges ≡ s.directory.ranges → StepMatches (on_directory s (outcome d 0 0 0)) (plain_accepted 0 [] m)
    emptied_matches d g n k = changed_matches d (empty_beside m.rom (state d s.memory s.array) m.bytes e g n (ap ranges_of k ∙ q))

    flush_matches : StepMatches (step s flush) (plain_told s m flush)
    unfolding step_by plain plain_number plain_done
    flush_matches = emptied_matches (after_flush s.directory) (flush_apart s.directory) (flush_none s.directory) (flush_ranges s.directory)

    reset_matches : StepMatches (step s reset) (plain_told s m reset)
    unfolding step_by plain plain_number plain_done
    reset_matches =
        let ranges = s.directory.ranges in
        emptied_matches (after_reset s.directory) (reset_apart ranges) (reset_none ranges) (reset_ranges ranges)

    pub emptying_matches : (x : Call) → empties (kind_of x) ≡ true → CallMatches x (step s x) (plain_told s m x)
    emptying_matches (read a w pcd xs log ws) e = absurd (true≢false (sym e))
    emptying_matches (write a w v xs log) e = absurd (true≢false (sym e))
    emptying_matches (external a x) e = absurd (true≢false (sym e))
    emptying_matches (snoop a) e = absurd (true≢false (sym e))
    emptying_matches flush e = matched flush flush_matches
    emptying_matches (control cd nw) e = absurd (true≢false (sym e))
    emptying_matches (view a) e = absurd (true≢false (sym e))
    emptying_matches reset e = matched reset reset_matches
    emptying_matches (test_write r w tag mark x) e = absurd (true≢false (sym e))
    emptying_matches (test_read r w) e = absurd (true≢false (sym e))
    emptying_matches (set_ranges words) e = absurd (true≢false (sym e))

module _ (s : State) (m : PlainMemory) (c : Coherent m.rom s m.bytes) where
  abbrev rom : List Range
  rom = m.rom

  abbrev bytes : List ℕ
  bytes = m.bytes

  whole : length bytes % 16 ≡ 0
  whole = rw c.beside.rams at c.kept.lent.whole

  -- READ AND WRITE

  read_matches : (a w : ℕ) (pcd : Bool) (xs log : List ℕ) (ws : List Carried) → KenInactive rom (read a w pcd xs log ws) → StepMatches (step s (read a w pcd xs log ws)) (plain_told s m (read a w pcd xs log ws))
  unfolding step_by plain_done read_all
  read_matches a w pcd xs log ws quiet =
      by_number s m c (read a w pcd xs log ws) (read_number s a w xs log ws) (read_number_lem rom s bytes c a w xs log ws ∙ sym (plain_read bytes a w pcd xs log ws))
      (λ z.
      let n = or_zero (argument_number (length bytes) a w xs (length log)) (carried_number (length bytes) ws) (sym (read_number_lem rom s bytes c a w xs log ws) ∙ z) in
      let k = arguments_accepted (length bytes) a w xs (length log) n.0 in
      let g = carried_accepted (length bytes) ws n.1 in
      let ds = doublewords_of group_count xs a w 0 in
      let u : UnderBeside rom bytes ws (under_way s ws 0) = record { unit = rw (held_first rom bytes ws) c; left = sym (later_zero ws) } in
      let r = read_all_lem rom bytes ws g.0 g.1 pcd ds (under_way s ws 0) u (access_proper (length bytes) a w xs (length log) k whole) (doublewords_ascending group_count xs a w 0) quiet in
      let rs = (read_each pcd rom (under_way s ws 0) ds).records in
      let most = reads_most pcd rom group_count xs a w 0 (under_way s ws 0) in
      rw (read_done_lem s a w pcd xs log ws z, c.beside.ranges)
      (record {
        beside = r.beside;
        results =
            record {
              numbers = refl;
              values = ap value_of (r.gives ∙ doublewords_by group_count _ xs a w 0 k.fits ∙ ap (λ (x : List Record). bytes_read rom bytes ws x a w) (sym (records_left_lem log rs (omega (arith, k.records)))));
              views = refl;
            };
        no_error =
            record {
              there = records_there log rs answer_count most k.records;
              clear = logged_no_error log rs r.no_error;
            };
      }))
      log
      (λ h. rw (read_refused s a w pcd xs log ws h))

  write_matches : (a w v : ℕ) (xs log : List ℕ) → StepMatches (step s (write a w v xs log)) (plain_told s m (write a w v xs log))
  unfolding step_by plain_done write_all
  write_matches a w v xs log =
      by_number s m c (write a w v xs log) (write_number s a w v xs log) (write_number_lem rom s bytes c a w v xs log ∙ sym (plain_write bytes a w v xs log))
      (λ z.
      let q = or_zero (argument_number (length bytes) a w xs (length log)) (value_number w v) (sym (write_number_lem rom s bytes c a w v xs log) ∙ z) in
      let k = arguments_accepted (length bytes) a w xs (length log) q.0 in
      let r = write_all_lem rom (operand_of v) (doublewords_of group_count xs a w 0) s bytes c (access_proper (length bytes) a w xs (length log) k whole) in
      let rs = (all_of (write_one rom (operand_of v)) s (doublewords_of group_count xs a w 0)).records in
      rw (write_done_lem s a w v xs log z, c.beside.ranges)
      (record {
        beside = rw (doublewords_written rom group_count (operand_of v) bytes xs a w 0 k.fits, operand_bytes v w k.within) at r.beside;
        results = record { numbers = refl; values = refl; views = refl };
        no_error =
            record {
              there = records_there log rs answer_count (writes_most rom (operand_of v) group_count xs a w 0 s) k.records;
              clear = logged_no_error log rs r.no_error;
            };
      }))
      log
      (λ h. rw (write_refused s a w v xs log h))

  -- OTHER MASTERS

  external_matches : (a : ℕ) (x : List ℕ) → StepMatches (step s (external a x)) (plain_told s m (external a x))
  unfolding step_by plain_done
  external_matches a x =
      let n = external_write_number s.directory s.memory a x in
      by_number s m c (external a x) n (external_write_number_lem rom s bytes c a x ∙ sym (plain_external bytes a x))
      (λ z.
      rw (external_done s a x z, c.beside.ranges)
      (record {
        beside = external_beside rom s bytes c a x (external_accepted (length bytes) a (length x) (sym (external_write_number_lem rom s bytes c a x) ∙ z));
        results = record { numbers = refl; values = refl; views = refl };
        no_error = none_counted _ refl;
      }))
      []
      (λ h. rw (external_refused s a x n refl h))

  -- THE DIRECTORY ALONE

  snoop_matches : (a : ℕ) → StepMatches (step s (snoop a)) (plain_told s m (snoop a))
  unfolding step_by plain plain_number plain_done
  snoop_matches a =
      rw (snoop_accepted s.directory a (state_zero rom s bytes c a))
      (changed_matches s m (after_snoop s.directory a) (snoop_beside rom s bytes c a))

  -- an accepted control call that does not set NW leaves NW = 0
  control_matches : (cd nw : Bool) → sets_nw (control cd nw) ≡ false → StepMatches (step s (control cd nw)) (plain_told s m (control cd nw))
  unfolding step_by plain plain_number plain_done
  control_matches cd nw q =
      by_test (λ b. control_refused cd nw ≡ b → StepMatches (step s (control cd nw)) (plain_told s m (control cd nw))) (control_refused cd nw)
      (λ _ e.
      rw (control_refused_lem s.directory cd nw e, e) (refused_matches s m c 9 []))
      (λ _ e.
      let k = control_set s.directory cd nw in
      let never : (after_control s.directory cd nw).nw ≡ true → ⊥ = λ h. differ h (k.1 ∙ rw e at q) in
      rw (control_accepted s.directory cd nw e, e)
      (changed_matches s m (after_control s.directory cd nw)
      (record {
        rams = c.beside.rams;
        apart = control_apart s.directory cd nw c.beside.apart;
        lines = fewer_lines s.directory (after_control s.directory cd nw) bytes s.array (λ r v tag rl vl h. control_held s.directory cd nw r v tag h) c.beside.lines;
        nw = λ h. absurd (never h);
        ranges = ap ranges_of (control_ranges s.directory cd nw) ∙ c.beside.ranges;
        outside = λ r v tag rl vl h. c.beside.outside r v tag rl vl (control_held s.directory cd nw r v tag h);
      })))
      refl

  -- VIEWS

  shown_is : (a : ℕ) (f : Option ℕ) → lookup_of s.directory a ≡ f → shown f s.memory.ram s.array a ≡ bytes_at bytes (a / 16 * 16) 16
  unfolding shown
  shown_is a (Some w) e =
      let k = lookup_at s.directory a w e in
      bytes_same s.array bytes (data_offset a w) (a / 16 * 16) 16 λ o b.
      rw (line_around a) at (c.beside.lines.same (set_of a) w (tag_of a) (omega arith) k.0 k.1 o b)
  shown_is a None e = ap (λ (l : List ℕ). bytes_at l (a / 16 * 16) 16) c.beside.rams

  view_matches : (a : ℕ) → StepMatches (step s (view a)) (plain_told s m (view a))
  unfolding step_by plain_done
  view_matches a =
      let n = view_number_of s a in
      by_number s m c (view a) n (view_number rom s bytes c a ∙ sym (plain_view bytes a))
      (λ z.
      record {
        beside = c.beside;
        results =
            record {
              numbers = z;
              values = refl;
              views = view_done s.directory.tags s.directory.valid s.directory.lru s.directory.ranges s.memory.ram s.array a n refl z ∙ shown_is a (lookup_of s.directory a) refl;
            };
        no_error = none_counted _ refl;
      })
      []
      (λ h. rw (← view_refused s.directory.tags s.directory.valid s.directory.lru s.directory.ranges s.memory.ram s.array a n refl h))

  -- TEST CALLS

  test_write_matches : (r w tag : ℕ) (mark : Bool) (x : List ℕ) →
      let y = test_write r w tag mark x in CallMatches y (step s y) (plain_told s m y)
  unfolding step_by plain plain_number plain_done
  test_write_matches r w tag mark x =
      same_or _ (test_write_number (length s.array) s.directory.cd r w tag) 0
      (λ z. rw (test_write_done s r w tag mark x z) (tested (test_write r w tag mark x) refl c.beside.rams refl (λ p. absurd (true≢false p))))
      (λ h. rw (test_write_refused s r w tag mark x h) (tested (test_write r w tag mark x) refl c.beside.rams refl (λ _. c.beside)))

  test_read_matches : (r w : ℕ) → CallMatches (test_read r w) (step s (test_read r w)) (plain_told s m (test_read r w))
  unfolding step_by plain plain_number plain_done
  test_read_matches r w = tested (test_read r w) refl c.beside.rams refl (λ _. c.beside)

  -- RANGES

  -- they are set while no line is held
  set_ranges_matches : (words : List ℕ) → (set_ranges_number (length s.memory.ram) words ≡ 0 → Empty s.directory) → StepMatches (step s (set_ranges words)) (plain_told s m (set_ranges words))
  unfolding step_by plain_done
  set_ranges_matches words empty =
      let n = set_ranges_number (length s.memory.ram) words in
      by_number s m c (set_ranges words) n (setting_number rom s bytes c words ∙ sym (plain_ranges bytes words))
      (λ z.
      let d = s.directory in
      let kept = ranges_set words in
      let none = empty z in
      rw (set_ranges_done s words z)
      (record {
        beside = empty_beside (ranges_in words) (state (with_ranges d kept) s.memory s.array) bytes c.beside.rams (ranges_apart d kept c.beside.apart)
            (λ r v tag rl vl h. none r v tag rl vl (ranges_held d kept r v tag h))
            (ap ranges_of (ranges_set_lem d kept) ∙ set_ranges_given (length s.memory.ram) words z);
        results = record { numbers = refl; values = refl; views = refl };
        no_error = none_counted _ refl;
      }))
      []
      (λ h. rw (set_ranges_refused s words h))

  set_ranges_alone : (words : List ℕ) → (alters setting (step s (set_ranges words)).outcome.number ≡ true → Empty s.directory) → set_ranges_number (length s.memory.ram) words ≡ 0 → Empty s.directory
  unfolding step_by
  set_ranges_alone words empty z = empty (rw (set_ranges_done s words z) refl)

  -- EVERY CALL

  -- what a call that is compared must meet
  pub record Allowed (x : Call) : Type 0 where
    pub nw : sets_nw x ≡ false
    pub ken : KenInactive m.rom x
    pub ranges : alters (kind_of x) (step s x).outcome.number ≡ true → Empty s.directory

  pub call_matches : (x : Call) → Allowed x → CallMatches x (step s x) (plain_told s m x)
  call_matches (read a w pcd xs log ws) q = matched (read a w pcd xs log ws) (read_matches a w pcd xs log ws q.ken)
  call_matches (write a w v xs log) q = matched (write a w v xs log) (write_matches a w v xs log)
  call_matches (external a x) q = matched (external a x) (external_matches a x)
  call_matches (snoop a) q = matched (snoop a) (snoop_matches a)
  call_matches flush q = matched flush (flush_matches s m c.beside.rams c.beside.ranges)
  call_matches (control cd nw) q = matched (control cd nw) (control_matches cd nw q.nw)
  call_matches (view a) q = matched (view a) (view_matches a)
  call_matches reset q = matched reset (reset_matches s m c.beside.rams c.beside.ranges)
  call_matches (test_write r w tag mark x) q = test_write_matches r w tag mark x
  call_matches (test_read r w) q = test_read_matches r w
  call_matches (set_ranges words) q = matched (set_ranges words) (set_ranges_matches words (set_ranges_alone words q.ranges))

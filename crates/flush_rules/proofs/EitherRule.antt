-- Under either flush rule every list of calls from reset without an accepted test write has the same answers and records. By induction over the list: the
-- two units differ in alike directories only.
use Prim.Native.Nat.{ℕ}
use mathlib.Core.Path.{◌≡◌, refl, sym, ◌∙◌, ap, subst}
use mathlib.Core.Bool.{Bool, false, cond}
use mathlib.Core.List.{List, [], ◌∷◌}
use native.Mathlib.Omega.{arith}
use lib.Dec.{eqb}
use lib.ListN.{length}
use borrow.Author.Tests.{eq-eqb}
use Rattle.laws.proofs.Tests.{by_test, same_or, differ}
use Rattle.ways.specs.Address.{set_of}
use Rattle.directory.specs.declared.steps.Directory.{Directory}
use Rattle.directory.specs.Outcome.{outcome}
use Rattle.directory.specs.Steps.{ranges_kept, state_number_of, with_ranges, reset_keeping, after_reset, no_ranges, first_reset, after_control, control_refused, after_flush, after_snoop}
use Rattle.directory.specs.Alike.{Alike}
use Rattle.directory.proofs.Laws.{control_accepted, control_refused_lem, snoop_accepted, snoop_refused}
use Rattle.directory.proofs.Alike.{alike_lookup, alike_control, alike_number, alike_ranges, reset_alike, ranges_alike, control_alike, flush_alike, snoop_alike}
use Rattle.ranges.specs.declared.Ranges.{Ranges}
use Rattle.ranges.specs.Ranges.{ranges_of}
use Rattle.memory.specs.Parity.{written}
use Rattle.carried.specs.Carried.{Carried}
use Rattle.bus.specs.Groups.{group_count}
use Rattle.words.specs.Bytes.{value_of}
use Rattle.doubleword.specs.Doubleword.{doublewords_of}
use Rattle.refusal.specs.Call.{State, state, After, after, on_directory, refused, next_state}
use Rattle.access.specs.Access.{Progress, accepted, operand_of, write_one, all_of, under_way, read_each, read_number, write_number, read_all, write_all, read_call, write_call}
use Rattle.masters.specs.Masters.{external_write_number, external_call}
use Rattle.views.specs.View.{view_number_in, view_in}
use Rattle.diagnostics.specs.Diagnostics.{test_write_number, test_read_number}
use Rattle.diagnostics.proofs.Laws.{test_write_done, test_write_refused, test_read_number_lem}
use Rattle.read_only_ranges.specs.SetRanges.{set_ranges_number, ranges_set, set_ranges_call}
use Rattle.calls.specs.Calls.{Call, read, write, external, snoop, flush, control, view, reset, test_write, test_read, set_ranges, step_by, step, view_number_of, view_of}
use Rattle.calls.specs.Matches.{kind_of, plants}
use Rattle.flush_rules.specs.FlushRules.{marks_cleared, Answered, answered, answers_by, NeverPlants, EitherFlushRule}
use Rattle.flush_rules.proofs.Accesses.{with_directory, ProgressAlike, states_same, carried_same, each_alike, all_alike}

-- what a call leaves, with another directory
abbrev leaves_with : Directory → After → After
leaves_with e x =
    record {
      outcome = outcome e x.outcome.number x.outcome.value x.outcome.cycles;
      memory = x.memory;
      array = x.array;
      log = x.log;
      shown = x.shown;
    }

-- two calls leave the same, but for an alike directory
record AfterAlike (x y : After) : Type 0 where
  directory : Directory
  same : y ≡ leaves_with directory x
  alike : Alike x.outcome.directory directory

-- A CALL

module _ (s : State) (e : Directory) (a : Alike s.directory e) where
  abbrev d : Directory
  d = s.directory

  abbrev t : State
  t = with_directory e s

  -- both are refused by one number, or both are done
  by_number : (n k : ℕ) → k ≡ n → (log : List ℕ) (x y : After) → AfterAlike x y → AfterAlike (cond (eqb n 0) x (refused n s log)) (cond (eqb k 0) y (refused k t log))
  by_number n k q log x y h =
      rw q
      (by_test (λ b. AfterAlike (cond b x (refused n s log)) (cond b y (refused n t log))) (eqb n 0)
      (λ _. h)
      (λ _. record { directory = e; same = refl; alike = a }))

  read_number_same : (address width : ℕ) (answers log : List ℕ) (ws : List Carried) → read_number t address width answers log ws ≡ read_number s address width answers log ws
  unfolding read_number
  read_number_same address width answers log ws = rw (states_same d e a address width, carried_same d e a ws, alike_ranges d e a)

  read_alike : (address width : ℕ) (pcd : Bool) (answers log : List ℕ) (ws : List Carried) → AfterAlike (read_call s address width pcd answers log ws) (read_call t address width pcd answers log ws)
  unfolding read_call read_all
  read_alike address width pcd answers log ws =
      let ds = doublewords_of group_count answers address width 0 in
      let here = read_each pcd (ranges_kept d) (under_way s ws 0) ds in
      let r = subst (λ (kept : Ranges). ProgressAlike here (read_each pcd (ranges_of kept) (under_way t ws 0) ds)) (sym (alike_ranges d e a)) (each_alike pcd (ranges_kept d) ds (under_way s ws 0) e a) in
      by_number _ _ (read_number_same address width answers log ws) log _ _
      (record { directory = r.directory; same = ap (λ (p : Progress). accepted (value_of p.bytes) p log) r.same; alike = r.alike })

  write_number_same : (address width value : ℕ) (answers log : List ℕ) → write_number t address width value answers log ≡ write_number s address width value answers log
  unfolding write_number
  write_number_same address width value answers log = rw (states_same d e a address width, alike_ranges d e a)

  write_alike : (address width value : ℕ) (answers log : List ℕ) → AfterAlike (write_call s address width value answers log) (write_call t address width value answers log)
  unfolding write_call write_all
  write_alike address width value answers log =
      let ds = doublewords_of group_count answers address width 0 in
      let here = all_of (write_one (ranges_kept d) (operand_of value)) s ds in
      let r = subst (λ (kept : Ranges). ProgressAlike here (all_of (write_one (ranges_of kept) (operand_of value)) t ds)) (sym (alike_ranges d e a)) (all_alike (ranges_kept d) (operand_of value) ds s e a) in
      by_number _ _ (write_number_same address width value answers log) log _ _
      (record { directory = r.directory; same = ap (λ (p : Progress). accepted 0 p log) r.same; alike = r.alike })

  external_number_same : (address : ℕ) (bytes : List ℕ) → external_write_number e s.memory address bytes ≡ external_write_number d s.memory address bytes
  unfolding external_write_number
  external_number_same address bytes = rw (states_same d e a address (length bytes), alike_ranges d e a)

  external_alike : (address : ℕ) (bytes : List ℕ) → AfterAlike (external_call s address bytes) (external_call t address bytes)
  unfolding external_call
  external_alike address bytes =
      by_number _ _ (external_number_same address bytes) [] _ _
      (record {
        directory = after_snoop e address;
        same = ap (λ (kept : Ranges). after (outcome (after_snoop e address) 0 0 0) (written (ranges_of kept) s.memory address bytes) s.array []) (alike_ranges d e a);
        alike = snoop_alike d e a address;
      })

  snoop_call_alike : (address : ℕ) → AfterAlike (step s (snoop address)) (step_by marks_cleared t (snoop address))
  unfolding step_by
  snoop_call_alike address =
      let q = alike_number d e a (set_of address) (omega arith) in
      same_or _ (state_number_of d (set_of address)) 0
      (λ z.
      rw (snoop_accepted d address z, snoop_accepted e address (q ∙ z))
      (record { directory = after_snoop e address; same = refl; alike = snoop_alike d e a address }))
      (λ n.
      rw (snoop_refused d address n, snoop_refused e address (λ z. n (sym q ∙ z)))
      (record { directory = e; same = ap (λ (x : ℕ). on_directory t (outcome e x 0 0)) q; alike = a }))

  control_call_alike : (cd nw : Bool) → AfterAlike (step s (control cd nw)) (step_by marks_cleared t (control cd nw))
  unfolding step_by
  control_call_alike cd nw =
      by_test (λ b. control_refused cd nw ≡ b → AfterAlike (step s (control cd nw)) (step_by marks_cleared t (control cd nw))) (control_refused cd nw)
      (λ _ q. rw (control_refused_lem d cd nw q, control_refused_lem e cd nw q) (record { directory = e; same = refl; alike = a }))
      (λ _ q.
      rw (control_accepted d cd nw q, control_accepted e cd nw q)
      (record { directory = after_control e cd nw; same = refl; alike = control_alike d e a cd nw }))
      refl

  view_number_same : (address : ℕ) → view_number_of t address ≡ view_number_of s address
  unfolding view_number_in
  view_number_same address = rw (alike_number d e a (set_of address) (omega arith), alike_ranges d e a)

  view_same : (address : ℕ) → view_of t address ≡ view_of s address
  unfolding view_in
  view_same address = rw (view_number_same address, alike_lookup d e a address)

  view_alike : (address : ℕ) → AfterAlike (step s (view address)) (step_by marks_cleared t (view address))
  unfolding step_by
  view_alike address = rw (view_number_same address, view_same address) (record { directory = e; same = refl; alike = a })

  test_write_alike : (set way tag : ℕ) (mark : Bool) (bytes : List ℕ) →
      let c = test_write set way tag mark bytes in
      plants (kind_of c) (step s c).outcome.number ≡ false → AfterAlike (step s c) (step_by marks_cleared t c)
  unfolding step_by
  test_write_alike set way tag mark bytes never =
      let q = (alike_control d e a).0 in
      let n : test_write_number (length s.array) d.cd set way tag ≡ 0 → ⊥ =
      λ z. differ (eq-eqb _ 0 (ap (λ (x : After). x.outcome.number) (test_write_done s set way tag mark bytes z))) never in
      rw (test_write_refused s set way tag mark bytes n, test_write_refused t set way tag mark bytes (rw q n))
      (record { directory = e; same = ap (λ (cd : Bool). refused (test_write_number (length s.array) cd set way tag) t []) q; alike = a })

  test_read_alike : (set way : ℕ) → AfterAlike (step s (test_read set way)) (step_by marks_cleared t (test_read set way))
  unfolding step_by
  test_read_alike set way =
      rw (test_read_number_lem d s.array set way, test_read_number_lem e s.array set way)
      (record {
        directory = e;
        same = ap (λ (cd : Bool). on_directory t (outcome e (test_read_number (length s.array) cd set way) 0 0)) (alike_control d e a).0;
        alike = a;
      })

  flush_call_alike : AfterAlike (step s flush) (step_by marks_cleared t flush)
  unfolding step_by marks_cleared
  flush_call_alike = record { directory = marks_cleared e; same = refl; alike = flush_alike d e a }

  reset_call_alike : AfterAlike (step s reset) (step_by marks_cleared t reset)
  unfolding step_by
  reset_call_alike =
      record {
        directory = after_reset d;
        same = ap (λ (kept : Ranges). on_directory t (outcome (reset_keeping kept) 0 0 0)) (alike_ranges d e a);
        alike = reset_alike d.ranges;
      }

  set_ranges_alike : (words : List ℕ) → AfterAlike (step s (set_ranges words)) (step_by marks_cleared t (set_ranges words))
  unfolding step_by set_ranges_call
  set_ranges_alike words =
      let n = set_ranges_number (length s.memory.ram) words in
      let kept = ranges_set words in
      by_number n n refl [] (on_directory s (outcome (with_ranges d kept) 0 0 0)) (on_directory t (outcome (with_ranges e kept) 0 0 0))
      (record { directory = with_ranges e (ranges_set words); same = refl; alike = ranges_alike d e a (ranges_set words) })

  -- every call but an accepted test write
  call_alike : (c : Call) → plants (kind_of c) (step s c).outcome.number ≡ false → AfterAlike (step s c) (step_by marks_cleared t c)
  unfolding step_by
  call_alike (read address width pcd answers log ws) n = read_alike address width pcd answers log ws
  call_alike (write address width value answers log) n = write_alike address width value answers log
  call_alike (external address bytes) n = external_alike address bytes
  call_alike (snoop address) n = snoop_call_alike address
  call_alike flush n = flush_call_alike
  call_alike (control cd nw) n = control_call_alike cd nw
  call_alike (view address) n = view_alike address
  call_alike reset n = reset_call_alike
  call_alike (test_write set way tag mark bytes) n = test_write_alike set way tag mark bytes n
  call_alike (test_read set way) n = test_read_alike set way
  call_alike (set_ranges words) n = set_ranges_alike words

-- A LIST

from_alike : (cs : List Call) (s : State) (e : Directory) → Alike s.directory e → NeverPlants s cs → answers_by after_flush s cs ≡ answers_by marks_cleared (with_directory e s) cs
unfolding answers_by NeverPlants
from_alike [] s e a n = refl
from_alike (c ∷ cs) s e a n =
    let r = call_alike s e a c n.0 in
    rw r.same
    (ap (λ (x : List Answered). answered (step s c) ∷ x) (from_alike cs (next_state (step s c)) r.directory r.alike n.1))

pub either_flush_rule : EitherFlushRule
either_flush_rule m array cs n = from_alike cs (state first_reset m array) first_reset (reset_alike no_ranges) n

-- Reads and writes as wholes: refused or done, by their number.
use Prim.Native.Nat.{ℕ}
use mathlib.Core.Path.{◌≡◌, refl, sym, ◌∙◌, ap}
use mathlib.Core.Bool.{Bool}
use mathlib.Core.List.{List, []}
use native.Mathlib.Omega.{arith}
use lib.ListN.{length}
use borrow.Author.Tests.{eq-eqb, ne_eqb}
use Rattle.laws.proofs.Tests.{cond_true, cond_false}
use Rattle.directory.specs.declared.steps.Directory.{Directory}
use Rattle.directory.specs.Steps.{ranges_kept}
use Rattle.words.specs.Bytes.{value_of}
use Rattle.memory.specs.Parity.{Memory}
use Rattle.carried.specs.Carried.{Carried}
use Rattle.doubleword.specs.declared.cursor.AccessCursor.{AccessCursor}
use Rattle.bus.specs.Groups.{group_count}
use Rattle.bus.specs.Record.{logged}
use Rattle.doubleword.specs.Doubleword.{Doubleword, Done, doublewords_of}
use Rattle.refusal.specs.Refusal.{or_else, states_number_of, lent_number, argument_number, value_number, kept_number}
use Rattle.directory.specs.Outcome.{outcome}
use Rattle.refusal.specs.Call.{State, state, after, refused}
use Rattle.access.specs.Access.{Progress, progress, all_of, write_one, accepted, read_number, write_number, read_all, write_all, operand_of, read_call, write_call}
use Rattle.doubleword.specs.Cursor.{access_begin, AccessNeeds}
use Rattle.refusal.proofs.Accepted.{or_zero, zero_or, lent_accepted, arguments_accepted}
use Rattle.access.proofs.Alone.{one_alone, each_alone, number_alone}
use Rattle.access.proofs.AccessLoop.{rest_of, AccessInvariant, access_invariant_begin, access_invariant_end, all_done}
use Rattle.access.proofs.WriteLoop.{WriteKept}
use Rattle.access.proofs.ReadLoop.{ReadKept, ReadInvariant, reading_begin, reading_end}

-- a read and a write by their numbers
module _ (s : State) (address width : ℕ) where
  module _ (pcd : Bool) (answers log : List ℕ) (writes : List Carried) where
    pub read_refused : (read_number s address width answers log writes ≡ 0 → ⊥) → read_call s address width pcd answers log writes ≡ refused (read_number s address width answers log writes) s log
    unfolding read_call
    read_refused h = cond_false _ _ _ (ne_eqb _ 0 h)

    pub read_done_lem : read_number s address width answers log writes ≡ 0 →
        read_call s address width pcd answers log writes ≡ accepted (value_of (read_all s address width pcd answers writes).bytes) (read_all s address width pcd answers writes) log
    unfolding read_call
    read_done_lem z = cond_true _ _ _ (eq-eqb _ 0 z)

  pub write_refused : (value : ℕ) (answers log : List ℕ) → (write_number s address width value answers log ≡ 0 → ⊥) → write_call s address width value answers log ≡ refused (write_number s address width value answers log) s log
  unfolding write_call
  write_refused value answers log h = cond_false _ _ _ (ne_eqb _ 0 h)

  pub write_done_lem : (value : ℕ) (answers log : List ℕ) → write_number s address width value answers log ≡ 0 → write_call s address width value answers log ≡ accepted 0 (write_all s address width value answers) log
  unfolding write_call
  write_done_lem value answers log z = cond_true _ _ _ (eq-eqb _ 0 z)

-- what the code has left is what an accepted call leaves
pub finished : (p : Progress) (d : Directory) (m : Memory) (array log log₀ : List ℕ) (value v cycles : ℕ) →
    state d m array ≡ p.state → log ≡ logged log₀ 0 p.records → cycles ≡ length p.records → value ≡ v →
    after (outcome d 0 value cycles) m array log ≡ accepted v p log₀
finished p d m array log log₀ value v cycles es el en ev =
    ap (λ (s : State). after (outcome s.directory 0 value cycles) s.memory s.array log) es
    ∙ ap (λ (x : ℕ). after (outcome p.state.directory 0 x cycles) p.state.memory p.state.array log) ev
    ∙ ap (λ (n : ℕ). after (outcome p.state.directory 0 v n) p.state.memory p.state.array log) en
    ∙ ap (λ (l : List ℕ). after (outcome p.state.directory 0 v (length p.records)) p.state.memory p.state.array l) el

-- what the loops leave is what an accepted call leaves
pub whole : {rest p : Progress} {cycles : ℕ} {log log₀ : List ℕ} → AccessInvariant rest p log₀ cycles log → (d : Directory) (m : Memory) (array : List ℕ) → rest ≡ progress (state d m array) [] [] →
    (value v : ℕ) → value ≡ v → after (outcome d 0 value cycles) m array log ≡ accepted v p log₀
whole {p = p} {cycles = cycles} {log = log} {log₀ = log₀} g d m array e value v ev =
    let r = access_invariant_end g (state d m array) e in
    finished p d m array log log₀ value v cycles r.0 r.1 r.2 ev

-- reads and writes by the number that the code has asked for
module _ (d : Directory) (m : Memory) (array : List ℕ) (address width : ℕ) (answers log : List ℕ) where
  abbrev s : State
  s = state d m array

  abbrev lent : ℕ
  lent = lent_number (length m.ram) (length m.parity) (length array)

  abbrev argument : ℕ
  argument = argument_number (length m.ram) address width answers (length log)

  -- of the ranges that the directory keeps, then of the touched sets
  abbrev states : ℕ
  states = or_else (kept_number (length m.ram) d.ranges) (states_number_of d address width)

  -- what the loops start with, whatever number is asked for later
  pub needs_begin : (later : ℕ) → or_else lent (or_else argument later) ≡ 0 →
      AccessNeeds (access_begin address width) (length m.ram) (length m.parity) (length array) (length answers) (length log)
  needs_begin later z =
      let p = or_zero lent (or_else argument later) z in
      let l = lent_accepted _ _ _ p.0 in
      let r = arguments_accepted _ _ _ answers _ (or_zero argument later p.1).0 in
      record {
        inside = r.inside;
        whole = l.0.whole;
        small = l.0.most;
        bits = l.0.bits;
        array_length = l.1;
        served = r.served;
        records = r.records;
        fits = r.fits;
        last = omega arith;
        made = omega arith;
        operands = omega (arith, r.within);
      }

  abbrev reads_number : ℕ
  reads_number = or_else lent (or_else argument states)

  -- a read's number without 37 and 38 of the ranges, which tell a read without writes nothing more
  abbrev unranged_number : ℕ
  unranged_number = or_else lent (or_else argument (states_number_of d address width))

  pub ranges_apart : reads_number ≡ 0 → (kept_number (length m.ram) d.ranges ≡ 0) × (unranged_number ≡ 0)
  ranges_apart z =
      let later = states_number_of d address width in
      let k = (or_zero (kept_number (length m.ram) d.ranges) later (or_zero argument states (or_zero lent (or_else argument states) z).1).1).0 in
      (k, ap (λ (n : ℕ). or_else lent (or_else argument n)) (sym (zero_or (kept_number (length m.ram) d.ranges) later k)) ∙ z)

  pub ranges_among : kept_number (length m.ram) d.ranges ≡ 0 → unranged_number ≡ 0 → reads_number ≡ 0
  ranges_among k z = ap (λ (n : ℕ). or_else lent (or_else argument n)) (zero_or (kept_number (length m.ram) d.ranges) (states_number_of d address width) k) ∙ z

  module _ (pcd : Bool) where
    pub read_begin : (later : ℕ) → or_else lent (or_else argument later) ≡ 0 → ReadKept pcd answers (all_of (one_alone pcd) s (rest_of (access_begin address width) answers)) log array m (access_begin address width) d array log 0
    read_begin later z =
        record {
          reading = reading_begin (all_of (one_alone pcd) s (rest_of (access_begin address width) answers)) log;
          needs = needs_begin later z;
          arrays = refl;
          logs = refl;
        }

    pub read_turned : (k : ℕ) → k ≡ reads_number → (k ≡ 0 → ⊥) → refused k s log ≡ read_call s address width pcd answers log []
    read_turned k e h =
        let n = e ∙ sym (number_alone s address width answers log) in
        sym (rw (← n) at (read_refused s address width pcd answers log [] (λ z. h (n ∙ z))))

    pub read_made : reads_number ≡ 0 → (cursor : AccessCursor) (d' : Directory) (array' log' : List ℕ) (value : ℕ) → cursor.left ≡ 0 →
        ReadInvariant (all_of (one_alone pcd) (state d' m array') (rest_of cursor answers)) (all_of (one_alone pcd) s (rest_of (access_begin address width) answers)) log cursor.place cursor.cycles log' value →
        after (outcome d' 0 value cursor.cycles) m array' log' ≡ read_call s address width pcd answers log []
    unfolding read_all rest_of
    read_made z cursor d' array' log' value e g =
        let p = all_of (one_alone pcd) s (doublewords_of group_count answers address width 0) in
        let n = all_done (one_alone pcd) answers cursor (state d' m array') e in
        whole g.invariant d' m array' n value (value_of p.bytes) (reading_end g (state d' m array') n)
        ∙ ap (λ (q : Progress). accepted (value_of q.bytes) q log) (sym (each_alone pcd (ranges_kept d) s 0 (doublewords_of group_count answers address width 0)))
        ∙ sym (read_done_lem s address width pcd answers log [] (number_alone s address width answers log ∙ z))

  module _ (value : ℕ) where
    abbrev one : State → Doubleword → Done
    one = write_one (ranges_kept d) (operand_of value)

    abbrev writes_number : ℕ
    writes_number = or_else lent (or_else argument (or_else (value_number width value) states))

    pub write_begin : writes_number ≡ 0 → WriteKept (ranges_kept d) (operand_of value) answers (all_of one s (rest_of (access_begin address width) answers)) log array m (access_begin address width) d m array log
    write_begin z =
        record {
          writing = access_invariant_begin (all_of one s (rest_of (access_begin address width) answers)) log;
          needs = needs_begin (or_else (value_number width value) states) z;
          rams = refl;
          parities = refl;
          arrays = refl;
          logs = refl;
        }

    pub write_turned : (k : ℕ) → k ≡ writes_number → (k ≡ 0 → ⊥) → refused k s log ≡ write_call s address width value answers log
    unfolding write_number
    write_turned k e h = sym (rw (← e) at (write_refused s address width value answers log (λ z. h (e ∙ z))))

    pub write_made : writes_number ≡ 0 → (cursor : AccessCursor) (d' : Directory) (m' : Memory) (array' log' : List ℕ) → cursor.left ≡ 0 →
        AccessInvariant (all_of one (state d' m' array') (rest_of cursor answers)) (all_of one s (rest_of (access_begin address width) answers)) log cursor.cycles log' →
        after (outcome d' 0 0 cursor.cycles) m' array' log' ≡ write_call s address width value answers log
    unfolding write_call write_number write_all rest_of
    write_made z cursor d' m' array' log' e g =
        whole g d' m' array' (all_done one answers cursor (state d' m' array') e) 0 0 refl
        ∙ sym (cond_true _ _ _ (eq-eqb _ 0 z))

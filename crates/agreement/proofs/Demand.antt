-- Demand 3: every list of calls from a reset agrees with the plain memory, but from an accepted test write to the next flush or reset. By induction
-- over the list; the invariant is `Coherent` where calls are compared, and `Kept` where they are not.
use Prim.Native.Nat.{ℕ}
use mathlib.Core.Path.{◌≡◌, refl, sym, ◌∙◌, subst}
use mathlib.Core.Bool.{true, false, cond}
use mathlib.Core.List.{List, [], ◌∷◌}
use lib.Dec.{eqb}
use borrow.Author.Tests.{eqb-true, ne_eqb}
use Rattle.laws.proofs.Tests.{differ, cond_true, cond_false, by_test}
use Rattle.ranges.specs.Ranges.{any_bad}
use Rattle.ranges.proofs.Laws.{no_ranges_lem}
use Rattle.directory.specs.Steps.{ranges_kept, no_ranges, first_reset}
use Rattle.directory.proofs.Laws.{reset_none, reset_control, reset_ranges, reset_limits, reset_apart}
use Rattle.memory.specs.Parity.{Memory}
use Rattle.bus.specs.Record.{Record}
use Rattle.refusal.specs.Call.{State, next_state}
use Rattle.refusal.specs.Refusal.{ranges_number, kept_number}
use Rattle.calls.specs.Calls.{Call, read, write, external, snoop, flush, control, view, reset, test_write, test_read, set_ranges, step, records_left}
use Rattle.calls.specs.Plain.{PlainMemory, plain_memory, plain_number, plain_done, plain_refused, plain, plain_told}
use Rattle.calls.specs.Matches.{kind_of, testing, plants, empties, alters, KenInactive, Matches, sets_nw, Arises}
use Rattle.agreement.specs.Agreement.{Comparison, beside, suspended, begun, ended, IfCompared, EachCompared, AgreesAll, NeverSetsNw, NoKenThere, NeverAlters, Premises, Legal, begin, beside_first, anew, Demand3, GoesOn, BegunAnew, NumbersThatArise}
use Rattle.calls.proofs.Kept.{Kept, call_kept}
use Rattle.calls.proofs.Coherence.{Empty, Coherent, empty_beside}
use Rattle.calls.proofs.Numbers.{plain_arises, test_write_arises, test_read_arises}
use Rattle.calls.proofs.Steps.{CallMatches, emptying_matches, call_matches}

-- no range is kept at first, so that 37 and 38 are not met
none_number : (ram : ℕ) → kept_number ram first_reset.ranges ≡ 0
unfolding ranges_number any_bad
none_number ram = rw (reset_ranges no_ranges, no_ranges_lem no_ranges.bounds)

none_first : ranges_kept first_reset ≡ []
none_first = rw (reset_ranges no_ranges) (no_ranges_lem no_ranges.bounds)

pub start_kept : (m : Memory) (array : List ℕ) → Legal m array → Kept (begin m array)
start_kept m array g =
    record {
      limits = reset_limits no_ranges;
      control = λ _. (reset_control no_ranges).0;
      lent = record { least = g.least; most = g.most; whole = g.whole; bits = g.parity_length };
      array_length = g.array_length;
      ranges = none_number _;
      agrees = g.agrees;
    }

pub start_coherent : (m : Memory) (array : List ℕ) → Legal m array → Coherent [] (begin m array) m.ram
start_coherent m array g =
    record {
      kept = start_kept m array g;
      beside = empty_beside [] (begin m array) m.ram refl (reset_apart no_ranges) (reset_none no_ranges) none_first;
    }

-- WHERE THE COMPARISON ENDS AND BEGINS

module _ (s : State) (m : PlainMemory) (x : Call) where
  abbrev number : ℕ
  number = (step s x).outcome.number

  planted_suspended : plants (kind_of x) number ≡ true → ended (beside m) s x ≡ suspended
  planted_suspended e = cond_true _ _ _ e

  other_beside : plants (kind_of x) number ≡ false → ended (beside m) s x ≡ beside (plain_told s m x).memory
  other_beside e = cond_false _ _ _ e

module _ (s : State) (x : Call) where
  emptied_begun : empties (kind_of x) ≡ true → begun suspended s x ≡ anew s
  emptied_begun e = cond_true _ _ _ e

  other_suspended : empties (kind_of x) ≡ false → begun suspended s x ≡ suspended
  other_suspended e = cond_false _ _ _ e

-- THE INVARIANT, by what stands beside the unit

abbrev Invariant : State → Comparison → Type 0
Invariant s (beside m) = Coherent m.rom s m.bytes
Invariant s suspended = Kept s

-- after a call that is compared
compared_kept : (s : State) (m : PlainMemory) (x : Call) → Kept s → CallMatches x (step s x) (plain_told s m x) → Invariant (next_state (step s x)) (ended (beside m) s x)
compared_kept s m x k g =
    by_test (λ p. plants (kind_of x) (number s m x) ≡ p → Invariant (next_state (step s x)) (ended (beside m) s x)) (plants (kind_of x) (number s m x))
    (λ _ e. subst (Invariant (next_state (step s x))) (sym (planted_suspended s m x e)) (call_kept s k x))
    (λ _ e. subst (Invariant (next_state (step s x))) (sym (other_beside s m x e)) (record { kept = call_kept s k x; beside = g.beside e }))
    refl

-- what is known of a call that is compared
abbrev Known : State → PlainMemory → Call → Type 0
Known s m c = Kept s × Matches c (step s c) (plain_told s m c)

-- what it must meet: no NW, no KEN# in a range, and ranges set only where no line is held
abbrev Meets : State → PlainMemory → Call → Type 0
Meets s m c = (sets_nw c ≡ false) × KenInactive m.rom c × (alters (kind_of c) (step s c).outcome.number ≡ true → Empty s.directory)

-- one call, whatever stands beside it
one : (s : State) (b : Comparison) (x : Call) → Invariant s b → IfCompared Meets s (begun b s x) x →
    IfCompared Known s (begun b s x) x × Invariant (next_state (step s x)) (ended (begun b s x) s x)
one s (beside m) x c n =
    let g = call_matches s m c x (record { nw = n.0; ken = n.1; ranges = n.2 }) in
    ((c.kept, g.matches), compared_kept s m x c.kept g)
one s suspended x k n =
    let m = plain_memory s.memory.ram (ranges_kept s.directory) in
    let Holds : Comparison → Type 0 = λ b. IfCompared Known s b x × Invariant (next_state (step s x)) (ended b s x) in
    by_test (λ e. empties (kind_of x) ≡ e → Holds (begun suspended s x)) (empties (kind_of x))
    (λ _ e. let g = emptying_matches s m refl refl x e in subst Holds (sym (emptied_begun s x e)) ((k, g.matches), compared_kept s m x k g))
    (λ _ e. subst Holds (sym (other_suspended s x e)) (tt, call_kept s k x))
    refl

-- a fact of a call that follows from what is known of it
module _ (P : State → PlainMemory → Call → Type 0) (known : (s : State) (m : PlainMemory) (c : Call) → Known s m c → P s m c) where
  if_compared : (s : State) (b : Comparison) (c : Call) → IfCompared Known s b c → IfCompared P s b c
  if_compared s (beside m) c h = known s m c h
  if_compared s suspended c h = tt

  each_compared : (cs : List Call) (s : State) (b : Comparison) → Invariant s b → EachCompared Meets s b cs → EachCompared P s b cs
  unfolding EachCompared
  each_compared [] s b i n = tt
  each_compared (x ∷ cs) s b i n =
      let h = one s b x i n.0 in
      (if_compared s (begun b s x) x h.0, each_compared cs (next_state (step s x)) (ended (begun b s x) s x) h.1 n.1)

-- THE PREMISES, of each call: after the first none sets the ranges, and at the first no line is held

one_meets : (s : State) (b : Comparison) (c : Call) → IfCompared (λ s m c. sets_nw c ≡ false) s b c → IfCompared (λ s m c. KenInactive m.rom c) s b c →
    IfCompared (λ s m c. alters (kind_of c) (step s c).outcome.number ≡ true → Empty s.directory) s b c → IfCompared Meets s b c
one_meets s (beside m) c n k a = (n, k, a)
one_meets s suspended c n k a = tt

never_alters : (s : State) (b : Comparison) (c : Call) → IfCompared (λ s m c. alters (kind_of c) (step s c).outcome.number ≡ false) s b c →
    IfCompared (λ s m c. alters (kind_of c) (step s c).outcome.number ≡ true → Empty s.directory) s b c
never_alters s (beside m) c h = λ e. absurd (differ e h)
never_alters s suspended c h = tt

each_meets : (cs : List Call) (s : State) (b : Comparison) → NeverSetsNw s b cs → NoKenThere s b cs → NeverAlters s b cs → EachCompared Meets s b cs
unfolding EachCompared
each_meets [] s b n k a = tt
each_meets (c ∷ cs) s b n k a = (
  one_meets s (begun b s c) c n.0 k.0 (never_alters s (begun b s c) c a.0),
  each_meets cs (next_state (step s c)) (ended (begun b s c) s c) n.1 k.1 a.1,
)

all_meet : (m : Memory) (array : List ℕ) (cs : List Call) → Premises (begin m array) (beside_first m) cs → EachCompared Meets (begin m array) (beside_first m) cs
unfolding EachCompared
all_meet m array [] p = tt
all_meet m array (c ∷ cs) p = ((p.nw.0, p.ken.0, λ _. reset_none no_ranges), each_meets cs _ _ p.nw.1 p.ken.1 p.ranges)

pub demand3 : Demand3
demand3 m array cs g p =
    each_compared _ (λ s b c h. h.1) cs (begin m array) (beside_first m) (start_coherent m array g) (all_meet m array cs p)

pub goes_on : GoesOn
unfolding EachCompared
goes_on s m (read a w pcd xs log ws) cs n h = h.1
goes_on s m (write a w v xs log) cs n h = h.1
goes_on s m (external a x) cs n h = h.1
goes_on s m (snoop a) cs n h = h.1
goes_on s m flush cs n h = h.1
goes_on s m (control cd nw) cs n h = h.1
goes_on s m (view a) cs n h = h.1
goes_on s m reset cs n h = h.1
goes_on s m (test_write r w tag mark x) cs n h =
    let c = test_write r w tag mark x in
    subst (λ b. AgreesAll (next_state (step s c)) b cs) (other_beside s m c (ne_eqb (number s m c) 0 (n r w tag mark x refl))) h.1
goes_on s m (test_read r w) cs n h = h.1
goes_on s m (set_ranges words) cs n h = h.1

pub begun_anew : BegunAnew
unfolding EachCompared
begun_anew = record { at_flush = λ s cs h. h; at_reset = λ s cs h. h }

-- 1 to 3 and 21 to 23 never arise, 37 and 38 of a setting call alone
done_number : (m : PlainMemory) (x : Call) (rs : List Record) → (plain_done m x rs).number ≡ 0
unfolding plain_done
done_number m (read a w pcd xs log ws) rs = refl
done_number m (write a w v xs log) rs = refl
done_number m (external a x) rs = refl
done_number m (snoop a) rs = refl
done_number m flush rs = refl
done_number m (control cd nw) rs = refl
done_number m (view a) rs = refl
done_number m reset rs = refl
done_number m (test_write r w tag mark x) rs = refl
done_number m (test_read r w) rs = refl
done_number m (set_ranges words) rs = refl

answer_number : (m : PlainMemory) (x : Call) (rs : List Record) → (plain m x rs).number ≡ plain_number m.bytes x
unfolding plain
answer_number m x rs =
    by_test (λ b. eqb (plain_number m.bytes x) 0 ≡ b → (cond b (plain_done m x rs) (plain_refused (plain_number m.bytes x) m)).number ≡ plain_number m.bytes x)
    (eqb (plain_number m.bytes x) 0)
    (λ _ e. done_number m x rs ∙ sym (eqb-true _ 0 e))
    (λ _ _. refl)
    refl

-- of a call whose results are compared
answer_arises : (s : State) (m : PlainMemory) (x : Call) → testing (kind_of x) ≡ false → Known s m x → Arises (kind_of x) (step s x).outcome.number
answer_arises s m x t h = rw ((h.1.results t).numbers, answer_number m x (records_left (step s x))) (plain_arises m.bytes x)

known_arises : (s : State) (m : PlainMemory) (c : Call) → Known s m c → Arises (kind_of c) (step s c).outcome.number
known_arises s m (read a w pcd xs log ws) h = answer_arises s m (read a w pcd xs log ws) refl h
known_arises s m (write a w v xs log) h = answer_arises s m (write a w v xs log) refl h
known_arises s m (external a x) h = answer_arises s m (external a x) refl h
known_arises s m (snoop a) h = answer_arises s m (snoop a) refl h
known_arises s m flush h = answer_arises s m flush refl h
known_arises s m (control cd nw) h = answer_arises s m (control cd nw) refl h
known_arises s m (view a) h = answer_arises s m (view a) refl h
known_arises s m reset h = answer_arises s m reset refl h
known_arises s m (test_write r w tag mark x) h = test_write_arises s h.0 r w tag mark x
known_arises s m (test_read r w) h = test_read_arises s h.0 r w
known_arises s m (set_ranges words) h = answer_arises s m (set_ranges words) refl h

pub numbers_that_arise : NumbersThatArise
numbers_that_arise m array cs g p =
    each_compared _ known_arises cs (begin m array) (beside_first m) (start_coherent m array g) (all_meet m array cs p)

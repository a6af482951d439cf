-- Numbers under the invariant: 1 to 3, 37 and 38 of the ranges that are kept, and 21 to 23 are not met, so each call's number is the plain memory's.
use Prim.Native.Nat.{ℕ, ◌+◌, ◌-◌, ◌/◌, ◌%◌, ◌^◌, ◌≤◌}
use mathlib.Core.Path.{◌≡◌, refl, sym, ◌∙◌, ap}
use mathlib.Core.Bool.{Bool, true, false, cond, not, ◌&&◌, ◌||◌}
use mathlib.Core.List.{List, [], ◌∷◌}
use mathlib.Core.Logic.{◌⊎◌, ⊎_elim}
use native.Mathlib.Omega.{arith}
use lib.Dec.{eqb, ltb}
use lib.ListN.{length}
use borrow.Author.Tests.{eq-eqb, le-ltb}
use Rattle.laws.proofs.Tests.{same_or}
use Rattle.ways.specs.Address.{set_of}
use Rattle.directory.specs.Steps.{state_number_of, control_refused}
use Rattle.directory.proofs.SetState.{well_formed_zero}
use Rattle.ranges.specs.Ranges.{Range, ranges_in, any_bad}
use Rattle.carried.specs.Carried.{Carried}
use Rattle.refusal.specs.Call.{State}
use Rattle.access.specs.Access.{read_number, write_number}
use Rattle.masters.specs.Masters.{external_write_number}
use Rattle.bus.specs.Groups.{bad_width, highest_answer, log_size}
use Rattle.refusal.specs.Refusal.{when, or_else, any_above, ram_number, memory_number, array_number, lent_number, bad_answers, argument_number, value_number, external_number, ranges_number, kept_number, view_address_number, view_input_number, in_order, any_refused, carried_number, states_number_in, states_number_of, carried_states_number_in, carried_states_number}
use Rattle.refusal.proofs.Accepted.{zero_or, first_or, GoodMemory}
use Rattle.views.specs.View.{view_number_in}
use Rattle.read_only_ranges.specs.SetRanges.{set_ranges_number}
use Rattle.diagnostics.specs.Diagnostics.{test_number, test_write_number}
use Rattle.diagnostics.proofs.Laws.{test_write_done, test_write_refused, test_number_arises, test_read_number_lem}
use Rattle.calls.specs.Calls.{Call, read, write, external, snoop, flush, control, view, reset, test_write, test_read, set_ranges, step, step_by, view_number_of}
use Rattle.calls.specs.Plain.{some_above, out_of_order, some_refused, plain_number}
use Rattle.calls.specs.Matches.{test_writing, test_reading, reading, setting, other, kind_of, numbers_of, one_of, Arises}
use Rattle.calls.proofs.Kept.{Kept}
use Rattle.calls.proofs.Coherence.{Coherent}

-- a second number that is not met
or_nothing : (a b : ℕ) → b ≡ 0 → or_else a b ≡ a
or_nothing a b z = same_or _ a 0 (λ e. zero_or a b e ∙ z ∙ sym e) (λ n. first_or a b n)

-- 1 to 3 are not met by document 01's lengths
module _ (ram parity : ℕ) (g : GoodMemory ram parity) where
  ram_zero : ram_number ram ≡ 0
  ram_zero = rw (le-ltb ram 16 g.least, le-ltb 16777216 ram g.most, eq-eqb (ram % 16) 0 g.whole)

  memory_clear : memory_number ram parity ≡ 0
  unfolding memory_number
  memory_clear = zero_or (ram_number ram) _ ram_zero ∙ rw (eq-eqb parity (ram / 4) g.bits)

  lent_clear : (array : ℕ) → array ≡ 8192 → lent_number ram parity array ≡ 0
  unfolding lent_number
  lent_clear array e = zero_or (memory_number ram parity) _ memory_clear ∙ array_clear array e
    where
      array_clear : (array : ℕ) → array ≡ 8192 → array_number array ≡ 0
      array_clear array e = rw (eq-eqb array 8192 e)

module _ (rom : List Range) (s : State) (m : List ℕ) (c : Coherent rom s m) where
  -- 21 to 23 are not met in any set
  pub state_zero : (a : ℕ) → state_number_of s.directory (set_of a) ≡ 0
  state_zero a = well_formed_zero s.directory (record { limits = c.kept.limits; apart = c.beside.apart }) (set_of a) (omega arith)

  states_clear : (a n : ℕ) → states_number_of s.directory a n ≡ 0
  unfolding states_number_in
  states_clear a n = zero_or (state_number_of s.directory (set_of a)) _ (state_zero a) ∙ state_zero (a + n - 1)

  carried_clear : (ws : List Carried) → carried_states_number s.directory ws ≡ 0
  unfolding carried_states_number_in
  carried_clear [] = refl
  carried_clear (w ∷ ws) = zero_or (states_number_of s.directory w.address (length w.bytes)) _ (states_clear w.address (length w.bytes)) ∙ carried_clear ws

  -- nor 37 and 38, before what comes after them
  after_ranges : (later : ℕ) → later ≡ 0 → or_else (kept_number (length s.memory.ram) s.directory.ranges) later ≡ 0
  after_ranges later z = zero_or _ later c.kept.ranges ∙ z

  pub read_number_lem : (a w : ℕ) (xs log : List ℕ) (ws : List Carried) →
      read_number s a w xs log ws ≡ or_else (argument_number (length m) a w xs (length log)) (carried_number (length m) ws)
  unfolding read_number
  read_number_lem a w xs log ws =
      let states = zero_or (states_number_of s.directory a w) (carried_states_number s.directory ws) (states_clear a w) ∙ carried_clear ws in
      zero_or (lent_number (length s.memory.ram) (length s.memory.parity) (length s.array)) _ (lent_clear _ _ c.kept.lent _ c.kept.array_length)
      ∙ ap (or_else (argument_number (length s.memory.ram) a w xs (length log))) (or_nothing (carried_number (length s.memory.ram) ws) _ (after_ranges _ states))
      ∙ ap (λ (l : List ℕ). or_else (argument_number (length l) a w xs (length log)) (carried_number (length l) ws)) c.beside.rams

  pub write_number_lem : (a w v : ℕ) (xs log : List ℕ) → write_number s a w v xs log ≡ or_else (argument_number (length m) a w xs (length log)) (value_number w v)
  unfolding write_number
  write_number_lem a w v xs log =
      zero_or (lent_number (length s.memory.ram) (length s.memory.parity) (length s.array)) _ (lent_clear _ _ c.kept.lent _ c.kept.array_length)
      ∙ ap (or_else (argument_number (length s.memory.ram) a w xs (length log))) (or_nothing (value_number w v) _ (after_ranges _ (states_clear a w)))
      ∙ ap (λ (l : List ℕ). or_else (argument_number (length l) a w xs (length log)) (value_number w v)) c.beside.rams

  pub setting_number : (words : List ℕ) → set_ranges_number (length s.memory.ram) words ≡ ranges_number (length m) (ranges_in words) (length (ranges_in words))
  unfolding set_ranges_number
  setting_number words =
      zero_or (ram_number (length s.memory.ram)) _ (ram_zero _ _ c.kept.lent)
      ∙ ap (λ (l : List ℕ). ranges_number (length l) (ranges_in words) (length (ranges_in words))) c.beside.rams

  pub external_write_number_lem : (a : ℕ) (x : List ℕ) → external_write_number s.directory s.memory a x ≡ external_number (length m) a (length x)
  unfolding external_write_number
  external_write_number_lem a x =
      zero_or (memory_number (length s.memory.ram) (length s.memory.parity)) _ (memory_clear _ _ c.kept.lent)
      ∙ or_nothing (external_number (length s.memory.ram) a (length x)) _ (after_ranges _ (states_clear a (length x)))
      ∙ ap (λ (l : List ℕ). external_number (length l) a (length x)) c.beside.rams

  pub view_number : (a : ℕ) → view_number_of s a ≡ view_address_number (length m) a
  unfolding view_number_in view_input_number
  view_number a =
      or_nothing (view_input_number (length s.memory.ram) (length s.array) a) _ (after_ranges _ (state_zero a))
      ∙ zero_or (ram_number (length s.memory.ram)) _ (ram_zero _ _ c.kept.lent)
      ∙ zero_or (array_number (length s.array)) _ (rw (eq-eqb (length s.array) 8192 c.kept.array_length))
      ∙ ap (λ (l : List ℕ). view_address_number (length l) a) c.beside.rams

-- THE PLAIN MEMORY'S NUMBERS ARE THE UNIT'S

above_same : (limit : ℕ) (xs : List ℕ) → some_above limit xs ≡ any_above limit xs
unfolding some_above any_above
above_same limit [] = refl
above_same limit (x ∷ xs) = rw (above_same limit xs)

-- the number of the first of four tests that holds, or a later one, is the first number that is met
first_met_lem : (a b c d : Bool) (later : ℕ) →
    cond a 4 (cond b 5 (cond c 6 (cond d 7 later))) ≡ or_else (or_else (when a 4) (or_else (when b 5) (or_else (when c 6) (when d 7)))) later
first_met_lem true b c d later = refl
first_met_lem false true c d later = refl
first_met_lem false false true d later = refl
first_met_lem false false false true later = refl
first_met_lem false false false false later = refl

-- 33
not_both : (a b : Bool) → (a || not b) ≡ not (not a && b)
not_both true b = refl
not_both false b = refl

order_same : (ws : List Carried) → out_of_order ws ≡ not (in_order ws)
unfolding out_of_order in_order
order_same [] = refl
order_same (w ∷ []) = refl
order_same (w ∷ x ∷ ws) = rw (order_same (x ∷ ws)) (not_both (ltb x.cycle w.cycle) (in_order (x ∷ ws)))

when_met : (b : Bool) → b ≡ not (eqb (when b 10) 0)
when_met true = refl
when_met false = refl

refused_same : (ram : ℕ) (ws : List Carried) → some_refused ram ws ≡ any_refused ram ws
unfolding some_refused any_refused external_number
refused_same ram [] = refl
refused_same ram (w ∷ ws) =
    let a = w.address in
    let n = length w.bytes in
    let bad = eqb n 0 || ltb 16 n || ltb 16 (a % 16 + n) || ltb ram (a + n) in
    ap (λ (b : Bool). bad || b) (refused_same ram ws) ∙ ap (λ (b : Bool). b || any_refused ram ws) (when_met bad)

module _ (m : List ℕ) where
  pub plain_read : (a w : ℕ) (pcd : Bool) (xs log : List ℕ) (ws : List Carried) →
      plain_number m (read a w pcd xs log ws) ≡ or_else (argument_number (length m) a w xs (length log)) (carried_number (length m) ws)
  unfolding plain_number argument_number carried_number
  plain_read a w pcd xs log ws =
      rw (above_same highest_answer xs, order_same ws, refused_same (length m) ws)
      (first_met_lem (bad_width w) (ltb (length m) (a + w)) (bad_answers xs) (ltb (length log) log_size) (when (ltb 4 (length ws) || not (in_order ws) || any_refused (length m) ws) 33))

  pub plain_write : (a w v : ℕ) (xs log : List ℕ) → plain_number m (write a w v xs log) ≡ or_else (argument_number (length m) a w xs (length log)) (value_number w v)
  unfolding plain_number argument_number value_number
  plain_write a w v xs log =
      rw (above_same highest_answer xs)
      (first_met_lem (bad_width w) (ltb (length m) (a + w)) (bad_answers xs) (ltb (length log) log_size) (when (not (ltb v (256 ^ w))) 8))

  pub plain_external : (a : ℕ) (x : List ℕ) → plain_number m (external a x) ≡ external_number (length m) a (length x)
  unfolding plain_number external_number
  plain_external a x = refl

  pub plain_control : (cd nw : Bool) → plain_number m (control cd nw) ≡ when (control_refused cd nw) 9
  unfolding plain_number
  plain_control cd nw = refl

  pub plain_ranges : (words : List ℕ) → plain_number m (set_ranges words) ≡ ranges_number (length m) (ranges_in words) (length (ranges_in words))
  unfolding plain_number ranges_number
  plain_ranges words = two_tests (any_bad (length m) (ranges_in words)) (ltb 8 (length (ranges_in words)))
    where
      two_tests : (a b : Bool) → cond a 37 (cond b 38 0) ≡ or_else (when a 37) (when b 38)
      two_tests true b = refl
      two_tests false true = refl
      two_tests false false = refl

  pub plain_view : (a : ℕ) → plain_number m (view a) ≡ view_address_number (length m) a
  unfolding plain_number
  plain_view a = refl

-- the plain memory's numbers are those of the calls' kinds
module _ (ns : List ℕ) (none : one_of 0 ns ≡ true) where
  when_arises : (b : Bool) (n : ℕ) → one_of n ns ≡ true → one_of (when b n) ns ≡ true
  when_arises true n h = h
  when_arises false n h = none

  or_arises : (a b : ℕ) → one_of a ns ≡ true → one_of b ns ≡ true → one_of (or_else a b) ns ≡ true
  or_arises a b h k = same_or _ a 0 (λ e. rw (zero_or a b e) k) (λ n. rw (first_or a b n) h)

  argument_arises : (ram a w : ℕ) (xs : List ℕ) (log : ℕ) → one_of 4 ns ≡ true → one_of 5 ns ≡ true → one_of 6 ns ≡ true → one_of 7 ns ≡ true →
      one_of (argument_number ram a w xs log) ns ≡ true
  unfolding argument_number
  argument_arises ram a w xs log h4 h5 h6 h7 =
      or_arises (when (bad_width w) 4) _ (when_arises (bad_width w) 4 h4)
      (or_arises (when (ltb ram (a + w)) 5) _ (when_arises (ltb ram (a + w)) 5 h5)
      (or_arises (when (bad_answers xs) 6) _ (when_arises (bad_answers xs) 6 h6) (when_arises (ltb log log_size) 7 h7)))

pub plain_arises : (m : List ℕ) (c : Call) → Arises (kind_of c) (plain_number m c)
unfolding plain_number value_number carried_number ranges_number
plain_arises m (read a w pcd xs log ws) =
    let ns = numbers_of reading in
    rw (plain_read m a w pcd xs log ws)
    (or_arises ns refl (argument_number (length m) a w xs (length log)) (carried_number (length m) ws) (argument_arises ns refl (length m) a w xs (length log) refl refl refl refl)
    (when_arises ns refl (ltb 4 (length ws) || not (in_order ws) || any_refused (length m) ws) 33 refl))
plain_arises m (write a w v xs log) =
    let ns = numbers_of other in
    rw (plain_write m a w v xs log)
    (or_arises ns refl (argument_number (length m) a w xs (length log)) (value_number w v) (argument_arises ns refl (length m) a w xs (length log) refl refl refl refl)
    (when_arises ns refl (not (ltb v (256 ^ w))) 8 refl))
plain_arises m (external a x) =
    let n = length x in
    when_arises (numbers_of other) refl (eqb n 0 || ltb 16 n || ltb 16 (a % 16 + n) || ltb (length m) (a + n)) 10 refl
plain_arises m (snoop a) = refl
plain_arises m flush = refl
plain_arises m (control cd nw) = when_arises (numbers_of other) refl (control_refused cd nw) 9 refl
plain_arises m (view a) = when_arises (numbers_of other) refl (not (ltb a (length m))) 5 refl
plain_arises m reset = refl
plain_arises m (test_write r w tag mark x) = refl
plain_arises m (test_read r w) = refl
plain_arises m (set_ranges words) =
    let ns = numbers_of setting in
    rw (plain_ranges m words)
    (or_arises ns refl (when (any_bad (length m) (ranges_in words)) 37) _ (when_arises ns refl (any_bad (length m) (ranges_in words)) 37 refl) (when_arises ns refl (ltb 8 (length (ranges_in words))) 38 refl))

-- TEST CALLS: 3 is not met, so their numbers are 0, 31 and 32

ranged : (n : ℕ) → (n ≡ 0) ⊎ ((31 ≤ n) × (n ≤ 32)) → one_of n (0 ∷ 31 ∷ 32 ∷ []) ≡ true
ranged n = ⊎_elim (λ z. rw z) (λ h. same_or _ n 31 (λ e. rw e) (λ ne. let l = h.0 in let k = h.1 in let e : n ≡ 32 = omega arith in rw e))

module _ (s : State) (k : Kept s) where
  test_arises : (outside : Bool) → Arises test_writing (test_number (length s.array) s.directory.cd outside)
  test_arises outside = ranged _ (test_number_arises (length s.array) s.directory.cd outside k.array_length)

  pub test_write_arises : (r w tag : ℕ) (mark : Bool) (x : List ℕ) → Arises test_writing (step s (test_write r w tag mark x)).outcome.number
  unfolding step_by
  test_write_arises r w tag mark x =
      same_or _ (test_write_number (length s.array) s.directory.cd r w tag) 0
      (λ z. rw (test_write_done s r w tag mark x z))
      (λ h. rw (test_write_refused s r w tag mark x h) (test_arises _))

  pub test_read_arises : (r w : ℕ) → Arises test_reading (step s (test_read r w)).outcome.number
  unfolding step_by
  test_read_arises r w = rw (test_read_number_lem s.directory s.array r w) (test_arises _)

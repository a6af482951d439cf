-- Laws of the numbers of the writes that a read carries: their loops, and what the accepted case knows.
use Prim.Native.Nat.{ℕ, zero, suc, ◌+◌, ◌*◌, ◌-◌, ◌≤◌, ◌<◌}
use mathlib.Core.Path.{◌≡◌, refl, sym, ◌∙◌, ap}
use mathlib.Core.Bool.{Bool, true, false, not, ◌&&◌, ◌||◌, or_assoc, or-false}
use mathlib.Core.List.{List, [], ◌∷◌}
use native.Mathlib.Omega.{arith}
use lib.Dec.{eqb, ltb}
use lib.ListN.{length, get_or}
use borrow.Author.Tests.{eqb-true, ltb-false, lt-ltb, le-ltb, not-false}
use Rattle.laws.proofs.Tests.{neither}
use Rattle.words.proofs.Places.{bytes_length}
use Rattle.carried.specs.declared.CarriedWrites.{CarriedWrites}
use Rattle.carried.specs.CarriedCode.{write_in, writes_from, carried_of, left_from, CarriedNeeds}
use Rattle.carried.proofs.Writes.{left_next}
use Rattle.refusal.specs.Refusal.{when, or_else, in_order, any_refused, carried_number, external_number, states_number_in, carried_states_number_in}
use Rattle.refusal.proofs.Accepted.{when_zero, external_accepted, GoodExternal}

module _ (c : CarriedWrites) where
  from_length : (k n : ℕ) → length (writes_from c k n) ≡ n
  unfolding writes_from
  from_length k zero = refl
  from_length k (suc n) = ap suc (from_length (suc k) n)

  -- as many writes as the count says
  pub carried_length : length (carried_of c) ≡ c.count
  carried_length = from_length 0 c.count

  -- before the first turn of a loop all are left, after the last none
  pub all_left : left_from c 0 ≡ carried_of c
  all_left = let e : c.count - 0 ≡ c.count = omega arith in rw e

  pub none_left : (k : ℕ) → c.count ≤ k → left_from c k ≡ []
  unfolding writes_from
  none_left k h = let e : c.count - k ≡ 0 = omega arith in rw e

  -- order
  pub order_step : (k : ℕ) (below : Bool) → k + 1 < c.count →
      (below || ltb (get_or c.cycles (k + 1) 0) (get_or c.cycles k 0) || not (in_order (left_from c (k + 1)))) ≡ (below || not (in_order (left_from c k)))
  unfolding in_order
  order_step k below h =
      let a = left_next c k (omega arith) in
      let b = left_next c (k + 1) h in
      rw (a, b) (or_assoc below _ _ ∙ ap (λ (t : Bool). below || t) (pair (ltb (get_or c.cycles (k + 1) 0) (get_or c.cycles k 0)) (in_order (write_in c (k + 1) ∷ left_from c (k + 1 + 1)))))
    where
      pair : (x y : Bool) → (x || not y) ≡ not (not x && y)
      pair true y = refl
      pair false y = refl

  pub order_end : (k : ℕ) (below : Bool) → c.count ≤ k + 1 → (below || not (in_order (left_from c k))) ≡ below
  unfolding writes_from in_order
  order_end k below h = few (c.count - k) (omega arith) ∙ or-false below
    where
      few : (n : ℕ) → n ≤ 1 → (below || not (in_order (writes_from c k n))) ≡ (below || false)
      few zero l = refl
      few (suc zero) l = refl
      few (suc (suc n)) l = absurd (omega arith)

  -- those that 10 would refuse
  pub refused_step : (ram k : ℕ) (found : Bool) → k < c.count →
      (found || not (eqb (external_number ram (get_or c.addresses k 0) (get_or c.lengths k 0)) 0) || any_refused ram (left_from c (k + 1))) ≡ (found || any_refused ram (left_from c k))
  unfolding any_refused
  refused_step ram k found h =
      let a = left_next c k h in
      let l = bytes_length c.bytes (16 * k) (get_or c.lengths k 0) in
      rw (a, l) (or_assoc found _ _)

  pub refused_end : (ram k : ℕ) (found : Bool) → c.count ≤ k → (found || any_refused ram (left_from c k)) ≡ found
  unfolding any_refused
  refused_end ram k found h = rw (none_left k h) (or-false found)

  -- the states of their sets
  module _ (tags : List ℕ) (valid : List Bool) (lru : List ℕ) (k : ℕ) where
    pub states_left : k < c.count → carried_states_number_in tags valid lru (left_from c k)
        ≡ or_else (states_number_in tags valid lru (get_or c.addresses k 0) (get_or c.lengths k 0)) (carried_states_number_in tags valid lru (left_from c (k + 1)))
    unfolding carried_states_number_in
    states_left h =
        let a = left_next c k h in
        let l = bytes_length c.bytes (16 * k) (get_or c.lengths k 0) in
        rw (a, l)

    pub states_end : c.count ≤ k → carried_states_number_in tags valid lru (left_from c k) ≡ 0
    unfolding carried_states_number_in
    states_end h = rw (none_left k h)

  -- number 33, by what the code asks for
  pub carried_few : (ram : ℕ) → c.count ≤ 4 → carried_number ram (carried_of c) ≡ when (not (in_order (carried_of c)) || any_refused ram (carried_of c)) 33
  unfolding carried_number
  carried_few ram h = let l = carried_length in let t = le-ltb 4 c.count h in rw (l, t)

  pub carried_many : (ram : ℕ) → 4 < c.count → carried_number ram (carried_of c) ≡ 33
  unfolding carried_number
  carried_many ram h = let l = carried_length in let t = lt-ltb 4 c.count h in rw (l, t)

  -- 33 is not met, so there are four at most
  pub few_accepted : (ram : ℕ) → 0 ≡ carried_number ram (carried_of c) → c.count ≤ 4
  unfolding carried_number
  few_accepted ram e =
      let p = neither (ltb 4 (length (carried_of c)) || not (in_order (carried_of c))) (any_refused ram (carried_of c)) (when_zero _ 33 (omega arith) (sym e)) in
      omega (arith, ltb-false 4 (length (carried_of c)) (neither (ltb 4 (length (carried_of c))) (not (in_order (carried_of c))) p.0).0, carried_length)

  -- and no write meets 10
  abbrev tenth : ℕ → ℕ → ℕ
  tenth ram k = external_number ram (write_in c k).address (length (write_in c k).bytes)

  none_refused : (ram k n : ℕ) → any_refused ram (writes_from c k n) ≡ false → (i : ℕ) → i < n → GoodExternal ram (get_or c.addresses (k + i) 0) (get_or c.lengths (k + i) 0)
  unfolding writes_from any_refused
  none_refused ram k zero e i h = absurd (omega arith)
  none_refused ram k (suc n) e zero h =
      let l = bytes_length c.bytes (16 * k) (get_or c.lengths k 0) in
      let z = rw l at (eqb-true (tenth ram k) 0 (not-false _ (neither (not (eqb (tenth ram k) 0)) (any_refused ram (writes_from c (suc k) n)) e).0)) in
      let s : k + 0 ≡ k = omega arith in
      rw s (external_accepted ram (get_or c.addresses k 0) (get_or c.lengths k 0) z)
  none_refused ram k (suc n) e (suc i) h =
      let s : k + suc i ≡ suc k + i = omega arith in
      rw s (none_refused ram (suc k) n (neither (not (eqb (tenth ram k) 0)) (any_refused ram (writes_from c (suc k) n)) e).1 i (omega arith))

  good_at : (ram : ℕ) → any_refused ram (carried_of c) ≡ false → (k : ℕ) → k < c.count → GoodExternal ram (get_or c.addresses k 0) (get_or c.lengths k 0)
  good_at ram e k h = let s : 0 + k ≡ k = omega arith in rw s at (none_refused ram 0 c.count e k h)

  -- so each lies in one line of RAM
  pub carried_good : (ram : ℕ) → carried_number ram (carried_of c) ≡ 0 → (k : ℕ) → k < c.count → GoodExternal ram (get_or c.addresses k 0) (get_or c.lengths k 0)
  unfolding carried_number
  carried_good ram e =
      good_at ram (neither (ltb 4 (length (carried_of c)) || not (in_order (carried_of c))) (any_refused ram (carried_of c)) (when_zero _ 33 (omega arith) e)).1

  pub carried_accepted : (ram parity : ℕ) → carried_number ram (carried_of c) ≡ 0 → ram ≤ 4 * parity → CarriedNeeds c ram parity
  carried_accepted ram parity e b =
      record {
        few = few_accepted ram (sym e);
        short = λ k h. (carried_good ram e k h).most;
        inside = λ k h. (carried_good ram e k h).inside;
        bits = b;
      }

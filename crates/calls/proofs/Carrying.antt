-- Laws of the writes that a read carries: what an accepted list of them knows, and the plain memory's bytes as they are put in.
use Prim.Native.Nat.{ℕ, ◌≤◌, ◌<◌}
use mathlib.Core.Path.{◌≡◌, refl, sym, ◌∙◌, ap}
use mathlib.Core.Bool.{Bool, true, false, cond, not, ◌||◌}
use mathlib.Core.List.{List, [], ◌∷◌}
use native.Mathlib.Omega.{arith}
use lib.Dec.{eqb, ltb}
use lib.ListN.{length}
use borrow.Author.Tests.{eqb-true, ltb-true, ltb-false, lt-ltb, le-ltb, not-true, not-false}
use Rattle.laws.proofs.Tests.{both, neither, by_test}
use Rattle.ranges.specs.Ranges.{Range}
use Rattle.memory.specs.Parity.{Memory, written}
use Rattle.carried.specs.Carried.{Carried, due, later, landed}
use Rattle.refusal.specs.Refusal.{when, external_number, in_order, any_refused, carried_number}
use Rattle.refusal.proofs.Accepted.{GoodExternal, external_accepted}
use Rattle.calls.specs.Plain.{replaced, held_after, held_at_end}
use Rattle.calls.proofs.Memories.{written_ram}
use Rattle.calls.proofs.Replaced.{replaced_length}

-- each is one that 10 would not refuse
abbrev pub EachGood : ℕ → List Carried → Type 0
EachGood size [] = Unit {0}
EachGood size (w ∷ ws) = GoodExternal size w.address (length w.bytes) × EachGood size ws

-- none is numbered below a cycle, and each is not numbered below those before it
abbrev pub NoneBelow : ℕ → List Carried → Type 0
NoneBelow n [] = Unit {0}
NoneBelow n (w ∷ ws) = (n ≤ w.cycle) × NoneBelow n ws

abbrev pub Ordered : List Carried → Type 0
Ordered [] = Unit {0}
Ordered (w ∷ ws) = NoneBelow w.cycle ws × Ordered ws

none_lower : (n k : ℕ) → n ≤ k → (ws : List Carried) → NoneBelow k ws → NoneBelow n ws
none_lower n k h [] g = tt
none_lower n k h (w ∷ ws) g = (let l = g.0 in omega arith, none_lower n k h ws g.1)

ordered : (ws : List Carried) → in_order ws ≡ true → Ordered ws
unfolding in_order
ordered [] e = tt
ordered (w ∷ []) e = (tt, tt)
ordered (w ∷ x ∷ ws) e =
    let p = both (not (ltb x.cycle w.cycle)) (in_order (x ∷ ws)) e in
    let l : w.cycle ≤ x.cycle = ltb-false x.cycle w.cycle (not-true _ p.0) in
    let r = ordered (x ∷ ws) p.1 in
    ((l, none_lower w.cycle x.cycle l ws r.0), r)

none_refused : (size : ℕ) (ws : List Carried) → any_refused size ws ≡ false → EachGood size ws
unfolding any_refused
none_refused size [] e = tt
none_refused size (w ∷ ws) e =
    let p = neither (not (eqb (external_number size w.address (length w.bytes)) 0)) (any_refused size ws) e in
    (external_accepted size w.address (length w.bytes) (eqb-true _ 0 (not-false _ p.0)), none_refused size ws p.1)

when_33 : (b : Bool) → when b 33 ≡ 0 → b ≡ false
when_33 true e = absurd (omega arith)
when_33 false e = refl

-- 33 is not met
pub carried_accepted : (size : ℕ) (ws : List Carried) → carried_number size ws ≡ 0 → EachGood size ws × Ordered ws
unfolding carried_number
carried_accepted size ws e =
    let p = neither (ltb 4 (length ws) || not (in_order ws)) (any_refused size ws) (when_33 _ e) in
    let q = neither (ltb 4 (length ws)) (not (in_order ws)) p.0 in
    (none_refused size ws p.1, ordered ws (not-false _ q.1))

pub due_good : (size n : ℕ) (ws : List Carried) → EachGood size ws → EachGood size (due n ws)
unfolding due
due_good size n [] g = tt
due_good size n (w ∷ ws) g = by_test (λ b. EachGood size (cond b (w ∷ due n ws) [])) (ltb w.cycle n) (λ _. (g.0, due_good size n ws g.1)) (λ _. tt)

pub later_good : (size n : ℕ) (ws : List Carried) → EachGood size ws → EachGood size (later n ws)
unfolding later
later_good size n [] g = tt
later_good size n (w ∷ ws) g = by_test (λ b. EachGood size (cond b (later n ws) (w ∷ ws))) (ltb w.cycle n) (λ _. later_good size n ws g.1) (λ _. g)

-- THE PLAIN MEMORY

module _ (rom : List Range) where
  -- none has been put in where none is numbered below
  held_none : (m : List ℕ) (n : ℕ) (ws : List Carried) → NoneBelow n ws → held_after rom m ws n ≡ m
  unfolding held_after
  held_none m n [] g = refl
  held_none m n (w ∷ ws) g = rw (le-ltb w.cycle n g.0) (held_none m n ws g.1)

  pub held_first : (m : List ℕ) (ws : List Carried) → held_after rom m ws 0 ≡ m
  held_first m ws = held_none m 0 ws (all ws)
    where
      all : (ws : List Carried) → NoneBelow 0 ws
      all [] = tt
      all (w ∷ ws) = (omega arith, all ws)

  -- one that is numbered below, and one that is not, with all that follow it
  module _ (m : List ℕ) (w : Carried) (ws : List Carried) (n : ℕ) where
    held_next : w.cycle < n → held_after rom m (w ∷ ws) n ≡ held_after rom (replaced rom m w.address w.bytes) ws n
    unfolding held_after
    held_next l = rw (lt-ltb w.cycle n l)

    held_stops : n ≤ w.cycle → Ordered (w ∷ ws) → held_after rom m (w ∷ ws) n ≡ m
    held_stops l g = held_none m n (w ∷ ws) (l, none_lower n w.cycle l ws g.0)

  -- those due are those put in
  held_due : (m : List ℕ) (k : ℕ) (ws : List Carried) → Ordered ws → held_at_end rom m (due k ws) ≡ held_after rom m ws k
  unfolding due held_at_end held_after
  held_due m k [] g = refl
  held_due m k (w ∷ ws) g =
      by_test (λ b. ltb w.cycle k ≡ b → held_at_end rom m (cond b (w ∷ due k ws) []) ≡ held_after rom m (w ∷ ws) k) (ltb w.cycle k)
      (λ _ e. held_due (replaced rom m w.address w.bytes) k ws g.1 ∙ sym (held_next m w ws k (ltb-true _ _ e)))
      (λ _ e. sym (held_stops m w ws k (ltb-false _ _ e) g))
      refl

  -- what has been put in when more cycles are made, and at the end, from those left
  pub held_more : (m : List ℕ) (n k : ℕ) → n ≤ k → (ws : List Carried) → Ordered ws → held_at_end rom (held_after rom m ws n) (due k (later n ws)) ≡ held_after rom m ws k
  unfolding later held_after due held_at_end
  held_more m n k h [] g = refl
  held_more m n k h (w ∷ ws) g =
      by_test (λ b. ltb w.cycle n ≡ b → held_at_end rom (held_after rom m (w ∷ ws) n) (due k (cond b (later n ws) (w ∷ ws))) ≡ held_after rom m (w ∷ ws) k) (ltb w.cycle n)
      (λ _ e.
      let l = ltb-true w.cycle n e in
      let x = held_next m w ws n l in
      let y = held_next m w ws k (omega arith) in
      ap (λ (z : List ℕ). held_at_end rom z (due k (later n ws))) x ∙ held_more (replaced rom m w.address w.bytes) n k h ws g.1 ∙ sym y)
      (λ _ e. ap (λ (z : List ℕ). held_at_end rom z (due k (w ∷ ws))) (held_stops m w ws n (ltb-false _ _ e) g) ∙ held_due m k (w ∷ ws) g)
      refl

  pub held_rest : (m : List ℕ) (n : ℕ) (ws : List Carried) → Ordered ws → held_at_end rom (held_after rom m ws n) (later n ws) ≡ held_at_end rom m ws
  unfolding later held_after held_at_end
  held_rest m n [] g = refl
  held_rest m n (w ∷ ws) g =
      by_test (λ b. ltb w.cycle n ≡ b → held_at_end rom (held_after rom m (w ∷ ws) n) (cond b (later n ws) (w ∷ ws)) ≡ held_at_end rom m (w ∷ ws)) (ltb w.cycle n)
      (λ _ e.
      ap (λ (z : List ℕ). held_at_end rom z (later n ws)) (held_next m w ws n (ltb-true w.cycle n e)) ∙ held_rest (replaced rom m w.address w.bytes) n ws g.1)
      (λ _ e. ap (λ (z : List ℕ). held_at_end rom z (w ∷ ws)) (held_stops m w ws n (ltb-false _ _ e) g))
      refl

  pub held_length : (m : List ℕ) (ws : List Carried) (n : ℕ) → length (held_after rom m ws n) ≡ length m
  unfolding held_after
  held_length m [] n = refl
  held_length m (w ∷ ws) n =
      by_test (λ b. length (held_after rom (cond b (replaced rom m w.address w.bytes) m) ws n) ≡ length m) (ltb w.cycle n)
      (λ _. held_length (replaced rom m w.address w.bytes) ws n ∙ replaced_length rom m w.address w.bytes)
      (λ _. held_length m ws n)

  -- RAM with what has landed
  pub landed_ram : (ws : List Carried) (m : Memory) → (landed rom ws m).ram ≡ held_at_end rom m.ram ws
  unfolding landed held_at_end
  landed_ram [] m = refl
  landed_ram (w ∷ ws) m =
      landed_ram ws (written rom m w.address w.bytes) ∙ ap (λ (l : List ℕ). held_at_end rom l ws) (written_ram rom m w.address w.bytes)

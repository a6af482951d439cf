-- Laws of the burst order: what it is by exclusive-or, its cases, and the turns of a fill.
use Prim.Native.Nat.{ℕ, ◌+◌, ◌*◌, ◌/◌, ◌%◌, ◌<◌}
use mathlib.Core.Path.{◌≡◌, refl}
use mathlib.Core.Bool.{cond}
use mathlib.Core.List.{List, [], ◌∷◌, map}
use native.Mathlib.Omega.{arith}
use lib.Dec.{eqb}
use lib.ListN.{length, get_or, drop}
use Rattle.laws.proofs.Below.{four}
use Rattle.laws.proofs.Tests.{by_test}
use Rattle.bus.specs.Bus.{Run, run, none, burst_order, exclusive_ors, burst}

-- each case is its start exclusive-or 0, 4, 8 and 12 in turn
pub order_exclusive_or : (start : ℕ) → start % 4 ≡ 0 → start < 16 → burst_order start ≡ exclusive_ors start
unfolding burst_order
order_exclusive_or start aligned inside =
    let e : start / 4 * 4 ≡ start = omega arith in
    rw e at (four (λ q. burst_order (q * 4) ≡ exclusive_ors (q * 4)) refl refl refl refl (start / 4) (omega arith))

-- THE FOUR CASES

-- what holds of the four cases holds whatever the start is
order_cases : (P : List ℕ → Type 0) → P (burst_order 0) → P (burst_order 4) → P (burst_order 8) → P (burst_order 12) → (start : ℕ) → P (burst_order start)
unfolding burst_order
order_cases P p0 p4 p8 p12 start =
    by_test (λ is0. P (cond is0 (burst_order 0) (cond (eqb start 4) (burst_order 4) (cond (eqb start 8) (burst_order 8) (burst_order 12))))) (eqb start 0) (λ _. p0)
    (λ _. by_test (λ is4. P (cond is4 (burst_order 4) (cond (eqb start 8) (burst_order 8) (burst_order 12)))) (eqb start 4) (λ _. p4)
    (λ _. by_test (λ is8. P (cond is8 (burst_order 8) (burst_order 12))) (eqb start 8) (λ _. p8) (λ _. p12)))

pub burst_cases : (P : List Run → Type 0) → P (burst 0) → P (burst 1) → P (burst 2) → P (burst 3) → (doubleword : ℕ) → P (burst doubleword)
unfolding burst
burst_cases P p0 p1 p2 p3 doubleword = order_cases (λ order. P (map (λ from. run from 4) order)) p0 p1 p2 p3 (doubleword * 4)

pub burst_length : (start : ℕ) → length (burst_order start) ≡ 4
unfolding burst_order
burst_length = order_cases (λ order. length order ≡ 4) refl refl refl refl

-- the offset of a doubleword of a line
pub record Whole (from : ℕ) : Type 0 where
  pub aligned : from % 4 ≡ 0
  pub inside : from < 16

abbrev pub EachWhole : List ℕ → Type 0
EachWhole [] = Unit {0}
EachWhole (from ∷ order) = Whole from × EachWhole order

pub order_whole : (start : ℕ) → EachWhole (burst_order start)
unfolding burst_order
order_whole =
    let at0 : Whole 0 = record { aligned = refl; inside = omega arith } in
    let at4 : Whole 4 = record { aligned = refl; inside = omega arith } in
    let at8 : Whole 8 = record { aligned = refl; inside = omega arith } in
    let at12 : Whole 12 = record { aligned = refl; inside = omega arith } in
    order_cases EachWhole (at0, (at4, (at8, (at12, tt)))) (at4, (at0, (at12, (at8, tt)))) (at8, (at12, (at0, (at4, tt)))) (at12, (at8, (at4, (at0, tt))))

-- TURNS

-- what is wanted in a turn and after it
pub record Turn (order : List ℕ) (wanted : List Run) (turn : ℕ) : Type 0 where
  pub next : drop turn wanted ≡ run (get_or order turn 0) 4 ∷ drop (turn + 1) wanted
  pub last : none (drop (turn + 1) wanted) ≡ eqb turn 3
  pub whole : Whole (get_or order turn 0)

four_turns : (a b c d turn : ℕ) → turn < 4 → EachWhole (a ∷ b ∷ c ∷ d ∷ []) → Turn (a ∷ b ∷ c ∷ d ∷ []) (run a 4 ∷ run b 4 ∷ run c 4 ∷ run d 4 ∷ []) turn
four_turns a b c d turn l w =
    four (Turn (a ∷ b ∷ c ∷ d ∷ []) (run a 4 ∷ run b 4 ∷ run c 4 ∷ run d 4 ∷ []))
    (record { next = refl; last = refl; whole = w.0 })
    (record { next = refl; last = refl; whole = w.1.0 })
    (record { next = refl; last = refl; whole = w.1.1.0 })
    (record { next = refl; last = refl; whole = w.1.1.1.0 })
    turn
    l

pub burst_turn : (doubleword turn : ℕ) → turn < 4 → Turn (burst_order (doubleword * 4)) (burst doubleword) turn
unfolding burst burst_order
burst_turn doubleword turn l =
    order_cases (λ order. EachWhole order → Turn order (map (λ from. run from 4) order) turn)
    (four_turns _ _ _ _ turn l)
    (four_turns _ _ _ _ turn l)
    (four_turns _ _ _ _ turn l)
    (four_turns _ _ _ _ turn l)
    (doubleword * 4)
    (order_whole (doubleword * 4))

pub burst_done : (doubleword turn : ℕ) → turn ≡ 4 → drop turn (burst doubleword) ≡ []
unfolding burst burst_order
burst_done doubleword turn e = rw e (burst_cases (λ wanted. drop 4 wanted ≡ []) refl refl refl refl doubleword)

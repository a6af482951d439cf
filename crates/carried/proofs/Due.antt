-- Laws of carried writes: those due in two steps are those due in one, and lists of writes that land one after the other.
use Prim.Native.Nat.{ℕ, ◌*◌, ◌/◌, ◌≤◌}
use mathlib.Core.Path.{◌≡◌, refl, sym, ◌∙◌, ap}
use mathlib.Core.Bool.{true, false, cond, ◌||◌}
use mathlib.Core.List.{List, [], ◌∷◌, ◌++◌}
use native.Mathlib.Omega.{arith}
use lib.Dec.{eqb, ltb}
use borrow.Author.Tests.{lt-ltb, le-ltb, ltb-true}
use Rattle.laws.proofs.Tests.{cond_true, cond_false, by_test, neither}
use Rattle.ranges.specs.Ranges.{Range}
use Rattle.memory.specs.Parity.{Memory, written}
use Rattle.carried.specs.Carried.{Carried, due, later, landed, in_line}

module _ (n : ℕ) (w : Carried) (ws : List Carried) where
  pub due_first : ltb w.cycle n ≡ true → due n (w ∷ ws) ≡ w ∷ due n ws
  unfolding due
  due_first e = cond_true _ _ _ e

  pub due_stop : ltb w.cycle n ≡ false → due n (w ∷ ws) ≡ []
  unfolding due
  due_stop e = cond_false _ _ _ e

  pub later_first : ltb w.cycle n ≡ true → later n (w ∷ ws) ≡ later n ws
  unfolding later
  later_first e = cond_true _ _ _ e

  pub later_stop : ltb w.cycle n ≡ false → later n (w ∷ ws) ≡ w ∷ ws
  unfolding later
  later_stop e = cond_false _ _ _ e

-- what is left is not due
pub due_none : (n : ℕ) (ws : List Carried) → due n (later n ws) ≡ []
unfolding due later
due_none n [] = refl
due_none n (w ∷ ws) =
    by_test (λ b. ltb w.cycle n ≡ b → due n (cond b (later n ws) (w ∷ ws)) ≡ []) (ltb w.cycle n)
    (λ _ _. due_none n ws)
    (λ _ e. due_stop n w ws e)
    refl

-- before the first cycle nothing has landed
pub due_zero : (ws : List Carried) → due 0 ws ≡ []
unfolding due
due_zero [] = refl
due_zero (w ∷ ws) = due_stop 0 w ws (le-ltb w.cycle 0 (omega arith))

pub later_zero : (ws : List Carried) → later 0 ws ≡ ws
unfolding later
later_zero [] = refl
later_zero (w ∷ ws) = later_stop 0 w ws (le-ltb w.cycle 0 (omega arith))

-- two steps
module _ (n k : ℕ) (h : n ≤ k) where
  sooner : (x : ℕ) → ltb x n ≡ true → ltb x k ≡ true
  sooner x e = let l = ltb-true x n e in lt-ltb x k (omega arith)

  pub due_then : (ws : List Carried) → due n ws ++ due k (later n ws) ≡ due k ws
  unfolding due later
  due_then [] = refl
  due_then (w ∷ ws) =
      by_test (λ b. ltb w.cycle n ≡ b → cond b (w ∷ due n ws) [] ++ due k (cond b (later n ws) (w ∷ ws)) ≡ due k (w ∷ ws)) (ltb w.cycle n)
      (λ _ e. ap (λ (l : List Carried). w ∷ l) (due_then ws) ∙ sym (due_first k w ws (sooner w.cycle e)))
      (λ _ _. refl)
      refl

  pub later_then : (ws : List Carried) → later k (later n ws) ≡ later k ws
  unfolding later
  later_then [] = refl
  later_then (w ∷ ws) =
      by_test (λ b. ltb w.cycle n ≡ b → later k (cond b (later n ws) (w ∷ ws)) ≡ later k (w ∷ ws)) (ltb w.cycle n)
      (λ _ e. later_then ws ∙ sym (later_first k w ws (sooner w.cycle e)))
      (λ _ _. refl)
      refl

-- lists of writes that land one after the other
pub landed_append : (rs : List Range) (a b : List Carried) (m : Memory) → landed rs (a ++ b) m ≡ landed rs b (landed rs a m)
unfolding landed
landed_append rs [] b m = refl
landed_append rs (w ∷ a) b m = landed_append rs a b (written rs m w.address w.bytes)

pub landed_then : (rs : List Range) (n k : ℕ) → n ≤ k → (ws : List Carried) (m : Memory) → landed rs (due k ws) m ≡ landed rs (due k (later n ws)) (landed rs (due n ws) m)
landed_then rs n k h ws m =
    ap (λ (x : List Carried). landed rs x m) (sym (due_then n k h ws)) ∙ landed_append rs (due n ws) (due k (later n ws)) m

pub in_line_append : (line : ℕ) (a b : List Carried) → in_line line (a ++ b) ≡ (in_line line a || in_line line b)
unfolding in_line
in_line_append line [] b = refl
in_line_append line (w ∷ a) b =
    by_test (λ t. (t || in_line line (a ++ b)) ≡ ((t || in_line line a) || in_line line b)) (eqb (w.address / 16 * 16) line)
    (λ _. refl)
    (λ _. in_line_append line a b)

-- where none that lands between two cycles lies in a line, none does between a later one and the second
pub in_line_then : (line n m k : ℕ) → n ≤ m → m ≤ k → (ws : List Carried) → in_line line (due k (later n ws)) ≡ false → in_line line (due k (later m ws)) ≡ false
in_line_then line n m k h l ws e =
    let x = later n ws in
    (neither (in_line line (due m x)) (in_line line (due k (later m ws)))
    (sym (in_line_append line (due m x) (due k (later m ws))) ∙ ap (λ (y : List Carried). in_line line (due m x ++ due k y)) (sym (later_then n m h ws)) ∙ ap (in_line line) (due_then m k l x) ∙ e)
    ).1

-- of those left after a cycle none is due before it
pub due_early : (n k : ℕ) (ws : List Carried) → n ≤ k → due n (later k ws) ≡ []
due_early n k ws h = left_nil (due n (later k ws)) _ (due_then n k h (later k ws) ∙ due_none k ws)
  where
    left_nil : (a b : List Carried) → a ++ b ≡ [] → a ≡ []
    left_nil [] b e = refl
    left_nil (w ∷ a) b e = cc

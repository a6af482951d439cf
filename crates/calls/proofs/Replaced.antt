-- Laws of bytes that the plain memory replaces, but those in a range.
use Prim.Native.Nat.{ℕ, suc, ◌+◌, ◌%◌, ◌≤◌}
use mathlib.Core.Path.{◌≡◌, refl, ◌∙◌, ap}
use mathlib.Core.Bool.{Bool, true, false, cond}
use mathlib.Core.List.{List, [], ◌∷◌, ◌++◌}
use native.Mathlib.Omega.{arith}
use native.Mathlib.Nat.{add-zero}
use lib.ListN.{length, set, length-set}
use lib.Seq.{sets}
use Rattle.laws.proofs.Tests.{cond_true, cond_false, by_test}
use Rattle.ranges.specs.Ranges.{Range, read_only}
use Rattle.ranges.proofs.Laws.{same_line}
use Rattle.calls.specs.Plain.{replaced}

module _ (rom : List Range) where
  pub replaced_append : (m : List ℕ) (a : ℕ) (x y : List ℕ) → replaced rom m a (x ++ y) ≡ replaced rom (replaced rom m a x) (a + length x) y
  unfolding replaced
  replaced_append m a [] y = rw (add-zero a)
  replaced_append m a (b ∷ x) y =
      let e : a + suc (length x) ≡ suc a + length x = omega arith in
      rw e (replaced_append (cond (read_only rom a) m (set m a b)) (suc a) x y)

  pub replaced_length : (m : List ℕ) (a : ℕ) (x : List ℕ) → length (replaced rom m a x) ≡ length m
  unfolding replaced
  replaced_length m a [] = refl
  replaced_length m a (b ∷ x) =
      replaced_length (cond (read_only rom a) m (set m a b)) (suc a) x
      ∙ by_test (λ (t : Bool). length (cond t m (set m a b)) ≡ length m) (read_only rom a) (λ _. refl) (λ _. length-set m a b)

  -- bytes of one line are all replaced or all ignored
  pub replaced_ignored : (m : List ℕ) (a : ℕ) (x : List ℕ) → a % 16 + length x ≤ 16 → read_only rom a ≡ true → replaced rom m a x ≡ m
  unfolding replaced
  replaced_ignored m a [] h e = refl
  replaced_ignored m a (b ∷ []) h e = cond_true (read_only rom a) m (set m a b) e
  replaced_ignored m a (b ∷ b' ∷ x) h e =
      ap (λ (l : List ℕ). replaced rom l (suc a) (b' ∷ x)) (cond_true (read_only rom a) m (set m a b) e)
      ∙ replaced_ignored m (suc a) (b' ∷ x) (omega arith) (same_line rom (suc a) a (omega arith) ∙ e)

  pub replaced_taken : (m : List ℕ) (a : ℕ) (x : List ℕ) → a % 16 + length x ≤ 16 → read_only rom a ≡ false → replaced rom m a x ≡ sets m a x
  unfolding replaced
  replaced_taken m a [] h e = refl
  replaced_taken m a (b ∷ []) h e = cond_false (read_only rom a) m (set m a b) e
  replaced_taken m a (b ∷ b' ∷ x) h e =
      ap (λ (l : List ℕ). replaced rom l (suc a) (b' ∷ x)) (cond_false (read_only rom a) m (set m a b) e)
      ∙ replaced_taken (set m a b) (suc a) (b' ∷ x) (omega arith) (same_line rom (suc a) a (omega arith) ∙ e)

  -- what holds of either holds of them
  pub by_range : (P : List ℕ → Type 0) (m : List ℕ) (a : ℕ) (x : List ℕ) → a % 16 + length x ≤ 16 →
      (read_only rom a ≡ true → P m) → (read_only rom a ≡ false → P (sets m a x)) → P (replaced rom m a x)
  by_range P m a x h p q =
      by_test (λ (t : Bool). read_only rom a ≡ t → P (replaced rom m a x)) (read_only rom a)
      (λ _ e. rw (replaced_ignored m a x h e) (p e))
      (λ _ e. rw (replaced_taken m a x h e) (q e))
      refl

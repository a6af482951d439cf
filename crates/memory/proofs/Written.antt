-- Laws of bytes that RAM takes or ignores.
use Prim.Native.Nat.{ℕ, suc, ◌+◌, ◌%◌, ◌≤◌}
use mathlib.Core.Path.{◌≡◌, refl, ◌∙◌, ap}
use mathlib.Core.Bool.{Bool, true, false, cond}
use mathlib.Core.List.{List, [], ◌∷◌, ◌++◌}
use native.Mathlib.Omega.{arith}
use native.Mathlib.Nat.{add-zero}
use lib.ListN.{length}
use Rattle.ranges.specs.Ranges.{Range, read_only}
use Rattle.ranges.proofs.Laws.{same_line}
use Rattle.laws.proofs.Tests.{cond_true, cond_false, by_test}
use Rattle.memory.specs.Parity.{Memory, put, stored, written}
use Rattle.memory.proofs.Bits.{put_lengths}

-- with no range every byte is taken
pub written_everywhere : (m : Memory) (a : ℕ) (bytes : List ℕ) → written [] m a bytes ≡ stored m a bytes
unfolding written stored read_only
written_everywhere m a [] = refl
written_everywhere m a (b ∷ bytes) = written_everywhere (put m a b) (suc a) bytes

-- in two runs, or at once
pub written_append : (rs : List Range) (m : Memory) (a : ℕ) (x y : List ℕ) → written rs m a (x ++ y) ≡ written rs (written rs m a x) (a + length x) y
unfolding written
written_append rs m a [] y = rw (add-zero a)
written_append rs m a (b ∷ x) y =
    let e : a + suc (length x) ≡ suc a + length x = omega arith in
    rw e (written_append rs (cond (read_only rs a) m (put m a b)) (suc a) x y)

-- bytes of one line are all taken or all ignored
module _ (rs : List Range) where
  pub written_ignored : (m : Memory) (a : ℕ) (bytes : List ℕ) → a % 16 + length bytes ≤ 16 → read_only rs a ≡ true → written rs m a bytes ≡ m
  unfolding written
  written_ignored m a [] h e = refl
  written_ignored m a (b ∷ []) h e = cond_true (read_only rs a) m (put m a b) e
  written_ignored m a (b ∷ b' ∷ bytes) h e =
      ap (λ (x : Memory). written rs x (suc a) (b' ∷ bytes)) (cond_true (read_only rs a) m (put m a b) e)
      ∙ written_ignored m (suc a) (b' ∷ bytes) (omega arith) (same_line rs (suc a) a (omega arith) ∙ e)

  pub written_taken : (m : Memory) (a : ℕ) (bytes : List ℕ) → a % 16 + length bytes ≤ 16 → read_only rs a ≡ false → written rs m a bytes ≡ stored m a bytes
  unfolding written stored
  written_taken m a [] h e = refl
  written_taken m a (b ∷ []) h e = cond_false (read_only rs a) m (put m a b) e
  written_taken m a (b ∷ b' ∷ bytes) h e =
      ap (λ (x : Memory). written rs x (suc a) (b' ∷ bytes)) (cond_false (read_only rs a) m (put m a b) e)
      ∙ written_taken (put m a b) (suc a) (b' ∷ bytes) (omega arith) (same_line rs (suc a) a (omega arith) ∙ e)

  pub written_line : (m : Memory) (a : ℕ) (bytes : List ℕ) → a % 16 + length bytes ≤ 16 → written rs m a bytes ≡ cond (read_only rs a) m (stored m a bytes)
  written_line m a bytes h =
      by_test (λ (t : Bool). read_only rs a ≡ t → written rs m a bytes ≡ cond t m (stored m a bytes)) (read_only rs a)
      (λ _ e. written_ignored m a bytes h e)
      (λ _ e. written_taken m a bytes h e)
      refl

  -- the lengths stay
  pub written_lengths : (m : Memory) (a : ℕ) (bytes : List ℕ) → (length (written rs m a bytes).ram ≡ length m.ram) × (length (written rs m a bytes).parity ≡ length m.parity)
  unfolding written
  written_lengths m a [] = (refl, refl)
  written_lengths m a (b ∷ bytes) =
      let next = cond (read_only rs a) m (put m a b) in
      let k = written_lengths next (suc a) bytes in
      let e = by_test (λ (t : Bool). (length (cond t m (put m a b)).ram ≡ length m.ram) × (length (cond t m (put m a b)).parity ≡ length m.parity)) (read_only rs a)
      (λ _. (refl, refl))
      (λ _. put_lengths m a b) in
      (k.0 ∙ e.0, k.1 ∙ e.1)

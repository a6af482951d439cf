-- Laws of RAM and its parity: bytes that are written keep parity in agreement, and where it agrees no byte is wrong.
use Prim.Native.Nat.{ℕ, zero, suc, ◌+◌, ◌*◌, ◌/◌, ◌%◌, ◌≤◌, ◌<◌}
use mathlib.Core.Path.{◌≡◌, refl, ◌∙◌, ap}
use mathlib.Core.Bool.{Bool, false, cond}
use mathlib.Core.List.{List, [], ◌∷◌}
use native.Mathlib.Omega.{arith}
use lib.ListN.{length, set, length-set}
use lib.Seq.{get_or-set_same, get_or-set_other}
use borrow.Author.Tests.{eq-eqb}
use Rattle.laws.proofs.Below.{four}
use Rattle.laws.proofs.Tests.{same_or, by_test}
use Rattle.ranges.specs.Ranges.{Range, read_only}
use Rattle.memory.specs.Parity.{Memory, dp_of, lane_bit, dp_at, with_dp, put, written, wrong_at, wrong_in, Agrees}
use Rattle.memory.proofs.Bits.{dp_below, put_lengths}
use Rattle.calls.specs.Plain.{replaced}

-- a bit that is written is read back
same_lane : (p lane bit : ℕ) → lane < 4 → bit < 2 → lane_bit (with_dp p lane bit) lane ≡ bit
unfolding lane_bit with_dp
same_lane p lane bit l h =
    four (λ k. lane_bit (with_dp p k bit) k ≡ bit) (omega arith) (omega arith) (omega arith) (omega arith) lane l

eighth : (p : ℕ) → p % 16 / 8 ≡ p / 8 % 2
eighth p = omega arith

-- the bits of the other lanes stay
module _ (p bit : ℕ) (h : bit < 2) where
  abbrev Stays : ℕ → ℕ → Type 0
  Stays lane j = (j ≡ lane → ⊥) → lane_bit (with_dp p lane bit) j ≡ lane_bit p j

  from_0 : (j : ℕ) → j < 4 → Stays 0 j
  unfolding lane_bit with_dp
  from_0 = four (Stays 0) (λ n. absurd (n refl)) (λ n. omega arith) (λ n. omega arith) (λ n. omega arith)

  from_1 : (j : ℕ) → j < 4 → Stays 1 j
  unfolding lane_bit with_dp
  from_1 =
      four (Stays 1)
      (λ n. omega arith)
      (λ n. absurd (n refl))
      (λ n.
      let g : (p % 2 + bit * 2 + p % 16 / 4 * 4) / 4 ≡ p % 16 / 4 = omega arith in
      let e : p / 4 ≡ p / 16 * 4 + p % 16 / 4 = omega arith in
      rw (g, e) (omega arith))
      (λ n.
      let g : (p % 2 + bit * 2 + p % 16 / 4 * 4) / 8 ≡ p % 16 / 8 = omega arith in
      rw (g, eighth p) (omega arith))

  from_2 : (j : ℕ) → j < 4 → Stays 2 j
  unfolding lane_bit with_dp
  from_2 =
      four (Stays 2)
      (λ n. omega arith)
      (λ n. omega arith)
      (λ n. absurd (n refl))
      (λ n.
      let g : (p % 4 + bit * 4 + p % 16 / 8 * 8) / 8 ≡ p % 16 / 8 = omega arith in
      rw (g, eighth p) (omega arith))

  from_3 : (j : ℕ) → j < 4 → Stays 3 j
  unfolding lane_bit with_dp
  from_3 = four (Stays 3) (λ n. omega arith) (λ n. omega arith) (λ n. omega arith) (λ n. absurd (n refl))

  other_lane : (lane j : ℕ) → lane < 4 → j < 4 → Stays lane j
  other_lane lane j l k = four (λ i. Stays i j) (from_0 j k) (from_1 j k) (from_2 j k) (from_3 j k) lane l

-- a byte put into RAM with its parity
put_agrees : (m : Memory) (a b : ℕ) → a < length m.ram → a / 4 < length m.parity → Agrees m → Agrees (put m a b)
unfolding put dp_at
put_agrees m a b l q g =
    record {
      agree = λ i k.
          let il : i < length m.ram = rw length-set at k in
          same_or _ i a
          (λ e. rw (e, get_or-set_same m.parity (a / 4) _ 0 q, get_or-set_same m.ram a b 0 l) (same_lane _ (a % 4) (dp_of b) (omega arith) (dp_below b)))
          (λ n. rw (get_or-set_other m.ram a i b 0 n)
          (same_or _ (i / 4) (a / 4)
          (λ e. rw (e, get_or-set_same m.parity (a / 4) _ 0 q) (other_lane _ (dp_of b) (dp_below b) (a % 4) (i % 4) (omega arith) (omega arith) (λ f. n (omega arith)) ∙ rw e at (g.agree i il)))
          (λ f. rw (get_or-set_other m.parity (a / 4) (i / 4) _ 0 f) (g.agree i il))));
    }

put_ram : (m : Memory) (a b : ℕ) → (put m a b).ram ≡ set m.ram a b
unfolding put
put_ram m a b = refl

-- bytes that RAM takes or ignores, as the plain memory does
module _ (rom : List Range) where
  pub written_ram : (m : Memory) (a : ℕ) (x : List ℕ) → (written rom m a x).ram ≡ replaced rom m.ram a x
  unfolding written replaced
  written_ram m a [] = refl
  written_ram m a (b ∷ x) =
      let e = by_test (λ (t : Bool). (cond t m (put m a b)).ram ≡ cond t m.ram (set m.ram a b)) (read_only rom a) (λ _. refl) (λ _. put_ram m a b) in
      written_ram (cond (read_only rom a) m (put m a b)) (suc a) x ∙ ap (λ (l : List ℕ). replaced rom l (suc a) x) e

  pub written_agrees : (m : Memory) (a : ℕ) (x : List ℕ) → a + length x ≤ length m.ram → length m.ram ≤ 4 * length m.parity → Agrees m → Agrees (written rom m a x)
  unfolding written
  written_agrees m a [] l z g = g
  written_agrees m a (b ∷ x) l z g =
      by_test (λ (t : Bool). Agrees (written rom (cond t m (put m a b)) (suc a) x)) (read_only rom a)
      (λ _. written_agrees m (suc a) x (omega arith) z g)
      (λ _.
      let k = put_lengths m a b in
      written_agrees (put m a b) (suc a) x (rw k.0 (omega arith)) (rw (k.0, k.1) z) (put_agrees m a b (omega arith) (omega arith) g))

-- where parity agrees no byte is wrong
pub never_wrong : (m : Memory) → Agrees m → (a n : ℕ) → a + n ≤ length m.ram → wrong_in m a n ≡ false
unfolding wrong_in wrong_at
never_wrong m g a zero l = refl
never_wrong m g a (suc n) l = rw (eq-eqb _ _ (g.agree a (omega arith)), never_wrong m g (suc a) n (omega arith))

-- Laws of the four ways of a set: what `lowest` finds, and that a victim is one of them.
use Rattle.std.specs.Prelude.{Option, Some, None, unwrap_or}
use Prim.Native.Nat.{ℕ, ◌%◌, ◌<◌}
use mathlib.Core.Path.{◌≡◌, refl}
use mathlib.Core.Bool.{Bool, true, false, cond, not}
use mathlib.Core.List.{List}
use native.Mathlib.Omega.{arith}
use lib.Dec.{eqb}
use lib.ListN.{get_or}
use Rattle.ways.specs.Address.{set_of, tag_of}
use Rattle.ways.specs.Lru.{lru_after, lru_way}
use Rattle.ways.specs.Ways.{valid_in, holds, lowest, lookup_in, victim_in}
use Rattle.laws.proofs.Tests.{differ}
use Rattle.laws.proofs.Below.{four}

-- what holds of each pair of ways
pub six : (P : ℕ → ℕ → Type 0) → P 0 1 → P 0 2 → P 0 3 → P 1 2 → P 1 3 → P 2 3 → (w v : ℕ) → w < v → v < 4 → P w v
six P p01 p02 p03 p12 p13 p23 w v l m =
    four (λ v. (w : ℕ) → w < v → P w v)
    (λ w l. absurd (omega arith))
    (λ w l. let z : w ≡ 0 = omega arith in rw z p01)
    (λ w l. four (λ w. w < 2 → P w 2) (λ l. p02) (λ l. p12) (λ l. absurd (omega arith)) (λ l. absurd (omega arith)) w (omega arith) l)
    (λ w l. four (λ w. w < 3 → P w 3) (λ l. p03) (λ l. p13) (λ l. p23) (λ l. absurd (omega arith)) w (omega arith) l)
    v m w l

abbrev pub lowest_of : (ℕ → Bool) → Option ℕ
lowest_of p = lowest (p 0) (p 1) (p 2) (p 3)

module _ (p : ℕ → Bool) where
  at_cases : (w : ℕ) (t0 t1 t2 t3 : Bool) → p 0 ≡ t0 → p 1 ≡ t1 → p 2 ≡ t2 → p 3 ≡ t3 →
      lowest t0 t1 t2 t3 ≡ Some w → (w < 4) × (p w ≡ true)
  unfolding lowest
  at_cases w true t1 t2 t3 e0 e1 e2 e3 e = let z : 0 ≡ w = cc in (omega arith, rw (← z) e0)
  at_cases w false true t2 t3 e0 e1 e2 e3 e = let z : 1 ≡ w = cc in (omega arith, rw (← z) e1)
  at_cases w false false true t3 e0 e1 e2 e3 e = let z : 2 ≡ w = cc in (omega arith, rw (← z) e2)
  at_cases w false false false true e0 e1 e2 e3 e = let z : 3 ≡ w = cc in (omega arith, rw (← z) e3)
  at_cases w false false false false e0 e1 e2 e3 e = let z : ◌≡◌ {A = ℕ} 0 1 = cc in absurd (omega arith)

  -- the way that is found is below 4, and its test holds
  pub lowest_at : (w : ℕ) → lowest_of p ≡ Some w → (w < 4) × (p w ≡ true)
  lowest_at w e = at_cases w (p 0) (p 1) (p 2) (p 3) refl refl refl refl e

  none_cases : (t0 t1 t2 t3 : Bool) → p 0 ≡ t0 → p 1 ≡ t1 → p 2 ≡ t2 → p 3 ≡ t3 →
      lowest t0 t1 t2 t3 ≡ None → (w : ℕ) → w < 4 → p w ≡ false
  unfolding lowest
  none_cases true t1 t2 t3 e0 e1 e2 e3 e = let z : ◌≡◌ {A = ℕ} 0 1 = cc in absurd (omega arith)
  none_cases false true t2 t3 e0 e1 e2 e3 e = let z : ◌≡◌ {A = ℕ} 0 1 = cc in absurd (omega arith)
  none_cases false false true t3 e0 e1 e2 e3 e = let z : ◌≡◌ {A = ℕ} 0 1 = cc in absurd (omega arith)
  none_cases false false false true e0 e1 e2 e3 e = let z : ◌≡◌ {A = ℕ} 0 1 = cc in absurd (omega arith)
  none_cases false false false false e0 e1 e2 e3 e = four (λ w. p w ≡ false) e0 e1 e2 e3

  -- where nothing is found, no test holds
  pub lowest_nothing : lowest_of p ≡ None → (w : ℕ) → w < 4 → p w ≡ false
  lowest_nothing = none_cases (p 0) (p 1) (p 2) (p 3) refl refl refl refl

  -- where no test holds, nothing is found
  pub none_lowest : ((w : ℕ) → w < 4 → p w ≡ false) → lowest_of p ≡ None
  unfolding lowest
  none_lowest n = rw (n 0 (omega arith), n 1 (omega arith), n 2 (omega arith), n 3 (omega arith))

  found_or : (f : Option ℕ) → lowest_of p ≡ f → (w : ℕ) → w < 4 → p w ≡ true →
      ((v : ℕ) → v < 4 → p v ≡ true → v ≡ w) → lowest_of p ≡ Some w
  found_or (Some v) e w l h u = let k = lowest_at v e in let z : v ≡ w = u v k.0 k.1 in rw (← z) e
  found_or None e w l h u = absurd (differ h (lowest_nothing e w l))

  -- the one way whose test holds is found
  pub one_lowest : (w : ℕ) → w < 4 → p w ≡ true → ((v : ℕ) → v < 4 → p v ≡ true → v ≡ w) → lowest_of p ≡ Some w
  one_lowest = found_or (lowest_of p) refl

  found_below : (f : Option ℕ) → lowest_of p ≡ f → (n : ℕ) → n < 4 → unwrap_or f n < 4
  found_below (Some w) e n l = (lowest_at w e).0
  found_below None e n l = l

  way_or_below : (n : ℕ) → n < 4 → unwrap_or (lowest_of p) n < 4
  way_or_below = found_below (lowest_of p) refl

-- an LRU number names a way below 4, and stays below 8
cond_below : (b : Bool) (x y : ℕ) → x < 4 → y < 4 → cond b x y < 4
cond_below true x y h k = h
cond_below false x y h k = k

lru_way_below : (n : ℕ) → lru_way n < 4
unfolding lru_way
lru_way_below n = cond_below (eqb (n % 2) 0) _ _ (omega arith) (omega arith)

pub lru_after_below : (n w : ℕ) → w < 4 → lru_after n w < 8
unfolding lru_after
lru_after_below n w l = four (λ w. lru_after n w < 8) (omega arith) (omega arith) (omega arith) (omega arith) w l

-- a victim, and a way that a lookup finds, are below 4
pub victim_below : (valid : List Bool) (lru : List ℕ) (s : ℕ) → victim_in valid lru s < 4
unfolding victim_in
victim_below valid lru s =
    way_or_below (λ w. not (valid_in valid s w)) (lru_way (get_or lru s 0)) (lru_way_below _)

pub lookup_below : (tags : List ℕ) (valid : List Bool) (a w : ℕ) → lookup_in tags valid a ≡ Some w → w < 4
unfolding lookup_in
lookup_below tags valid a w e = (lowest_at (λ v. holds tags valid (set_of a) v (tag_of a)) w e).0

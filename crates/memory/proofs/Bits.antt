-- Laws of parity bits, and of the loops over bytes with their parity.
use Prim.Native.Nat.{ℕ, zero, suc, ◌+◌, ◌*◌, ◌-◌, ◌%◌, ◌/◌, ◌^◌, ◌≤◌, ◌<◌}
use mathlib.Core.Path.{◌≡◌, refl, sym, ◌∙◌, ap}
use mathlib.Core.List.{List, [], ◌∷◌}
use native.Mathlib.Numerals.{unary_clauses}
use native.Mathlib.Omega.{arith}
use native.Mathlib.Nat.{add-zero, pow-suc}
use lib.Count.{ones, ones_step}
use lib.ListN.{length, get_or, set, length-set}
use lib.Seq.{sets, set-set, get_or-set_same}
use Rattle.words.specs.Bytes.{bytes_at}
use Rattle.memory.specs.Parity.{Memory, memory, ones_of, dp_of, with_dp, put, stored}

-- the language's count of ones is the specification's
pub ones_is : (k n : ℕ) → n < 2 ^ k → ones n ≡ ones_of k n
unfolding ones_of ones
ones_is zero n h = let e : n ≡ 0 = omega arith in rw e
ones_is (suc k) n h =
    let l : n / 2 < 2 ^ k = omega (arith, pow-suc 2 k) in
    ones_step n ∙ ap (λ (x : ℕ). n % 2 + x) (ones_is k (n / 2) l)

pub dp_below : (b : ℕ) → dp_of b < 2
unfolding dp_of
dp_below b = omega arith

-- a bit shifted to its lane
pub bit_placed : (bit lane : ℕ) → bit < 2 → lane < 4 → (bit * 2 ^ lane % 2 ^ 8 ≡ bit * 2 ^ lane) × (bit * 2 ^ lane < 16)
bit_placed bit zero b h = (omega arith, omega arith)
bit_placed bit (suc zero) b h = (omega arith, omega arith)
bit_placed bit (suc (suc zero)) b h = (omega arith, omega arith)
bit_placed bit (suc (suc (suc zero))) b h = (omega arith, omega arith)
bit_placed bit (suc (suc (suc (suc lane)))) b h = absurd (omega arith)

-- a byte put in leaves the lengths
pub put_lengths : (m : Memory) (a b : ℕ) → (length (put m a b).ram ≡ length m.ram) × (length (put m a b).parity ≡ length m.parity)
unfolding put
put_lengths m a b = (length-set m.ram a b, length-set m.parity (a / 4) _)

-- bytes stored leave the lengths
pub stored_lengths : (m : Memory) (a : ℕ) (bytes : List ℕ) → (length (stored m a bytes).ram ≡ length m.ram) × (length (stored m a bytes).parity ≡ length m.parity)
unfolding stored
stored_lengths m a [] = (refl, refl)
stored_lengths m a (b ∷ bytes) =
    let k = stored_lengths (put m a b) (suc a) bytes in
    let e = put_lengths m a b in
    (k.0 ∙ e.0, k.1 ∙ e.1)

-- bytes stored in two runs are stored at once
pub stored_parts : (src : List ℕ) (m : Memory) (s a n k : ℕ) → stored (stored m a (bytes_at src s n)) (a + n) (bytes_at src (s + n) k) ≡ stored m a (bytes_at src s (n + k))
unfolding stored bytes_at
stored_parts src m s a zero k = let z : 0 + k ≡ k = omega arith in rw (add-zero a, add-zero s, z)
stored_parts src m s a (suc n) k =
    let e : a + suc n ≡ suc a + n = omega arith in
    let f : s + suc n ≡ suc s + n = omega arith in
    let g : suc n + k ≡ suc (n + k) = omega arith in
    rw (e, f, g) (stored_parts src (put m a (get_or src s 0)) (suc s) (suc a) n k)

-- What the loop that stores bytes keeps: the bytes that are left, stored, give what all give.
module _ (src : List ℕ) (m₀ : Memory) (s a count : ℕ) where
  pub record StoreInvariant (m : Memory) (k : ℕ) : Type 0 where
    pub rest : stored m (a + k) (bytes_at src (s + k) (count - k)) ≡ stored m₀ a (bytes_at src s count)
    pub within : k ≤ count
    pub ram : length m.ram ≡ length m₀.ram
    pub parity : length m.parity ≡ length m₀.parity

  pub storing_begin : StoreInvariant m₀ 0
  storing_begin = record { rest = simp unary_clauses; within = omega arith; ram = refl; parity = refl }

  -- the next j bytes are stored
  pub storing_next : (m m' : Memory) (k j : ℕ) → StoreInvariant m k → j ≤ count - k → m' ≡ stored m (a + k) (bytes_at src (s + k) j) → StoreInvariant m' (k + j)
  storing_next m m' k j inv h e =
      let bytes = bytes_at src (s + k) j in
      let lengths = stored_lengths m (a + k) bytes in
      let at_a : a + (k + j) ≡ a + k + j = omega arith in
      let at-s : s + (k + j) ≡ s + k + j = omega arith in
      let left : count - k ≡ j + (count - (k + j)) = omega arith in
      record {
        rest = rw (e, at_a, at-s) (stored_parts src m (s + k) (a + k) j (count - (k + j)) ∙ rw left at inv.rest);
        within = omega (arith, inv.within);
        ram = ap (λ (m : Memory). length m.ram) e ∙ lengths.0 ∙ inv.ram;
        parity = ap (λ (m : Memory). length m.parity) e ∙ lengths.1 ∙ inv.parity;
      }

  -- none is left
  pub storing_end : (m : Memory) (k : ℕ) → StoreInvariant m k → count ≤ k → m ≡ stored m₀ a (bytes_at src s count)
  unfolding bytes_at stored
  storing_end m k inv h = let none : count - k ≡ 0 = omega arith in rw none at inv.rest

-- a line stored by doublewords
pub line_stored : (src : List ℕ) (m : Memory) (s a : ℕ) →
    stored (stored (stored (stored m a (bytes_at src s 4)) (a + 4) (bytes_at src (s + 4) 4)) (a + 8) (bytes_at src (s + 8) 4)) (a + 12) (bytes_at src (s + 12) 4)
    ≡ stored m a (bytes_at src s 16)
line_stored src m s a = rw (stored_parts src m s a 4 4, stored_parts src m s a 8 4) (stored_parts src m s a 12 4)

-- the bits of all four lanes replaced, one after another, are the whole parity byte
module _ (p d0 d1 d2 d3 : ℕ) (c0 : d0 < 2) (c1 : d1 < 2) (c2 : d2 < 2) (c3 : d3 < 2) where
  first_lane : (q d : ℕ) → d < 2 → with_dp q 0 d % 2 ≡ d
  unfolding with_dp
  first_lane q d l = omega arith

  second_lane : (q d : ℕ) → d < 2 → with_dp q 1 d % 4 ≡ q % 2 + 2 * d
  unfolding with_dp
  second_lane q d l = omega arith

  third_lane : (q d : ℕ) → d < 2 → with_dp q 2 d % 8 ≡ q % 4 + 4 * d
  unfolding with_dp
  third_lane q d l = omega arith

  fourth_lane : (q d : ℕ) → with_dp q 3 d ≡ q % 8 + 8 * d
  unfolding with_dp
  fourth_lane q d = omega arith

  all_lanes : with_dp (with_dp (with_dp (with_dp p 0 d0) 1 d1) 2 d2) 3 d3 ≡ d0 + 2 * d1 + 4 * d2 + 8 * d3
  all_lanes = rw (fourth_lane (with_dp (with_dp (with_dp p 0 d0) 1 d1) 2 d2) d3, third_lane (with_dp (with_dp p 0 d0) 1 d1) d2 c2, second_lane (with_dp p 0 d0) d1 c1, first_lane p d0 c0)

-- a bit replaced in a parity byte that was just stored
stored_again : (parity : List ℕ) (i q lane bit : ℕ) → i < length parity →
    set (set parity i q) i (with_dp (get_or (set parity i q) i 0) lane bit) ≡ set parity i (with_dp q lane bit)
stored_again parity i q lane bit l =
    ap (λ (x : ℕ). set (set parity i q) i (with_dp x lane bit)) (get_or-set_same parity i q 0 l)
    ∙ set-set parity i q (with_dp q lane bit)

abbrev after_one : List ℕ → ℕ → ℕ → ℕ → List ℕ
after_one parity i lane bit = set parity i (with_dp (get_or parity i 0) lane bit)

four_bits : (parity : List ℕ) (i d0 d1 d2 d3 : ℕ) → i < length parity → d0 < 2 → d1 < 2 → d2 < 2 → d3 < 2 →
    after_one (after_one (after_one (after_one parity i 0 d0) i 1 d1) i 2 d2) i 3 d3 ≡ set parity i (d0 + 2 * d1 + 4 * d2 + 8 * d3)
four_bits parity i d0 d1 d2 d3 l c0 c1 c2 c3 =
    let p = get_or parity i 0 in
    ap (λ (x : List ℕ). after_one (after_one x i 2 d2) i 3 d3) (stored_again parity i (with_dp p 0 d0) 1 d1 l)
    ∙ ap (λ (x : List ℕ). after_one x i 3 d3) (stored_again parity i (with_dp (with_dp p 0 d0) 1 d1) 2 d2 l)
    ∙ stored_again parity i (with_dp (with_dp (with_dp p 0 d0) 1 d1) 2 d2) 3 d3 l
    ∙ ap (set parity i) (all_lanes p d0 d1 d2 d3 c0 c1 c2 c3)

-- an aligned doubleword stored at once
pub four_stored : (m : Memory) (src : List ℕ) (s a bits : ℕ) → a % 4 ≡ 0 → a / 4 < length m.parity →
    bits ≡ dp_of (get_or src s 0) + 2 * dp_of (get_or src (s + 1) 0) + 4 * dp_of (get_or src (s + 2) 0) + 8 * dp_of (get_or src (s + 3) 0) →
    memory (sets m.ram a (bytes_at src s 4)) (set m.parity (a / 4) bits) ≡ stored m a (bytes_at src s 4)
unfolding stored put bytes_at
four_stored m src s a bits al l e =
    let s1 : s + 1 ≡ suc s = omega arith in
    let s2 : s + 2 ≡ suc (suc s) = omega arith in
    let s3 : s + 3 ≡ suc (suc (suc s)) = omega arith in
    let i1 : suc a / 4 ≡ a / 4 = omega arith in
    let i2 : suc (suc a) / 4 ≡ a / 4 = omega arith in
    let i3 : suc (suc (suc a)) / 4 ≡ a / 4 = omega arith in
    let m1 : suc a % 4 ≡ 1 = omega arith in
    let m2 : suc (suc a) % 4 ≡ 2 = omega arith in
    let m3 : suc (suc (suc a)) % 4 ≡ 3 = omega arith in
    rw (e, s1, s2, s3, al, i1, i2, i3, m1, m2, m3)
    (ap (λ (x : List ℕ). memory (sets m.ram a (bytes_at src s 4)) x)
    (sym (four_bits m.parity (a / 4) (dp_of (get_or src s 0)) (dp_of (get_or src (suc s) 0)) (dp_of (get_or src (suc (suc s)) 0)) (dp_of (get_or src (suc (suc (suc s))) 0)) l (dp_below _) (dp_below _) (dp_below _) (dp_below _))))

-- Laws of the ranges: how a loop over their words goes on, and what their tests tell.
use Prim.Native.Nat.{ℕ, zero, suc, ◌+◌, ◌*◌, ◌/◌, ◌%◌, ◌≤◌, ◌<◌}
use mathlib.Core.Path.{◌≡◌, refl, sym, ◌∙◌, ap}
use mathlib.Core.Bool.{Bool, true, false, not, ◌&&◌, ◌||◌, or_assoc, or-false, false≢true}
use mathlib.Core.List.{List, [], ◌∷◌}
use native.Mathlib.Decide.{dec_le}
use native.Mathlib.Omega.{arith}
use native.Mathlib.Nat.{add-zero}
use lib.Dec.{eqb, ltb, leb}
use lib.ListN.{length, get_or, take, drop, drop_of_length-le, get_or-eq_default, length-drop}
use lib.Seq.{drop-cons, drop-drop, get_or-take, get_or-drop}
use borrow.Author.Tests.{ltb-true, ltb-false, eqb-true, not-false, lt-ltb, le-ltb, lt-leb, le-leb}
use Rattle.std.specs.List.{list_any}
use Rattle.std.specs.Simd.{first_chunks}
use Rattle.laws.proofs.Tests.{both, neither, by_test}
use Rattle.ranges.specs.Ranges.{Range, range, ranges_in, ranges_of, in_range, read_only, bad_range, any_bad}

-- the next range takes two words, or the last one with a size of 0
pub next_range : (l : List ℕ) (k : ℕ) → k < length l → ranges_in (drop k l) ≡ range (get_or l k 0) (get_or l (k + 1) 0) ∷ ranges_in (drop (k + 2) l)
unfolding ranges_in
next_range l k h =
    let e : k + 1 ≡ suc k = omega arith in
    let f : k + 2 ≡ suc (suc k) = omega arith in
    elim (dec_le (length l) (suc k)) [
      | yes p ↦
          let last : drop (suc k) l ≡ [] = drop_of_length-le l p in
          let none : drop (suc (suc k)) l ≡ [] = drop_of_length-le l {i = suc (suc k)} (omega arith) in
          let zero-size : get_or l (suc k) 0 ≡ 0 = get_or-eq_default l 0 p in
          rw (e, f, drop-cons l k 0 h, last, none, zero-size)
      | no p ↦ let g : suc k < length l = omega arith in rw (e, f, drop-cons l k 0 h, drop-cons l (suc k) 0 g)
    ]

-- such tests are: a byte lies in a range, a range is wrong
pub read_only_any : (rs : List Range) (a : ℕ) → read_only rs a ≡ list_any (λ r. in_range r a) rs
unfolding read_only
read_only_any [] a = refl
read_only_any (r ∷ rs) a = rw (read_only_any rs a)

pub any_bad_any : (ram : ℕ) (rs : List Range) → any_bad ram rs ≡ list_any (bad_range ram) rs
unfolding any_bad
any_bad_any ram [] = refl
any_bad_any ram (r ∷ rs) = rw (any_bad_any ram rs)

-- the bytes of a line are read-only together
pub same_line : (rs : List Range) (a b : ℕ) → a / 16 ≡ b / 16 → read_only rs a ≡ read_only rs b
unfolding read_only in_range
same_line [] a b e = refl
same_line (r ∷ rs) a b e = rw (same_line rs a b e, e)

-- a byte is read-only where its line is
pub read_only_line : (rs : List Range) (a : ℕ) → read_only rs (a / 16 * 16) ≡ read_only rs a
read_only_line rs a = same_line rs (a / 16 * 16) a (omega arith)

-- where none is kept there is no range, whatever the words hold
pub no_ranges_lem : (b : List ℕ) → ranges_of (record { count = 0; bounds = b }) ≡ []
unfolding ranges_of ranges_in
no_ranges_lem b = refl

-- a range that is not wrong is of whole lines inside RAM
pub good_range : (ram : ℕ) (r : Range) → bad_range ram r ≡ false → (r.start % 16 ≡ 0) × (r.size % 16 ≡ 0) × (r.start + r.size ≤ ram)
unfolding bad_range
good_range ram r e =
    let empty = eqb r.size 0 in
    let start = not (eqb (r.start % 16) 0) in
    let size = not (eqb (r.size % 16) 0) in
    let three = neither (empty || start || size) (ltb ram (r.start + r.size)) e in
    let two = neither (empty || start) size three.0 in
    let one = neither empty start two.0 in
    (eqb-true (r.start % 16) 0 (not-false _ one.1), eqb-true (r.size % 16) 0 (not-false _ two.1), ltb-false ram (r.start + r.size) three.1)

-- the code asks start ≤ line, the definition that the line is not below
pub at_least : (a b : ℕ) → leb a b ≡ not (ltb b a)
at_least a b =
    by_test (λ t. leb a b ≡ not t) (ltb b a)
    (λ e. lt-leb a b (ltb-true b a e))
    (λ e. le-leb a b (ltb-false b a e))

-- a byte lies below a line's first one where its own line does
below_line : (a n : ℕ) → n % 16 ≡ 0 → ltb (a / 16 * 16) n ≡ ltb a n
below_line a n z =
    by_test (λ t. ltb (a / 16 * 16) n ≡ t) (ltb a n)
    (λ e. let l = ltb-true a n e in lt-ltb (a / 16 * 16) n (omega arith))
    (λ e. let l = ltb-false a n e in le-ltb (a / 16 * 16) n (omega arith))

-- of a range that is not wrong the test by lines is the test by bytes
pub in_range_bytes : (ram : ℕ) (r : Range) (a : ℕ) → bad_range ram r ≡ false → in_range r a ≡ (not (ltb a r.start) && ltb a (r.start + r.size))
unfolding in_range
in_range_bytes ram r a e =
    let g = good_range ram r e in
    rw (below_line a r.start g.0, below_line a (r.start + r.size) (omega arith))

-- a read-only byte is a byte of RAM
pub read_only_inside : (ram : ℕ) (rs : List Range) (a : ℕ) → any_bad ram rs ≡ false → read_only rs a ≡ true → a < ram
unfolding any_bad read_only
read_only_inside ram [] a e h = absurd (false≢true h)
read_only_inside ram (r ∷ rs) a e h =
    let good = neither (bad_range ram r) (any_bad ram rs) e in
    by_test (λ t. in_range r a ≡ t → (t || read_only rs a) ≡ true → a < ram) (in_range r a)
    (λ i _ _. inside good.0 i)
    (λ _ _ l. read_only_inside ram rs a good.1 l)
    refl h
  where
    inside : bad_range ram r ≡ false → in_range r a ≡ true → a < ram
    inside g i =
        let below = both (not (ltb a r.start)) (ltb a (r.start + r.size)) (sym (in_range_bytes ram r a g) ∙ i) in
        omega (arith, ltb-true a (r.start + r.size) below.1, (good_range ram r g).2)

-- A LOOP OVER THE RANGES THAT WORDS SAY

-- the pairs of words, each with the words at its places
pair_at : (words : List ℕ) (n i : ℕ) → i < n → get_or (first_chunks 2 n words) i [] ≡ take 2 (drop (2 * i) words)
pair_at words zero i h = absurd (omega arith)
pair_at words (suc n) zero h = refl
pair_at words (suc n) (suc i) h =
    let e : 2 + 2 * i ≡ 2 * suc i = omega arith in
    pair_at (drop 2 words) n i (omega arith) ∙ ap (λ (l : List ℕ). take 2 l) (drop-drop (2 * i) 2 words ∙ ap (λ (k : ℕ). drop k words) e)

word_at : (words : List ℕ) (n i o : ℕ) → i < n → o < 2 → get_or (get_or (first_chunks 2 n words) i []) o 0 ≡ get_or words (2 * i + o) 0
word_at words n i o h k =
    ap (λ (l : List ℕ). get_or l o 0) (pair_at words n i h) ∙ get_or-take 2 (drop (2 * i) words) o 0 k ∙ get_or-drop (2 * i) words o 0

module _ (p : Range → Bool) (words : List ℕ) (i : ℕ) (found : Bool) where
  -- the next pair is asked
  pub any_step : (pairs : List (List ℕ)) (hit : Bool) → pairs ≡ first_chunks 2 (length words / 2) words → i < length words / 2 →
      hit ≡ p (range (get_or (get_or pairs i []) 0 0) (get_or (get_or pairs i []) 1 0)) →
      ((found || hit) || list_any p (ranges_in (drop (2 * (i + 1)) words))) ≡ (found || list_any p (ranges_in (drop (2 * i) words)))
  any_step pairs hit e h q =
      let k : 2 * (i + 1) ≡ 2 * i + 2 = omega arith in
      let n = length words / 2 in
      let a : get_or (get_or pairs i []) 0 0 ≡ get_or words (2 * i) 0 = rw (e, word_at words n i 0 h (omega arith), add-zero (2 * i)) in
      let b : get_or (get_or pairs i []) 1 0 ≡ get_or words (2 * i + 1) 0 = rw e (word_at words n i 1 h (omega arith)) in
      let l : 2 * i < length words = omega arith in
      rw (k, next_range words (2 * i) l, q, a, b, or_assoc)

  -- none is left
  pub any_end : i ≡ length words / 2 → (last : List ℕ) → last ≡ drop (length words / 2 * 2) words → length last ≡ 0 → (found || list_any p (ranges_in (drop (2 * i) words))) ≡ found
  unfolding ranges_in
  any_end h last e z =
      let n : length words ≤ 2 * i = omega (arith, ap (λ (l : List ℕ). length l) e, length-drop (length words / 2 * 2) words) in
      let none : drop (2 * i) words ≡ [] = drop_of_length-le words {i = 2 * i} n in
      rw none (or-false found)

  -- a start is left
  pub any_last : i ≡ length words / 2 → (last : List ℕ) (hit : Bool) → last ≡ drop (length words / 2 * 2) words → (length last ≡ 0 → ⊥) → hit ≡ p (range (get_or last 0 0) 0) →
      (found || list_any p (ranges_in (drop (2 * i) words))) ≡ (found || hit)
  unfolding ranges_in
  any_last h last hit e z q =
      let n : 2 * i < length words = omega (arith, ap (λ (l : List ℕ). length l) e, length-drop (length words / 2 * 2) words) in
      let w : length words / 2 * 2 ≡ 2 * i = omega arith in
      let a : get_or last 0 0 ≡ get_or words (2 * i) 0 = rw (e, w, get_or-drop (2 * i) words 0 0, add-zero (2 * i)) in
      let b : get_or words (2 * i + 1) 0 ≡ 0 = get_or-eq_default words 0 {n = 2 * i + 1} (omega arith) in
      let none : drop (2 * i + 2) words ≡ [] = drop_of_length-le words {i = 2 * i + 2} (omega arith) in
      rw (next_range words (2 * i) n, b, none, q, a, or-false)

-- Whatever the answers, cycles move just the wanted bytes: a fill brings RAM's line, a plain read the wanted bytes.
use Prim.Native.Nat.{ℕ, zero, suc, ◌+◌, ◌-◌, ◌*◌, ◌%◌, ◌≤◌, ◌<◌}
use mathlib.Core.Path.{◌≡◌, refl, sym, ◌∙◌, ap}
use mathlib.Core.Bool.{Bool, true, false, cond, ◌||◌, ◌&&◌}
use mathlib.Core.List.{List, [], ◌∷◌, map}
use native.Mathlib.Omega.{arith}
use native.Mathlib.Decide.{dec_le, dec_lt}
use lib.ListN.{length, get_or, replicate}
use lib.Seq.{length-sets}
use lib.Dec.{eqb, ltb, leb}
use borrow.Author.Tests.{eqb-true, eqb-false, leb-true, leb-false, ltb-true, le-leb, lt-leb, lt-ltb, le-ltb}
use Rattle.laws.proofs.Tests.{both, by_test, same_or}
use Rattle.laws.proofs.Lists.{sets_append}
use Rattle.words.specs.Bytes.{bytes_at}
use Rattle.words.proofs.Places.{bytes_at_lem, bytes_length, sets_above, sets_below, sets_in}
use Rattle.words.proofs.Spans.{bytes_split, bytes_same}
use Rattle.bus.specs.Bus.{Run, run, size_of, wanted_after, cycles_of, burst_order, burst, after_cycles, buffer_after}
use Rattle.bus.proofs.Sizing.{size_some, size_most}
use Rattle.bus.proofs.BurstOrder.{burst_cases, EachWhole, order_whole}

-- bytes of one doubleword of a line
pub record OneDoubleword (r : Run) : Type 0 where
  pub some : 1 ≤ r.count
  pub lanes : r.from % 4 + r.count ≤ 4
  pub line : r.from + r.count ≤ 16

abbrev pub Each : List Run → Type 0
Each [] = Unit {0}
Each (w ∷ ws) = OneDoubleword w × Each ws

abbrev pub total : List Run → ℕ
total [] = 0
total (w ∷ ws) = w.count + total ws

-- the same work on the wanted bytes themselves
abbrev after_runs : {S : Type 0} → (Run → S → S) → List Run → S → S
after_runs f [] s = s
after_runs f (w ∷ ws) s = after_runs f ws (f w s)

-- what is left after a cycle: the other wanted bytes, or the rest of these before them
pub left_cases : (P : List Run → Type 0) (x : ℕ) (w : Run) (ws : List Run) → (size_of x w ≡ w.count → P ws) →
    (size_of x w < w.count → P (run (w.from + size_of x w) (w.count - size_of x w) ∷ ws)) → P (wanted_after x w ws)
unfolding wanted_after
left_cases P x w ws f g =
    let m = size_most x w.from w.count in
    by_test (λ b. eqb (size_of x w) w.count ≡ b → P (cond b ws (run (w.from + size_of x w) (w.count - size_of x w) ∷ ws)))
    (eqb (size_of x w) w.count)
    (λ _ e. f (eqb-true _ _ e))
    (λ _ e. g (let n = eqb-false (size_of x w) w.count e in omega arith))
    refl

pub left_each : (x : ℕ) (w : Run) (ws : List Run) → OneDoubleword w → Each ws → Each (wanted_after x w ws)
left_each x w ws g h =
    left_cases Each x w ws (λ e. h)
    (λ l. (record { some = omega arith; lanes = omega (arith, g.lanes); line = omega (arith, g.line) }, h))

pub left_total : (x : ℕ) (w : Run) (ws : List Run) → size_of x w + total (wanted_after x w ws) ≡ w.count + total ws
left_total x w ws = left_cases (λ l. size_of x w + total l ≡ w.count + total ws) x w ws (λ e. rw e) (λ l. omega arith)

-- cycles do what the wanted bytes ask for, for any work that can be done in parts
module _ {S : Type 0} (f : Run → S → S) (split : (a m n : ℕ) (s : S) → f (run a (m + n)) s ≡ f (run (a + m) n) (f (run a m) s)) where
  pub cycles_as_runs : (xs : List ℕ) (ws : List Run) → Each ws → total ws ≤ length xs → (s : S) → after_cycles f (cycles_of xs ws) s ≡ after_runs f ws s
  unfolding after_cycles cycles_of
  cycles_as_runs [] [] g l s = refl
  cycles_as_runs [] (w ∷ ws) g l s = absurd (omega (arith, g.0.some))
  cycles_as_runs (x ∷ xs) [] g l s = refl
  cycles_as_runs (x ∷ xs) (w ∷ ws) g l s =
      cycles_as_runs xs (wanted_after x w ws) (left_each x w ws g.0 g.1) (omega (arith, left_total x w ws, size_some x w.from w.count g.0.some)) (f (run w.from (size_of x w)) s)
      ∙ left_cases (λ l. after_runs f l (f (run w.from (size_of x w)) s) ≡ after_runs f ws (f w s)) x w ws
      (λ e. rw e)
      (λ k.
      let e : size_of x w + (w.count - size_of x w) ≡ w.count = omega arith in
      ap (after_runs f ws) (rw e at (sym (split w.from (size_of x w) (w.count - size_of x w) s))))

-- READS

brought_split : (ram : List ℕ) (line a m n : ℕ) (s : List ℕ) → buffer_after ram line (run a (m + n)) s ≡ buffer_after ram line (run (a + m) n) (buffer_after ram line (run a m) s)
brought_split ram line a m n s =
    let e : line + (a + m) ≡ line + a + m = omega arith in
    rw (bytes_split ram (line + a) m n, sets_append s a (bytes_at ram (line + a) m) (bytes_at ram (line + a + m) n), bytes_length ram (line + a) m, e)

module _ (ram : List ℕ) (line : ℕ) where
  brought_length : (r : Run) (b : List ℕ) → length b ≡ 16 → length (buffer_after ram line r b) ≡ 16
  brought_length r b l = length-sets b r.from (bytes_at ram (line + r.from) r.count) ∙ l

  abbrev SameByte : List ℕ → ℕ → Type 0
  SameByte b o = get_or b o 0 ≡ get_or ram (line + o) 0

  -- a byte of the line buffer that a cycle brings is RAM's
  pub lands : (r : Run) (b : List ℕ) (o : ℕ) → r.from + r.count ≤ length b → r.from ≤ o → o < r.from + r.count → SameByte (buffer_after ram line r b) o
  lands r b o l p q =
      let e : r.from + (o - r.from) ≡ o = omega arith in
      let f : line + r.from + (o - r.from) ≡ line + o = omega arith in
      let n = bytes_length ram (line + r.from) r.count in
      rw (e, f) at (sets_in b r.from (bytes_at ram (line + r.from) r.count) (o - r.from) (rw n (omega arith)) (omega arith) ∙ bytes_at_lem ram (line + r.from) r.count (o - r.from) (omega arith))

  -- and one that is RAM's stays so
  keeps : (r : Run) (b : List ℕ) (o : ℕ) → r.from + r.count ≤ length b → SameByte b o → SameByte (buffer_after ram line r b) o
  keeps r b o l h =
      let n = bytes_length ram (line + r.from) r.count in
      elim (dec_lt o r.from) [
        | yes p ↦ sets_below b r.from (bytes_at ram (line + r.from) r.count) o p ∙ h
        | no p ↦ elim (dec_le (r.from + r.count) o) [
          | yes q ↦ sets_above b r.from (bytes_at ram (line + r.from) r.count) o (rw n q) ∙ h
          | no q ↦ lands r b o l (omega arith) (omega arith)
        ]
      ]

  runs_keep : (ws : List Run) → Each ws → (b : List ℕ) → length b ≡ 16 → (o : ℕ) → SameByte b o → SameByte (after_runs (buffer_after ram line) ws b) o
  runs_keep [] g b l o h = h
  runs_keep (w ∷ ws) g b l o h = runs_keep ws g.1 _ (brought_length w b l) o (keeps w b o (rw l g.0.line) h)

  abbrev covers : ℕ → List Run → Bool
  covers o [] = false
  covers o (w ∷ ws) = (leb w.from o && ltb o (w.from + w.count)) || covers o ws

  runs_land : (ws : List Run) → Each ws → (b : List ℕ) → length b ≡ 16 → (o : ℕ) → covers o ws ≡ true → SameByte (after_runs (buffer_after ram line) ws b) o
  runs_land [] g b l o h = absurd (let z : ◌≡◌ {A = ℕ} 0 1 = cc in omega arith)
  runs_land (w ∷ ws) g b l o h =
      by_test (λ c. (leb w.from o && ltb o (w.from + w.count)) ≡ c → (c || covers o ws) ≡ true → SameByte (after_runs (buffer_after ram line) ws (buffer_after ram line w b)) o)
      (leb w.from o && ltb o (w.from + w.count))
      (λ _ e _.
      let p = both (leb w.from o) _ e in
      runs_keep ws g.1 _ (brought_length w b l) o (lands w b o (rw l g.0.line) (leb-true _ _ p.0) (ltb-true _ _ p.1)))
      (λ _ e k. runs_land ws g.1 _ (brought_length w b l) o k)
      refl
      h

  brought_cycles : (xs : List ℕ) (ws : List Run) → Each ws → total ws ≤ length xs → (b : List ℕ) → after_cycles (buffer_after ram line) (cycles_of xs ws) b ≡ after_runs (buffer_after ram line) ws b
  brought_cycles = cycles_as_runs (buffer_after ram line) (brought_split ram line)

-- what the burst order covers, whatever it starts with
all_below : (ℕ → Bool) → ℕ → Bool
all_below p zero = true
all_below p (suc n) = p n && all_below p n

all_below_lem : (p : ℕ → Bool) (n : ℕ) → all_below p n ≡ true → (o : ℕ) → o < n → p o ≡ true
unfolding all_below
all_below_lem p zero h o l = absurd (omega arith)
all_below_lem p (suc n) h o l =
    let q = both (p n) (all_below p n) h in
    same_or _ o n (λ e. rw e q.0) (λ k. all_below_lem p n q.1 o (omega arith))

pub burst_total : (q : ℕ) → total (burst q) ≡ 16
unfolding burst burst_order
burst_total = burst_cases (λ ws. total ws ≡ 16) refl refl refl refl

whole_each : (order : List ℕ) → EachWhole order → Each (map (λ from. run from 4) order)
whole_each [] w = tt
whole_each (from ∷ order) w = (record { some = omega arith; lanes = omega (arith, w.0.aligned); line = omega (arith, w.0.aligned, w.0.inside) }, whole_each order w.1)

pub burst_each : (q : ℕ) → Each (burst q)
unfolding burst
burst_each q = whole_each (burst_order (q * 4)) (order_whole (q * 4))

burst_covers : (ram : List ℕ) (line q o : ℕ) → o < 16 → covers ram line o (burst q) ≡ true
unfolding burst burst_order all_below
burst_covers ram line = burst_cases (λ ws. (o : ℕ) → o < 16 → covers ram line o ws ≡ true) (all_below_lem _ 16 refl) (all_below_lem _ 16 refl) (all_below_lem _ 16 refl) (all_below_lem _ 16 refl)

-- a fill brings all of RAM's line
pub fill_buffer : (ram : List ℕ) (line q : ℕ) (xs : List ℕ) → 16 ≤ length xs → (o : ℕ) → o < 16 →
    get_or (after_cycles (buffer_after ram line) (cycles_of xs (burst q)) (replicate 16 0)) o 0 ≡ get_or ram (line + o) 0
fill_buffer ram line q xs l o k =
    let t = burst_total q in
    rw (brought_cycles ram line xs (burst q) (burst_each q) (omega arith) (replicate 16 0))
    (runs_land ram line (burst q) (burst_each q) (replicate 16 0) refl o (burst_covers ram line q o k))

-- a plain read brings the wanted bytes
pub wanted_bytes : (ram : List ℕ) (line : ℕ) (w : Run) → OneDoubleword w → (xs : List ℕ) → 16 ≤ length xs →
    bytes_at (after_cycles (buffer_after ram line) (cycles_of xs (w ∷ [])) (replicate 16 0)) w.from w.count ≡ bytes_at ram (line + w.from) w.count
wanted_bytes ram line w g xs l =
    rw (brought_cycles ram line xs (w ∷ []) (g, tt) (omega (arith, g.line)) (replicate 16 0))
    (bytes_same _ ram w.from (line + w.from) w.count λ o b.
    let e : line + (w.from + o) ≡ line + w.from + o = omega arith in
    rw e at (lands ram line w (replicate 16 0) (w.from + o) g.line (omega arith) (omega arith)))

-- EACH BYTE ONCE

-- how often a byte of a line is moved
abbrev pub counted : ℕ → Run → ℕ → ℕ
counted o r before = cond (leb r.from o && ltb o (r.from + r.count)) (suc before) before

counted_split : (o a m n before : ℕ) → counted o (run a (m + n)) before ≡ counted o (run (a + m) n) (counted o (run a m) before)
counted_split o a m n before =
    by_test (λ t. leb a o ≡ t → cond (t && ltb o (a + (m + n))) (suc before) before ≡ counted o (run (a + m) n) (cond (t && ltb o (a + m)) (suc before) before)) (leb a o)
    (λ _ e.
    let k = leb-true a o e in
    elim (dec_lt o (a + m)) [
      | yes p ↦ rw (lt-ltb o (a + (m + n)) (omega arith), lt-leb (a + m) o (omega arith), lt-ltb o (a + m) p)
      | no p ↦ elim (dec_lt o (a + m + n)) [
        | yes q ↦ rw (lt-ltb o (a + (m + n)) (omega arith), le-leb (a + m) o (omega arith), lt-ltb o (a + m + n) q, le-ltb o (a + m) (omega arith))
        | no q ↦ rw (le-ltb o (a + (m + n)) (omega arith), le-leb (a + m) o (omega arith), le-ltb o (a + m + n) (omega arith), le-ltb o (a + m) (omega arith))
      ]
    ])
    (λ _ e. let k = leb-false a o e in rw (lt-leb (a + m) o (omega arith)))
    refl

-- a fill moves every byte of the line once, a plain read every wanted one
burst_counted : (q o : ℕ) → o < 16 → eqb (after_runs (counted o) (burst q) 0) 1 ≡ true
unfolding burst burst_order all_below
burst_counted = burst_cases (λ ws. (o : ℕ) → o < 16 → eqb (after_runs (counted o) ws 0) 1 ≡ true) (all_below_lem _ 16 refl) (all_below_lem _ 16 refl) (all_below_lem _ 16 refl) (all_below_lem _ 16 refl)

pub fill_once : (q : ℕ) (xs : List ℕ) → 16 ≤ length xs → (o : ℕ) → o < 16 → after_cycles (counted o) (cycles_of xs (burst q)) 0 ≡ 1
fill_once q xs l o k =
    let t = burst_total q in
    cycles_as_runs (counted o) (counted_split o) xs (burst q) (burst_each q) (omega arith) 0 ∙ eqb-true _ 1 (burst_counted q o k)

pub wanted_once : (w : Run) → OneDoubleword w → (xs : List ℕ) → 16 ≤ length xs → (o : ℕ) → w.from ≤ o → o < w.from + w.count → after_cycles (counted o) (cycles_of xs (w ∷ [])) 0 ≡ 1
wanted_once w g xs l o p q =
    cycles_as_runs (counted o) (counted_split o) xs (w ∷ []) (g, tt) (omega (arith, g.line)) 0 ∙ rw (le-leb w.from o p, lt-ltb o (w.from + w.count) q)

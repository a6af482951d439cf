-- The plain memory follows a read by its records: each is of the group of its doubleword, and says which bytes its cycle moved.
use Prim.Native.Nat.{ℕ, zero, suc, ◌+◌, ◌*◌, ◌/◌, ◌%◌, ◌^◌, ◌≤◌, ◌<◌}
use mathlib.Core.Path.{◌≡◌, refl, sym, ◌∙◌, ap}
use mathlib.Core.Bool.{Bool, true, false, cond, ◌&&◌}
use mathlib.Core.List.{List, [], ◌∷◌, ◌++◌}
use native.Mathlib.Omega.{arith}
use native.Mathlib.Decide.{dec_lt}
use lib.Dec.{eqb, leb, ltb}
use lib.ListN.{length, get_or}
use lib.Seq.{length-sets}
use borrow.Author.Tests.{eq-eqb, ne_eqb, leb-true, leb-false, ltb-true, le-leb, lt-ltb, le-ltb}
use Rattle.laws.proofs.Below.{four}
use Rattle.laws.proofs.Tests.{both, refuted, by_test, same_or}
use Rattle.words.specs.Bytes.{bytes_at}
use Rattle.words.proofs.Places.{bytes_length, sets_below, sets_above}
use Rattle.ranges.specs.Ranges.{Range}
use Rattle.memory.specs.Parity.{Memory, wrong_in}
use Rattle.carried.specs.Carried.{Carried}
use Rattle.bus.specs.Bus.{Run, run, Cycle, burst_order, burst, none, wanted_after, cycles_of, after_cycles, buffer_after, size_of}
use Rattle.bus.specs.Record.{Record, lanes_of, flags_of, read_record}
use Rattle.bus.proofs.Flags.{lanes_below}
use Rattle.bus.proofs.Sizing.{size_some}
use Rattle.cycles.proofs.Brought.{OneDoubleword, Each, total, left_each, left_total, burst_each, lands, counted}
use Rattle.reading.specs.Reading.{buffer_of, records_of}
use Rattle.calls.specs.Plain.{held_after, groups_of, named_by, moves, byte_moved, byte_read}
use Rattle.calls.proofs.Cycles.{EachCycle}

-- FLAGS

abbrev Within : ℕ → ℕ → ℕ → Bool
Within o from count = leb from o && ltb o (from + count)

-- the flags of moved bytes, by lane
abbrev Bit : ℕ → ℕ → ℕ → Type 0
Bit lane n i = eqb (lanes_of lane n / 2 ^ i % 2) 1 ≡ Within i lane n

lane_bits_lem : (lane n : ℕ) → 1 ≤ n → lane + n ≤ 4 → (i : ℕ) → i < 4 → Bit lane n i
unfolding lanes_of
lane_bits_lem lane zero h k = absurd (omega arith)
lane_bits_lem zero (suc zero) h k = four (Bit 0 1) refl refl refl refl
lane_bits_lem zero (suc (suc zero)) h k = four (Bit 0 2) refl refl refl refl
lane_bits_lem zero (suc (suc (suc zero))) h k = four (Bit 0 3) refl refl refl refl
lane_bits_lem zero (suc (suc (suc (suc zero)))) h k = four (Bit 0 4) refl refl refl refl
lane_bits_lem zero (suc (suc (suc (suc (suc n))))) h k = absurd (omega arith)
lane_bits_lem (suc zero) (suc zero) h k = four (Bit 1 1) refl refl refl refl
lane_bits_lem (suc zero) (suc (suc zero)) h k = four (Bit 1 2) refl refl refl refl
lane_bits_lem (suc zero) (suc (suc (suc zero))) h k = four (Bit 1 3) refl refl refl refl
lane_bits_lem (suc zero) (suc (suc (suc (suc n)))) h k = absurd (omega arith)
lane_bits_lem (suc (suc zero)) (suc zero) h k = four (Bit 2 1) refl refl refl refl
lane_bits_lem (suc (suc zero)) (suc (suc zero)) h k = four (Bit 2 2) refl refl refl refl
lane_bits_lem (suc (suc zero)) (suc (suc (suc n))) h k = absurd (omega arith)
lane_bits_lem (suc (suc (suc zero))) (suc zero) h k = four (Bit 3 1) refl refl refl refl
lane_bits_lem (suc (suc (suc zero))) (suc (suc n)) h k = absurd (omega arith)
lane_bits_lem (suc (suc (suc (suc lane)))) (suc n) h k = absurd (omega arith)

-- the lowest four bits of a number are those of what it leaves over sixteens
low_bits : (l z i : ℕ) → i < 4 → (l + 16 * z) / 2 ^ i % 2 ≡ l / 2 ^ i % 2
low_bits l z =
    four (λ i. (l + 16 * z) / 2 ^ i % 2 ≡ l / 2 ^ i % 2)
    (omega arith)
    (let e : (l + 16 * z) / 2 ≡ l / 2 + 8 * z = omega arith in rw e (omega arith))
    (let e : (l + 16 * z) / 4 ≡ l / 4 + 4 * z = omega arith in rw e (omega arith))
    (let e : (l + 16 * z) / 8 ≡ l / 8 + 2 * z = omega arith in rw e (omega arith))

cond_by : (b : Bool) (k n : ℕ) → cond b (k * n) 0 ≡ k * cond b n 0
cond_by true k n = refl
cond_by false k n = omega arith

marked : (l kind w : ℕ) → l ≤ 15 → kind ≤ 32 → (last : Bool) → eqb ((l + kind + cond last 64 0 + 128 * w) / 64 % 2) 1 ≡ last
marked l kind w h k true = eq-eqb ((l + kind + 64 + 128 * w) / 64 % 2) 1 (omega arith)
marked l kind w h k false = ne_eqb ((l + kind + 0 + 128 * w) / 64 % 2) 1 (λ e. omega arith)

-- 0 or 32
pub record ReadKind (kind : ℕ) : Type 0 where
  pub whole : kind % 32 ≡ 0
  pub most : kind ≤ 32

module _ (kind : ℕ) (q : ReadKind kind) (lane n : ℕ) (some : 1 ≤ n) (fits : lane + n ≤ 4) (last wrong : Bool) where
  abbrev flags : ℕ
  flags = flags_of lane n kind last wrong

  flag_bits : (i : ℕ) → i < 4 → eqb (flags / 2 ^ i % 2) 1 ≡ Within i lane n
  unfolding flags_of
  flag_bits i h =
      let z = kind / 16 + cond last 4 0 + cond wrong 8 0 in
      let e : flags_of lane n kind last wrong ≡ lanes_of lane n + 16 * z = omega (arith, q.whole, cond_by last 16 4, cond_by wrong 16 8) in
      rw (e, low_bits (lanes_of lane n) z i h) (lane_bits_lem lane n some fits i h)

  flag_last : eqb (flags / 64 % 2) 1 ≡ last
  unfolding flags_of
  flag_last = rw (cond_by wrong 128 1) (marked (lanes_of lane n) kind (cond wrong 1 0) (lanes_below lane n fits) q.most last)

-- A CYCLE

leb_same : (a b c d : ℕ) → (a ≤ b → c ≤ d) → (c ≤ d → a ≤ b) → leb a b ≡ leb c d
leb_same a b c d f g =
    by_test (λ t. leb a b ≡ t → t ≡ leb c d) (leb a b)
    (λ _ e. sym (le-leb c d (f (leb-true a b e))))
    (λ _ e. let l = leb-false a b e in sym (refuted (leb c d) (λ h. let k = g (leb-true c d h) in omega arith)))
    refl

module _ (kind : ℕ) (q : ReadKind kind) (mem : Memory) (line : ℕ) (al : line % 16 ≡ 0) (c : Cycle) (g : OneDoubleword c.moved) where
  abbrev r : Record
  r = read_record kind mem line c

  record_last : eqb (r.flags / 64 % 2) 1 ≡ c.last
  unfolding read_record
  record_last = flag_last kind q (c.moved.from % 4) c.moved.count g.some g.lanes c.last (wrong_in mem (line + c.moved.from) c.moved.count)

  -- its record says which bytes it moved
  record_moves : (o : ℕ) → o < 16 → moves r (line + o) ≡ Within o c.moved.from c.moved.count
  unfolding read_record
  record_moves o ol =
      let f = c.moved.from in
      let n = c.moved.count in
      let x : (line + o) / 4 * 4 ≡ line + o / 4 * 4 = omega arith in
      let y : (line + o) % 4 ≡ o % 4 = omega arith in
      let w = g.lanes in
      rw (x, y)
      (same_or _ (f / 4) (o / 4)
      (λ e.
      rw (
        eq-eqb (line + f / 4 * 4) (line + o / 4 * 4) (omega arith),
        flag_bits kind q (f % 4) n g.some w c.last (wrong_in mem (line + f) n) (o % 4) (omega arith),
        leb_same (f % 4) (o % 4) f o (λ h. omega arith) (λ h. omega arith),
        leb_same (suc (o % 4)) (f % 4 + n) (suc o) (f + n) (λ h. omega arith) (λ h. omega arith),
      ))
      (λ e.
      rw (ne_eqb (line + f / 4 * 4) (line + o / 4 * 4) (λ h. e (omega arith)))
      (sym (refuted (Within o f n) (λ h.
      let p = both (leb f o) (ltb o (f + n)) h in
      let a = leb-true f o p.0 in
      let b = ltb-true o (f + n) p.1 in
      e (omega arith))))))

-- THE CYCLES OF A DOUBLEWORD

-- the last of them, and no other, is marked as the last
abbrev pub Ends : List Cycle → Type 0
Ends [] = ⊥
Ends (c ∷ []) = c.last ≡ true
Ends (c ∷ d ∷ cs) = (c.last ≡ false) × Ends (d ∷ cs)

ends_from : (moved : Run) (answer : ℕ) (xs : List ℕ) (ws : List Run) → Each ws → total ws ≤ length xs →
    Ends (record { moved = moved; answer = answer; last = none ws } ∷ cycles_of xs ws)
unfolding cycles_of
ends_from moved answer [] [] g l = refl
ends_from moved answer [] (w ∷ ws) g l = absurd (let h = g.0.some in omega arith)
ends_from moved answer (x ∷ xs) [] g l = refl
ends_from moved answer (x ∷ xs) (w ∷ ws) g l =
    (refl, ends_from (run w.from (size_of x w)) x xs (wanted_after x w ws) (left_each x w ws g.0 g.1) (omega (arith, left_total x w ws, size_some x w.from w.count g.0.some)))

-- those for some wanted bytes begin with the first of them
pub record Begins (from : ℕ) (cs : List Cycle) : Type 0 where
  pub ends : Ends cs
  pub starts : (kind : ℕ) (at : ℕ → Memory) (line n : ℕ) → named_by (records_of kind at line n cs) ≡ line + from / 4 * 4

pub cycles_begin : (xs : List ℕ) (w : Run) (ws : List Run) → Each (w ∷ ws) → total (w ∷ ws) ≤ length xs → Begins w.from (cycles_of xs (w ∷ ws))
unfolding cycles_of records_of read_record
cycles_begin [] w ws g l = absurd (let h = g.0.some in omega arith)
cycles_begin (x ∷ xs) w ws g l =
    record {
      ends = ends_from (run w.from (size_of x w)) x xs (wanted_after x w ws) (left_each x w ws g.0 g.1) (omega (arith, left_total x w ws, size_some x w.from w.count g.0.some));
      starts = λ kind at line n. refl;
    }

module _ (kind : ℕ) (q : ReadKind kind) (line : ℕ) (al : line % 16 ≡ 0) (at : ℕ → Memory) where
  -- their records are one group
  pub groups_first : (cs : List Cycle) → Ends cs → EachCycle cs → (n : ℕ) (more : List Record) →
      groups_of (records_of kind at line n cs ++ more) ≡ records_of kind at line n cs ∷ groups_of more
  unfolding groups_of records_of
  groups_first [] e g n more = absurd e
  groups_first (c ∷ []) e g n more = rw (record_last kind q (at n) line al c g.0, e)
  groups_first (c ∷ d ∷ cs) e g n more =
      rw (record_last kind q (at n) line al c g.0, e.0, groups_first (d ∷ cs) e.1 g.1 (suc n) more)

  -- a byte that one of them moves is what memory holds then, which the plain memory has too
  module _ (rom : List Range) (m : List ℕ) (ws : List Carried) (o : ℕ) (ol : o < 16) where
    other_byte : (ram : List ℕ) (r : Run) (b : List ℕ) → Within o r.from r.count ≡ false → get_or (buffer_after ram line r b) o 0 ≡ get_or b o 0
    other_byte ram r b e =
        let x = bytes_at ram (line + r.from) r.count in
        let n = bytes_length ram (line + r.from) r.count in
        elim (dec_lt o r.from) [
          | yes p ↦ sets_below b r.from x o p
          | no p ↦ elim (dec_lt o (r.from + r.count)) [
            | yes k ↦ absurd (let z : ◌≡◌ {A = Bool} true false = rw (le-leb r.from o (omega arith), lt-ltb o (r.from + r.count) k) at e in let y : ◌≡◌ {A = ℕ} 0 1 = cc in omega arith)
            | no k ↦ sets_above b r.from x o (rw n (omega arith))
          ]
        ]

    -- one that has been moved is not moved again
    counted_least : (cs : List Cycle) (i : ℕ) → i ≤ after_cycles (counted o) cs i
    unfolding after_cycles
    counted_least [] i = omega arith
    counted_least (c ∷ cs) i =
        by_test (λ t. i ≤ after_cycles (counted o) cs (cond t (suc i) i)) (Within o c.moved.from c.moved.count)
        (λ _. let h = counted_least cs (suc i) in omega arith)
        (λ _. counted_least cs i)

    byte_stays : (cs : List Cycle) (n i : ℕ) (b : List ℕ) → after_cycles (counted o) cs i ≡ i → get_or (buffer_of at line n cs b) o 0 ≡ get_or b o 0
    unfolding buffer_of after_cycles
    byte_stays [] n i b e = refl
    byte_stays (c ∷ cs) n i b e =
        by_test (λ t. Within o c.moved.from c.moved.count ≡ t → after_cycles (counted o) cs (cond t (suc i) i) ≡ i → get_or (buffer_of at line n (c ∷ cs) b) o 0 ≡ get_or b o 0)
        (Within o c.moved.from c.moved.count)
        (λ _ t k. absurd (let h = counted_least cs (suc i) in omega arith))
        (λ _ t k. byte_stays cs (suc n) i _ k ∙ other_byte (at n).ram c.moved b t)
        refl
        e

    pub byte_moved_lem : (cs : List Cycle) → EachCycle cs → (n : ℕ) → ((k : ℕ) → n ≤ k → (at k).ram ≡ held_after rom m ws (suc k)) →
        (b : List ℕ) → length b ≡ 16 → (v : ℕ) → after_cycles (counted o) cs 0 ≡ 1 →
        get_or (buffer_of at line n cs b) o 0 ≡ byte_moved rom m ws n (records_of kind at line n cs) (line + o) v
    unfolding buffer_of records_of byte_moved after_cycles
    byte_moved_lem [] g n same b l v e = absurd (omega arith)
    byte_moved_lem (c ∷ cs) g n same b l v e =
        let w = c.moved in
        let f = w.from in
        let b' = buffer_after (at n).ram line w b in
        let held = get_or (held_after rom m ws (suc n)) (line + o) 0 in
        let rest = byte_moved rom m ws (suc n) (records_of kind at line (suc n) cs) (line + o) v in
        by_test (λ t. Within o f w.count ≡ t → after_cycles (counted o) cs (cond t 1 0) ≡ 1 → get_or (buffer_of at line (suc n) cs b') o 0 ≡ cond t held rest)
        (Within o f w.count)
        (λ _ t k.
        let p = both (leb f o) (ltb o (f + w.count)) t in
        byte_stays cs (suc n) 1 b' k
        ∙ lands (at n).ram line w b o (rw l g.0.line) (leb-true f o p.0) (ltb-true o (f + w.count) p.1)
        ∙ ap (λ (x : List ℕ). get_or x (line + o) 0) (same n (omega arith)))
        (λ _ _ k. byte_moved_lem cs g.1 (suc n) (λ j i. same j (omega arith)) b' (length-sets b f (bytes_at (at n).ram (line + f) w.count) ∙ l) v k)
        refl
        e
        ∙ sym (ap (λ (t : Bool). cond t held rest) (record_moves kind q (at n) line al c g.0 o ol))

-- GROUPS

-- the first group is of a doubleword above an address
abbrev pub FirstAbove : ℕ → List (List Record) → Type 0
FirstAbove a [] = Unit {0}
FirstAbove a (g ∷ gs) = a < named_by g

module _ (rom : List Range) (m : List ℕ) (ws : List Carried) (n x : ℕ) where
  -- of a byte whose doubleword has no group, of one whose doubleword the first group is of, of one above that
  pub byte_hit : (gs : List (List Record)) → FirstAbove (x / 4 * 4) gs → byte_read rom m ws n gs x ≡ get_or (held_after rom m ws n) x 0
  unfolding byte_read byte_moved
  byte_hit [] h = refl
  byte_hit (g ∷ gs) h = rw (le-ltb (named_by g) (x / 4 * 4) (omega arith), ne_eqb (named_by g) (x / 4 * 4) (λ e. omega arith))

  module _ (g : List Record) (gs : List (List Record)) where
    pub byte_own : named_by g ≡ x / 4 * 4 → byte_read rom m ws n (g ∷ gs) x ≡ byte_moved rom m ws n g x (get_or (held_after rom m ws n) x 0)
    unfolding byte_read
    byte_own e = rw (le-ltb (named_by g) (x / 4 * 4) (omega arith), eq-eqb (named_by g) (x / 4 * 4) e)

    pub byte_above : named_by g < x / 4 * 4 → byte_read rom m ws n (g ∷ gs) x ≡ byte_read rom m ws (n + length g) gs x
    unfolding byte_read
    byte_above l = rw (lt-ltb (named_by g) (x / 4 * 4) l)

pub records_length : (kind : ℕ) (at : ℕ → Memory) (line n : ℕ) (cs : List Cycle) → length (records_of kind at line n cs) ≡ length cs
unfolding records_of
records_length kind at line n [] = refl
records_length kind at line n (c ∷ cs) = rw (records_length kind at line (suc n) cs)

-- a fill begins with its own doubleword
pub burst_begins : (q : ℕ) → q < 4 → (xs : List ℕ) → 16 ≤ length xs → Begins (q * 4) (cycles_of xs (burst q))
unfolding burst burst_order
burst_begins zero h xs l = cycles_begin xs (run 0 4) _ (burst_each 0) l
burst_begins (suc zero) h xs l = cycles_begin xs (run 4 4) _ (burst_each 1) l
burst_begins (suc (suc zero)) h xs l = cycles_begin xs (run 8 4) _ (burst_each 2) l
burst_begins (suc (suc (suc zero))) h xs l = cycles_begin xs (run 12 4) _ (burst_each 3) l
burst_begins (suc (suc (suc (suc q)))) h xs l = absurd (omega arith)

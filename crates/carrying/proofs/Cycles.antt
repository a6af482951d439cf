-- Laws of the cycles of a read that carries writes: one cycle, and cycles one after the other.
use Prim.Native.Nat.{ℕ, suc, ◌+◌, ◌-◌, ◌≤◌}
use mathlib.Core.Path.{◌≡◌, refl, sym, ◌∙◌, ap}
use mathlib.Core.Bool.{Bool, true, false, ◌&&◌, ◌||◌}
use mathlib.Core.List.{List, [], ◌∷◌, ◌++◌}
use native.Mathlib.Omega.{arith}
use lib.Dec.{ltb}
use lib.ListN.{length, length-append}
use borrow.Author.Tests.{lt-ltb, le-ltb}
use Rattle.laws.proofs.Tests.{by_test, same_or}
use Rattle.memory.specs.Parity.{Memory}
use Rattle.carried.specs.declared.CarriedWrites.{CarriedWrites}
use Rattle.carried.specs.Carried.{Carried, due, later, landed, memory_at, in_line}
use Rattle.carried.specs.CarriedCode.{writes_from, left_from}
use Rattle.carried.proofs.Due.{due_none, due_early, due_then, later_then, landed_append, in_line_append}
use Rattle.carried.proofs.Writes.{writes_append, writes_none}
use Rattle.bus.specs.Bus.{run, Cycle, buffer_after}
use Rattle.bus.specs.Record.{Record, read_record, logged}
use Rattle.bus.proofs.Flags.{logged_append}
use Rattle.reading.specs.Reading.{buffer_of, records_of}
use Rattle.carrying.specs.declared.cycle.Brought.{Brought}
use Rattle.carrying.specs.CarryingCode.{LandsDue, MovesBytes, LandedTo, spoiled_at, CyclesBrought}

-- WHERE NOTHING IS DUE

-- nothing lands
pub none_lands : (carried : CarriedWrites) (line n : ℕ) (at : Brought) (m : Memory) (to : ℕ) → to ≡ at.landed → to ≤ carried.count →
    writes_from carried at.landed (to - at.landed) ≡ due (suc n) (left_from carried at.landed) → left_from carried to ≡ later (suc n) (left_from carried at.landed) →
    LandsDue carried line n at at m m
unfolding landed in_line
none_lands carried line n at m to e h those lefts =
    let none : due (suc n) (left_from carried at.landed) ≡ [] = sym (rw e at those) ∙ writes_none carried at.landed in
    record {
      memories = rw none;
      those = rw e at those;
      lefts = rw e at lefts;
      above = omega arith;
      within = rw e at h;
      same = refl;
      spoils = rw none (by_test (λ b. at.spoiled ≡ (at.spoiled || (b && false))) (ltb 0 at.used) (λ _. or_false at.spoiled) (λ _. or_false at.spoiled));
    }
  where
    or_false : (b : Bool) → b ≡ (b || false)
    or_false true = refl
    or_false false = refl

-- CYCLES ONE AFTER THE OTHER

module _ (at : ℕ → Memory) (line : ℕ) where
  pub records_append : (kind n : ℕ) (cs ds : List Cycle) → records_of kind at line n (cs ++ ds) ≡ records_of kind at line n cs ++ records_of kind at line (n + length cs) ds
  unfolding records_of
  records_append kind n [] ds = let e : n + 0 ≡ n = omega arith in rw e
  records_append kind n (c ∷ cs) ds =
      let e : n + suc (length cs) ≡ suc n + length cs = omega arith in
      rw e (ap (λ (l : List Record). read_record kind (at n) line c ∷ l) (records_append kind (suc n) cs ds))

  pub records_length : (kind n : ℕ) (cs : List Cycle) → length (records_of kind at line n cs) ≡ length cs
  unfolding records_of
  records_length kind n [] = refl
  records_length kind n (c ∷ cs) = ap suc (records_length kind (suc n) cs)

  pub buffer_append : (n : ℕ) (cs ds : List Cycle) (b : List ℕ) → buffer_of at line n (cs ++ ds) b ≡ buffer_of at line (n + length cs) ds (buffer_of at line n cs b)
  unfolding buffer_of
  buffer_append n [] ds b = let e : n + 0 ≡ n = omega arith in rw e
  buffer_append n (c ∷ cs) ds b =
      let e : n + suc (length cs) ≡ suc n + length cs = omega arith in
      rw e (buffer_append (suc n) cs ds (buffer_after (at n).ram line c.moved b))

module _ (kind line first : ℕ) (carried : CarriedWrites) (from : ℕ) (m₀ : Memory) where
  abbrev ws : List Carried
  ws = left_from carried from

  abbrev at : ℕ → Memory
  at = memory_at [] m₀ ws

  abbrev Brings : List Cycle → Brought → Brought → Memory → List ℕ → List ℕ → List ℕ → List ℕ → Type 0
  Brings = CyclesBrought kind line first carried from m₀

  pub brought_append : (cs ds : List Cycle) (a b r : Brought) (m m' : Memory) (buffer₀ buffer buffer' log₀ log log' : List ℕ) → Brings cs a b m buffer₀ buffer log₀ log → Brings ds b r m' buffer buffer' log log' →
      Brings (cs ++ ds) a r m' buffer₀ buffer' log₀ log'
  brought_append cs ds a b r m m' buffer₀ buffer buffer' log₀ log log' p q =
      let n = first + a.used in
      let e : first + b.used ≡ n + length cs = omega (arith, p.made) in
      let k : n + length (records_of kind at line n cs) ≡ first + b.used = omega (arith, p.made, records_length at line kind n cs) in
      record {
        made = rw (length-append cs ds) (omega (arith, p.made, q.made));
        logs =
            q.logs
            ∙ ap (λ (l : List ℕ). logged l (first + b.used) (records_of kind at line (first + b.used) ds)) p.logs
            ∙ ap (λ (i : ℕ). logged (logged log₀ n (records_of kind at line n cs)) i (records_of kind at line (first + b.used) ds)) (sym k)
            ∙ sym (logged_append log₀ n (records_of kind at line n cs) (records_of kind at line (first + b.used) ds))
            ∙ ap (λ (i : ℕ). logged log₀ n (records_of kind at line n cs ++ records_of kind at line i ds)) e
            ∙ ap (logged log₀ n) (sym (records_append at line kind n cs ds));
        buffers =
            q.buffers
            ∙ ap (buffer_of at line (first + b.used) ds) p.buffers
            ∙ ap (λ (i : ℕ). buffer_of at line i ds (buffer_of at line n cs buffer₀)) e
            ∙ sym (buffer_append at line n cs ds buffer₀);
        lands = q.lands;
        spoils = λ h. q.spoils (p.spoils h);
      }

  -- ONE CYCLE

  pub landed_next : (n : ℕ) (m m' : Memory) (a b : Brought) → LandedTo carried from m₀ n m a.landed → LandsDue carried line n a b m m' → LandedTo carried from m₀ (suc n) m' b.landed
  landed_next n m m' a b g l =
      let up : n ≤ suc n = omega arith in
      let e : due (suc n) (left_from carried a.landed) ≡ due (suc n) (later n ws) = ap (due (suc n)) g.lefts in
      let t : due n ws ++ due (suc n) (later n ws) ≡ due (suc n) ws = due_then n (suc n) up ws in
      let k : b.landed - from ≡ (a.landed - from) + (b.landed - a.landed) = omega (arith, g.above, l.above) in
      let f : from + (a.landed - from) ≡ a.landed = omega (arith, g.above) in
      record {
        memories =
            l.memories
            ∙ ap (λ (x : List Carried). landed [] x m) e
            ∙ ap (landed [] (due (suc n) (later n ws))) g.memories
            ∙ sym (landed_append [] (due n ws) (due (suc n) (later n ws)) m₀)
            ∙ ap (λ (x : List Carried). landed [] x m₀) t;
        those =
            ap (writes_from carried from) k
            ∙ writes_append carried from (a.landed - from) (b.landed - a.landed)
            ∙ ap (λ (i : ℕ). writes_from carried from (a.landed - from) ++ writes_from carried i (b.landed - a.landed)) f
            ∙ ap (λ (x : List Carried). writes_from carried from (a.landed - from) ++ x) (l.those ∙ e)
            ∙ ap (λ (x : List Carried). x ++ due (suc n) (later n ws)) g.those
            ∙ t;
        lefts = l.lefts ∙ ap (later (suc n)) g.lefts ∙ later_then n (suc n) up ws;
        above = omega (arith, g.above, l.above);
        within = l.within;
      }

  -- whether the line is spoiled once a cycle more is made
  spoiled_next : (used n : ℕ) (s : Bool) → n ≡ first + used → s ≡ spoiled_at carried from line first n →
      (s || (ltb 0 used && in_line line (due (suc n) (later n ws)))) ≡ spoiled_at carried from line first (suc n)
  unfolding in_line
  spoiled_next used n s e h =
      same_or _ used 0
      (λ z.
      let k : n ≡ first = omega arith in
      rw (h, z, le-ltb 0 0 (omega arith), due_early n (suc first) ws (omega arith), k, due_none (suc first) ws))
      (λ z.
      let up : n ≤ suc n = omega arith in
      let l : suc first ≤ n = omega arith in
      let x = later (suc first) ws in
      let t : due n x ++ due (suc n) (later n ws) ≡ due (suc n) x =
      ap (λ (y : List Carried). due n x ++ due (suc n) y) (sym (later_then (suc first) n l ws)) ∙ due_then n (suc n) up x in
      rw (h, lt-ltb 0 used (omega arith)) (sym (in_line_append line (due n x) (due (suc n) (later n ws))) ∙ ap (in_line line) t))

  pub brought_one : (start count x : ℕ) (last : Bool) (place : ℕ) (a b r : Brought) (m m' : Memory) (buffer₀ buffer log₀ log : List ℕ) → LandedTo carried from m₀ (first + a.used) m a.landed →
      LandsDue carried line (first + a.used) a b m m' → MovesBytes kind m' line start count last place b r buffer₀ buffer log₀ log → place ≡ first + b.used →
      Brings (record { moved = run start count; answer = x; last = last } ∷ []) a r m' buffer₀ buffer log₀ log
  unfolding records_of buffer_of read_record
  brought_one start count x last place a b r m m' buffer₀ buffer log₀ log g l v ep =
      let n = first + a.used in
      let d = landed_next n m m' a b g l in
      let p : place ≡ n = omega (arith, l.same) in
      let u : first + r.used ≡ suc n = omega (arith, l.same, v.makes) in
      record {
        made = omega (arith, l.same, v.makes);
        logs = v.logs ∙ rw (p, d.memories);
        buffers = v.buffers ∙ rw d.memories;
        lands = rw (u, v.same) d;
        spoils = λ h.
            v.spoils
            ∙ l.spoils
            ∙ ap (λ (y : List Carried). a.spoiled || (ltb 0 a.used && in_line line (due (suc n) y))) g.lefts
            ∙ spoiled_next a.used n a.spoiled refl h
            ∙ ap (spoiled_at carried from line first) (sym u);
      }

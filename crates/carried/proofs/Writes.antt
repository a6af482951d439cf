-- Laws of the writes that the code's struct stands for, and of the loops over them.
use Prim.Native.Nat.{ℕ, zero, suc, ◌+◌, ◌*◌, ◌-◌, ◌/◌, ◌≤◌, ◌<◌}
use mathlib.Core.Path.{◌≡◌, refl, sym, ◌∙◌, ap}
use mathlib.Core.Bool.{Bool, true, false, ◌||◌}
use mathlib.Core.List.{List, [], ◌∷◌, ◌++◌, append-nil, append_assoc}
use native.Mathlib.Omega.{arith}
use lib.Dec.{eqb}
use lib.ListN.{get_or}
use borrow.Author.Tests.{lt-ltb, le-ltb}
use Rattle.words.specs.Bytes.{bytes_at}
use Rattle.memory.specs.Parity.{Memory, stored}
use Rattle.memory.proofs.Written.{written_everywhere}
use Rattle.carried.specs.Carried.{Carried, due, later, landed, in_line}
use Rattle.carried.specs.CarriedCode.{write_in, writes_from, carried_of, left_from}
use Rattle.carried.specs.declared.CarriedWrites.{CarriedWrites}
use Rattle.carried.proofs.Due.{due_first, due_stop, later_first, later_stop, landed_append, in_line_append}

module _ (c : CarriedWrites) where
  pub writes_append : (k a b : ℕ) → writes_from c k (a + b) ≡ writes_from c k a ++ writes_from c (k + a) b
  unfolding writes_from
  writes_append k zero b =
      let e : k + 0 ≡ k = omega arith in
      let f : 0 + b ≡ b = omega arith in
      rw (e, f)
  writes_append k (suc a) b =
      let e : k + suc a ≡ suc k + a = omega arith in
      let f : suc a + b ≡ suc (a + b) = omega arith in
      rw (e, f) (ap (λ (l : List Carried). write_in c k ∷ l) (writes_append (suc k) a b))

  -- one more
  pub writes_next : (k to : ℕ) → k ≤ to → writes_from c k (to + 1 - k) ≡ writes_from c k (to - k) ++ (write_in c to ∷ [])
  unfolding writes_from
  writes_next k to h =
      let e : to + 1 - k ≡ (to - k) + 1 = omega arith in
      let f : k + (to - k) ≡ to = omega arith in
      rw (e, writes_append k (to - k) 1, f)

  pub writes_none : (k : ℕ) → writes_from c k (k - k) ≡ []
  unfolding writes_from
  writes_none k = let e : k - k ≡ 0 = omega arith in rw e

  -- a read that carries none is the read without writes: both calls cite one definition, at this list
  pub carried_none : c.count ≡ 0 → carried_of c ≡ []
  unfolding writes_from
  carried_none e = rw e

  -- those left are the next and those after it
  pub left_next : (k : ℕ) → k < c.count → left_from c k ≡ write_in c k ∷ left_from c (k + 1)
  unfolding writes_from
  left_next k h =
      let e : c.count - k ≡ suc (c.count - (k + 1)) = omega arith in
      let f : k + 1 ≡ suc k = omega arith in
      rw (e, f)

  -- the loop that counts those due: those before a place with those due from there on, and those that are left
  pub record DueTo (from made to : ℕ) : Type 0 where
    pub those : writes_from c from (to - from) ++ due made (left_from c to) ≡ due made (left_from c from)
    pub lefts : later made (left_from c to) ≡ later made (left_from c from)

  module _ (from made : ℕ) where
    pub due_begin : DueTo from made from
    due_begin = record { those = rw (writes_none from); lefts = refl }

    module _ (to : ℕ) (g : DueTo from made to) where
      pub due_next : from ≤ to → to < c.count → get_or c.cycles to 0 < made → DueTo from made (to + 1)
      due_next k h n =
          let t = lt-ltb (get_or c.cycles to 0) made n in
          let e = left_next to h in
          record {
            those =
                ap (λ (l : List Carried). l ++ due made (left_from c (to + 1))) (writes_next from to k)
                ∙ append_assoc (writes_from c from (to - from)) (write_in c to ∷ []) (due made (left_from c (to + 1)))
                ∙ ap (λ (l : List Carried). writes_from c from (to - from) ++ l) (sym (ap (due made) e ∙ due_first made (write_in c to) (left_from c (to + 1)) t))
                ∙ g.those;
            lefts = sym (ap (later made) e ∙ later_first made (write_in c to) (left_from c (to + 1)) t) ∙ g.lefts;
          }

      -- where none is due any more
      abbrev pub DueEnd : Type 0
      DueEnd = (writes_from c from (to - from) ≡ due made (left_from c from)) × (left_from c to ≡ later made (left_from c from))

      none_due : due made (left_from c to) ≡ [] → later made (left_from c to) ≡ left_from c to → DueEnd
      none_due d l =
          (sym (append-nil (writes_from c from (to - from))) ∙ ap (λ (x : List Carried). writes_from c from (to - from) ++ x) (sym d) ∙ g.those, sym l ∙ g.lefts)

      pub due_stopped : to < c.count → made ≤ get_or c.cycles to 0 → DueEnd
      due_stopped h n =
          let t = le-ltb (get_or c.cycles to 0) made n in
          let e = left_next to h in
          none_due (ap (due made) e ∙ due_stop made (write_in c to) (left_from c (to + 1)) t)
          (ap (later made) e ∙ later_stop made (write_in c to) (left_from c (to + 1)) t ∙ sym e)

      pub due_all : to ≡ c.count → DueEnd
      unfolding writes_from due later
      due_all n = let e : c.count - to ≡ 0 = omega arith in none_due (rw e) (rw e)

  -- the loop that lands them
  pub land_next : (from k : ℕ) (m m' : Memory) → from ≤ k → m' ≡ stored (landed [] (writes_from c from (k - from)) m) (get_or c.addresses k 0) (bytes_at c.bytes (16 * k) (get_or c.lengths k 0)) →
      m' ≡ landed [] (writes_from c from (k + 1 - from)) m
  unfolding landed
  land_next from k m m' h e =
      let before = landed [] (writes_from c from (k - from)) m in
      e
      ∙ sym (written_everywhere before (get_or c.addresses k 0) (bytes_at c.bytes (16 * k) (get_or c.lengths k 0)))
      ∙ sym (ap (λ (l : List Carried). landed [] l m) (writes_next from k h) ∙ landed_append [] (writes_from c from (k - from)) (write_in c k ∷ []) m)

  -- the loop that looks for a line
  pub in_line_more : (from k line : ℕ) (found : Bool) → from ≤ k → found ≡ in_line line (writes_from c from (k - from)) →
      (found || eqb (get_or c.addresses k 0 / 16 * 16) line) ≡ in_line line (writes_from c from (k + 1 - from))
  unfolding in_line
  in_line_more from k line found h e =
      rw (writes_next from k h, in_line_append line (writes_from c from (k - from)) (write_in c k ∷ []), ← e) (ap (λ (b : Bool). found || b) (sym (or_false _)))
    where
      or_false : (b : Bool) → (b || false) ≡ b
      or_false true = refl
      or_false false = refl

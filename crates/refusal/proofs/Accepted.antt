-- What the accepted case of a call knows: number 0 turned into facts.
use Prim.Native.Nat.{ℕ, ◌+◌, ◌*◌, ◌-◌, ◌/◌, ◌%◌, ◌≤◌, ◌<◌}
use mathlib.Core.Path.{◌≡◌, refl, sym, ◌∙◌, ap}
use mathlib.Core.Bool.{Bool, true, false, not, ◌&&◌, ◌||◌, and-true}
use mathlib.Core.List.{List}
use native.Mathlib.Omega.{arith}
use lib.Dec.{eqb, ltb}
use lib.ListN.{length}
use borrow.Author.Tests.{eq-eqb, ne_eqb, eqb-true, eqb-false, ltb-true, ltb-false, le-ltb, not-false}
use Rattle.laws.proofs.Tests.{neither, cond_true, cond_false, same_or}
use Rattle.ranges.specs.declared.Ranges.{Ranges}
use Rattle.ranges.specs.Ranges.{Range, ranges_in, ranges_of, any_bad}
use Rattle.bus.specs.Groups.{widest, bad_width, group_count, answer_count, log_size}
use Rattle.refusal.specs.Refusal.{when, or_else, bad_ram, memory_number, lent_number, bad_answers, argument_number, ram_number, array_number, view_input_number, external_number, ranges_number, kept_number}

-- neither of two numbers is met
pub or_zero : (a b : ℕ) → or_else a b ≡ 0 → (a ≡ 0) × (b ≡ 0)
or_zero a b e =
    same_or _ a 0
    (λ z. (z, sym (cond_true _ _ _ (eq-eqb a 0 z)) ∙ e))
    (λ n. absurd (n (sym (cond_false _ _ _ (ne_eqb a 0 n)) ∙ e)))

-- where the first is not met, the second counts; where it is, it alone
pub zero_or : (a b : ℕ) → a ≡ 0 → or_else a b ≡ b
zero_or a b z = cond_true _ _ _ (eq-eqb a 0 z)

pub first_or : (a b : ℕ) → (a ≡ 0 → ⊥) → or_else a b ≡ a
first_or a b n = cond_false _ _ _ (ne_eqb a 0 n)

-- three numbers in order, however they are grouped
pub or_grouped : (a b c : ℕ) → or_else (or_else a b) c ≡ or_else a (or_else b c)
or_grouped a b c =
    same_or _ a 0
    (λ z. let e = zero_or a b z in let k = zero_or a (or_else b c) z in rw (e, k))
    (λ n. let e = first_or a b n in let k = first_or a (or_else b c) n in rw (e, k) (first_or a c n))

pub when_zero : (b : Bool) (n : ℕ) → 0 < n → when b n ≡ 0 → b ≡ false
when_zero true n h e = absurd (omega arith)
when_zero false n h e = refl

-- 1 and 2
pub record GoodMemory (ram parity : ℕ) : Type 0 where
  pub least : 16 ≤ ram
  pub most : ram ≤ 16777216
  pub whole : ram % 16 ≡ 0
  pub bits : parity ≡ ram / 4

-- 1 alone
ram_accepted : (ram : ℕ) → ram_number ram ≡ 0 → (16 ≤ ram) × (ram ≤ 16777216) × (ram % 16 ≡ 0)
ram_accepted ram e =
    let r = when_zero (bad_ram ram) 1 (omega arith) e in
    let a = neither (ltb ram 16 || ltb 16777216 ram) _ r in
    let b = neither (ltb ram 16) (ltb 16777216 ram) a.0 in
    (ltb-false ram 16 b.0, ltb-false 16777216 ram b.1, eqb-true (ram % 16) 0 (not-false _ a.1))

pub memory_accepted : (ram parity : ℕ) → memory_number ram parity ≡ 0 → GoodMemory ram parity
unfolding memory_number
memory_accepted ram parity e =
    let p = or_zero (ram_number ram) _ e in
    let r = ram_accepted ram p.0 in
    let q = when_zero (not (eqb parity (ram / 4))) 2 (omega arith) p.1 in
    record { least = r.0; most = r.1; whole = r.2; bits = eqb-true parity (ram / 4) (not-false _ q) }

-- 3
array_accepted : (array : ℕ) → array_number array ≡ 0 → array ≡ 8192
array_accepted array e = eqb-true array 8192 (not-false _ (when_zero (not (eqb array 8192)) 3 (omega arith) e))

pub lent_accepted : (ram parity array : ℕ) → lent_number ram parity array ≡ 0 → GoodMemory ram parity × (array ≡ 8192)
unfolding lent_number
lent_accepted ram parity array e =
    let p = or_zero (memory_number ram parity) _ e in
    (memory_accepted ram parity p.0, array_accepted array p.1)

-- 1, 3 and 5 of a view
pub record GoodView (ram array address : ℕ) : Type 0 where
  pub whole : ram % 16 ≡ 0
  pub array_length : array ≡ 8192
  pub inside : address < ram

pub view_accepted : (ram array address : ℕ) → view_input_number ram array address ≡ 0 → GoodView ram array address
unfolding view_input_number
view_accepted ram array address e =
    let p = or_zero (ram_number ram) _ e in
    let q = or_zero (array_number array) _ p.1 in
    record {
      whole = (ram_accepted ram p.0).2;
      array_length = array_accepted array q.0;
      inside = ltb-true address ram (not-false _ (when_zero (not (ltb address ram)) 5 (omega arith) q.1));
    }

-- 4 to 7
pub record GoodArguments (ram address width answers log : ℕ) : Type 0 where
  pub some : 0 < width
  pub within : width ≤ widest
  pub fits : width ≤ 4 * group_count - address % 4
  pub inside : address + width ≤ ram
  pub served : answers ≡ answer_count
  pub records : log_size ≤ log

-- a number is this one, or one of the others
one_or : (Good : Type 0) (n k : ℕ) (others : Bool) → (n ≡ k → Good) → (others ≡ false → Good) → (others && not (eqb n k)) ≡ false → Good
one_or Good n k others here left e =
    same_or Good n k here (λ d. left (sym (and-true others) ∙ sym (ap (λ (b : Bool). others && not b) (ne_eqb n k d)) ∙ e))

width_good : (width : ℕ) → bad_width width ≡ false → (0 < width) × (width ≤ widest)
width_good width =
    let Good = (0 < width) × (width ≤ widest) in
    one_or Good width widest _ (λ z. (omega arith, omega arith))
    (one_or Good width 4 _ (λ z. (omega arith, omega arith))
    (one_or Good width 2 _ (λ z. (omega arith, omega arith))
    (λ e. let z = eqb-true width 1 (not-false _ e) in (omega arith, omega arith))))

pub arguments_accepted : (ram address width : ℕ) (answers : List ℕ) (log : ℕ) → argument_number ram address width answers log ≡ 0 →
    GoodArguments ram address width (length answers) log
unfolding argument_number
arguments_accepted ram address width answers log e =
    let p = or_zero (when (bad_width width) 4) _ e in
    let q = or_zero (when (ltb ram (address + width)) 5) _ p.1 in
    let r = or_zero (when (bad_answers answers) 6) _ q.1 in
    let w = width_good width (when_zero (bad_width width) 4 (omega arith) p.0) in
    let a = neither (not (eqb (length answers) answer_count)) _ (when_zero (bad_answers answers) 6 (omega arith) r.0) in
    record {
      some = w.0;
      within = w.1;
      fits = omega arith;
      inside = ltb-false ram (address + width) (when_zero (ltb ram (address + width)) 5 (omega arith) q.0);
      served = eqb-true (length answers) answer_count (not-false _ a.0);
      records = ltb-false log log_size (when_zero (ltb log log_size) 7 (omega arith) r.1);
    }

-- 10
pub record GoodExternal (ram address n : ℕ) : Type 0 where
  pub some : 0 < n
  pub most : n ≤ 16
  pub line : address % 16 + n ≤ 16
  pub inside : address + n ≤ ram

pub external_accepted : (ram address n : ℕ) → external_number ram address n ≡ 0 → GoodExternal ram address n
unfolding external_number
external_accepted ram address n e =
    let z = when_zero _ 10 (omega arith) e in
    let a = neither (eqb n 0 || ltb 16 n || ltb 16 (address % 16 + n)) (ltb ram (address + n)) z in
    let b = neither (eqb n 0 || ltb 16 n) (ltb 16 (address % 16 + n)) a.0 in
    let c = neither (eqb n 0) (ltb 16 n) b.0 in
    record {
      some = some_of n c.0;
      most = ltb-false 16 n c.1;
      line = ltb-false 16 (address % 16 + n) b.1;
      inside = ltb-false ram (address + n) a.1;
    }
  where
    some_of : (n : ℕ) → eqb n 0 ≡ false → 0 < n
    some_of n h = same_or _ n 0 (λ z. absurd (eqb-false n 0 h z)) (λ k. omega arith)

-- 37 and 38
pub ranges_accepted : (ram : ℕ) (rs : List Range) (count : ℕ) → ranges_number ram rs count ≡ 0 → (any_bad ram rs ≡ false) × (count ≤ 8)
unfolding ranges_number
ranges_accepted ram rs count e =
    let p = or_zero (when (any_bad ram rs) 37) (when (ltb 8 count) 38) e in
    (when_zero (any_bad ram rs) 37 (omega arith) p.0, ltb-false 8 count (when_zero (ltb 8 count) 38 (omega arith) p.1))

pub ranges_good : (ram : ℕ) (rs : List Range) (count : ℕ) → any_bad ram rs ≡ false → count ≤ 8 → ranges_number ram rs count ≡ 0
unfolding ranges_number
ranges_good ram rs count e h = rw (e, le-ltb 8 count h)

-- a directory that keeps no range meets neither, by any RAM
pub none_kept : (ram : ℕ) (kept : Ranges) → kept.count ≡ 0 → 0 ≡ kept_number ram kept
unfolding any_bad ranges_of ranges_in
none_kept ram kept z = sym (ranges_good ram (ranges_of kept) kept.count (rw z) (omega arith))

pub none_first : (ram : ℕ) (kept : Ranges) (n later : ℕ) → kept.count ≡ 0 → n ≡ later → n ≡ or_else (kept_number ram kept) later
none_first ram kept n later z e = rw (← none_kept ram kept z) e

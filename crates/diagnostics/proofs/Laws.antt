-- The test calls by their number: what number 0 tells, and what each call is where it is done and where it is refused.
use Prim.Native.Nat.{ℕ, ◌≤◌, ◌<◌}
use mathlib.Core.Path.{◌≡◌, refl, sym, ◌∙◌, ap}
use mathlib.Core.Bool.{Bool, true, false, not}
use mathlib.Core.List.{List, []}
use mathlib.Core.Logic.{◌⊎◌, inl, inr}
use native.Mathlib.Omega.{arith}
use lib.Dec.{eqb, ltb}
use lib.ListN.{length}
use lib.Seq.{sets}
use borrow.Author.Tests.{eq-eqb, ne_eqb, eqb-true, ltb-false, not-false}
use Rattle.laws.proofs.Tests.{neither, cond_true, cond_false, same_or}
use Rattle.ways.specs.Address.{line_offset}
use Rattle.directory.specs.declared.steps.Directory.{Directory}
use Rattle.directory.specs.Outcome.{outcome}
use Rattle.directory.specs.Steps.{with_line}
use Rattle.words.specs.Bytes.{bytes_at}
use Rattle.refusal.specs.Call.{State, after, refused}
use Rattle.refusal.specs.Refusal.{when, or_else}
use Rattle.diagnostics.specs.declared.in_place.TestLine.{TestLine}
use Rattle.diagnostics.specs.Diagnostics.{test_number, outside_sets, test_write_number, test_read_number, test_write_call, line_read, nothing_read, test_read_line}

-- number 0 of a test call

none_met : (bad cd outside : Bool) → or_else (when bad 3) (or_else (when (not cd) 31) (when outside 32)) ≡ 0 → (bad ≡ false) × (cd ≡ true) × (outside ≡ false)
none_met true cd outside e = absurd (omega arith)
none_met false false outside e = absurd (omega arith)
none_met false true true e = absurd (omega arith)
none_met false true false e = (refl, refl, refl)

module _ (array : ℕ) (cd outside : Bool) (e : test_number array cd outside ≡ 0) where
  met : (not (eqb array 8192) ≡ false) × (cd ≡ true) × (outside ≡ false)
  unfolding test_number
  met = none_met (not (eqb array 8192)) cd outside e

  pub test_array : array ≡ 8192
  test_array = eqb-true array 8192 (not-false _ met.0)

  pub test_disabled : cd ≡ true
  test_disabled = met.1

  inside : outside ≡ false
  inside = met.2

within_sets : (set way : ℕ) → outside_sets set way ≡ false → (set < 128) × (way < 4)
within_sets set way e =
    let n = neither (ltb 127 set) (ltb 3 way) e in
    let s = ltb-false 127 set n.0 in
    let w = ltb-false 3 way n.1 in
    (omega arith, omega arith)

pub test_write_place : (array : ℕ) (cd : Bool) (set way tag : ℕ) → test_write_number array cd set way tag ≡ 0 → (set < 128) × (way < 4) × (tag ≤ 2097151)
test_write_place array cd set way tag e =
    let n = neither (outside_sets set way) (ltb 2097151 tag) (inside array cd _ e) in
    let p = within_sets set way n.0 in
    (p.0, p.1, ltb-false 2097151 tag n.1)

pub test_read_place : (array : ℕ) (cd : Bool) (set way : ℕ) → test_read_number array cd set way ≡ 0 → (set < 128) × (way < 4)
test_read_place array cd set way e = within_sets set way (inside array cd _ e)

-- with a data array of the right length only 31 and 32 arise

arises : (cd outside : Bool) → let n = or_else (when (not cd) 31) (when outside 32) in (n ≡ 0) ⊎ ((31 ≤ n) × (n ≤ 32))
arises false outside = inr (omega arith, omega arith)
arises true true = inr (omega arith, omega arith)
arises true false = inl refl

pub test_number_arises : (array : ℕ) (cd outside : Bool) → array ≡ 8192 → let n = test_number array cd outside in (n ≡ 0) ⊎ ((31 ≤ n) × (n ≤ 32))
unfolding test_number
test_number_arises array cd outside e = rw e (arises cd outside)

-- a test write by its number

module _ (s : State) (set way tag : ℕ) (mark : Bool) (bytes : List ℕ) where
  abbrev write_number_lem : ℕ
  write_number_lem = test_write_number (length s.array) s.directory.cd set way tag

  pub test_write_done : write_number_lem ≡ 0 →
      test_write_call s set way tag mark bytes ≡ after (outcome (with_line s.directory set way tag mark) 0 0 0) s.memory (sets s.array (line_offset set way) bytes) []
  unfolding test_write_call
  test_write_done e = cond_true _ _ _ (eq-eqb _ 0 e)

  pub test_write_refused : (write_number_lem ≡ 0 → ⊥) → test_write_call s set way tag mark bytes ≡ refused write_number_lem s []
  unfolding test_write_call
  test_write_refused n = cond_false _ _ _ (ne_eqb _ 0 n)

-- a test read by its number

module _ (d : Directory) (array : List ℕ) (set way : ℕ) where
  abbrev read_number_lem : ℕ
  read_number_lem = test_read_number (length array) d.cd set way

  pub test_read_done : read_number_lem ≡ 0 → test_read_line d array set way ≡ line_read d set way (bytes_at array (line_offset set way) 16)
  unfolding test_read_line
  test_read_done e = cond_true _ _ _ (eq-eqb _ 0 e)

  pub test_read_refused : (read_number_lem ≡ 0 → ⊥) → test_read_line d array set way ≡ nothing_read read_number_lem
  unfolding test_read_line
  test_read_refused n = cond_false _ _ _ (ne_eqb _ 0 n)

  pub test_read_number_lem : (test_read_line d array set way).number ≡ read_number_lem
  test_read_number_lem =
      same_or _ read_number_lem 0
      (λ z. ap (λ (r : TestLine). r.number) (test_read_done z) ∙ sym z)
      (λ n. ap (λ (r : TestLine). r.number) (test_read_refused n))

-- The test calls by the number that the code has, and by what it stored and copied.
use Prim.Native.Nat.{ℕ, ◌<◌}
use mathlib.Core.Path.{◌≡◌, refl, sym, ◌∙◌, ap}
use mathlib.Core.Bool.{Bool}
use mathlib.Core.List.{List, []}
use native.Mathlib.Omega.{arith}
use lib.ListN.{length, replicate}
use lib.Seq.{sets}
use Rattle.ways.specs.Address.{line_index, line_offset}
use Rattle.directory.specs.declared.steps.Directory.{Directory}
use Rattle.directory.specs.Outcome.{outcome}
use Rattle.directory.specs.Steps.{with_line}
use Rattle.words.specs.Bytes.{bytes_at}
use Rattle.words.proofs.Places.{bytes_all}
use Rattle.refusal.specs.Call.{State, after, refused}
use Rattle.diagnostics.specs.Diagnostics.{test_write_number, test_read_number, test_write_call, line_read, nothing_read, test_read_line}
use Rattle.diagnostics.proofs.Laws.{test_array, test_write_place, test_read_place, test_write_done, test_write_refused, test_read_done, test_read_refused}

-- where a line lies that is in the sets
pub record Placed (array set way : ℕ) : Type 0 where
  pub whole : array ≡ 8192
  pub set_below : set < 128
  pub way_below : way < 4
  pub index : line_index set way < 512

placed : (array set way : ℕ) → array ≡ 8192 → set < 128 → way < 4 → Placed array set way
placed array set way e sl wl = record { whole = e; set_below = sl; way_below = wl; index = omega arith }

pub write_placed : (array : ℕ) (cd : Bool) (set way tag n : ℕ) → n ≡ test_write_number array cd set way tag → n ≡ 0 → Placed array set way
write_placed array cd set way tag n e z =
    let p = test_write_place array cd set way tag (sym e ∙ z) in
    placed array set way (test_array array cd _ (sym e ∙ z)) p.0 p.1

pub read_placed : (array : ℕ) (cd : Bool) (set way n : ℕ) → n ≡ test_read_number array cd set way → n ≡ 0 → Placed array set way
read_placed array cd set way n e z =
    let p = test_read_place array cd set way (sym e ∙ z) in
    placed array set way (test_array array cd _ (sym e ∙ z)) p.0 p.1

module _ (s : State) (set way tag : ℕ) (mark : Bool) (bytes : List ℕ) (n : ℕ) (en : n ≡ test_write_number (length s.array) s.directory.cd set way tag) where
  pub write_refused : (n ≡ 0 → ⊥) → refused n s [] ≡ test_write_call s set way tag mark bytes
  write_refused h = ap (λ (k : ℕ). refused k s []) en ∙ sym (test_write_refused s set way tag mark bytes (λ z. h (en ∙ z)))

  -- all of the sixteen bytes are copied
  pub write_made : n ≡ 0 → length bytes ≡ 16 → (d : Directory) → d ≡ with_line s.directory set way tag mark →
      (at : ℕ) → at ≡ line_offset set way → (array : List ℕ) → array ≡ sets s.array at (bytes_at bytes 0 16) →
      after (outcome d 0 0 0) s.memory array [] ≡ test_write_call s set way tag mark bytes
  write_made z whole d ed at et array ea =
      let copied : bytes_at bytes 0 16 ≡ bytes = ap (bytes_at bytes 0) (sym whole) ∙ bytes_all bytes in
      ap (λ (x : Directory). after (outcome x 0 0 0) s.memory array []) ed
      ∙ ap (λ (x : List ℕ). after (outcome (with_line s.directory set way tag mark) 0 0 0) s.memory x []) (ea ∙ rw (et, copied))
      ∙ sym (test_write_done s set way tag mark bytes (sym en ∙ z))

-- sixteen bytes copied over sixteen others
over_zeros : (l : List ℕ) (i : ℕ) → sets (replicate 16 0) 0 (bytes_at l i 16) ≡ bytes_at l i 16
unfolding bytes_at
over_zeros l i = refl

module _ (d : Directory) (array : List ℕ) (set way n : ℕ) (en : n ≡ test_read_number (length array) d.cd set way) where
  pub read_refused : (n ≡ 0 → ⊥) → nothing_read n ≡ test_read_line d array set way
  read_refused h = ap nothing_read en ∙ sym (test_read_refused d array set way (λ z. h (en ∙ z)))

  pub read_made : n ≡ 0 → (at : ℕ) → at ≡ line_offset set way → (bytes : List ℕ) → bytes ≡ sets (replicate 16 0) 0 (bytes_at array at 16) →
      line_read d set way bytes ≡ test_read_line d array set way
  read_made z at et bytes e = ap (line_read d set way) (e ∙ over_zeros array at ∙ rw et) ∙ sym (test_read_done d array set way (sym en ∙ z))

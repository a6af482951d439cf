-- Laws of the cursor over the doublewords of an access: what the next doubleword needs, and what is left after it.
use Prim.Native.Nat.{ℕ, ◌+◌, ◌*◌, ◌-◌, ◌%◌, ◌≤◌, ◌<◌, min}
use mathlib.Core.Path.{◌≡◌, refl}
use native.Mathlib.Omega.{arith}
use native.Mathlib.Decide.{dec_le}
use Rattle.bus.specs.Groups.{group_size, group_count}
use Rattle.doubleword.specs.declared.change.Wanted.{Wanted}
use Rattle.doubleword.specs.declared.cursor.AccessCursor.{AccessCursor}
use Rattle.doubleword.specs.DoublewordCode.{DoublewordNeeds}
use Rattle.doubleword.specs.Cursor.{count_of, wanted_of, access_next, AccessNeeds, NextNeeds}

-- the bytes left fit into the doublewords left: all go into this one, or this one ends at a boundary
all_here : (left room c : ℕ) → c ≡ min left room → left ≤ room → left - c ≡ 0
all_here left room c e h = omega arith

none_fits : (x y : ℕ) → x ≡ 0 → x ≤ y
none_fits x y e = omega arith

some_here : (left room c : ℕ) → c ≡ min left room → room < left → c ≡ room
some_here left room c e h = omega arith

boundary : (a c : ℕ) → c ≡ 4 - a % 4 → (a + c) % 4 ≡ 0
boundary a c e = omega arith

fewer : (left b g c : ℕ) → b < 4 → c ≡ 4 - b → left ≤ 4 * (group_count - g) - b → g < group_count → left - c ≤ 4 * (group_count - (g + 1))
fewer left b g c bl e l h = omega arith

fits_next : (left a g c : ℕ) → c ≡ min left (4 - a % 4) → left ≤ 4 * (group_count - g) - a % 4 → g < group_count → left - c ≤ 4 * (group_count - (g + 1)) - (a + c) % 4
fits_next left a g c e l h =
    elim (dec_le left (4 - a % 4)) [
      | yes p ↦ none_fits (left - c) _ (all_here left (4 - a % 4) c e p)
      | no p ↦
          let k = some_here left (4 - a % 4) c e (over left (4 - a % 4) p) in
          let f = boundary a c k in
          ends (left - c) (4 * (group_count - (g + 1))) ((a + c) % 4) f (fewer left (a % 4) g c (omega arith) k l h)
    ]
  where
    over : (x y : ℕ) → (x ≤ y → ⊥) → y < x
    over x y n = omega arith

    ends : (x y z : ℕ) → z ≡ 0 → x ≤ y → x ≤ y - z
    ends x y z e h = omega arith

-- buffers of the same lengths
pub needs_lengths : {cursor : AccessCursor} {ram parity array answers log ram' parity' array' log' : ℕ} →
    ram' ≡ ram → parity' ≡ parity → array' ≡ array → log' ≡ log →
    AccessNeeds cursor ram parity array answers log → AccessNeeds cursor ram' parity' array' answers log'
needs_lengths er ep ea el z = rw (er, ep, ea, el) z

-- what the next doubleword needs, and what is left after it
module _ (cursor : AccessCursor) (ram parity array answers log : ℕ) (z : AccessNeeds cursor ram parity array answers log) (some : 0 < cursor.left) where
  pub needs_more : cursor.group < group_count
  needs_more = omega (arith, z.fits, z.last)

  needs_doubleword : (given : ℕ) → given ≡ group_size → DoublewordNeeds (wanted_of cursor) cursor.cycles ram parity given log
  needs_doubleword given e =
      record {
        aligned = omega arith;
        inside = omega (arith, z.inside, z.whole);
        small = z.small;
        bits = omega (arith, z.bits, z.whole);
        some = omega arith;
        lanes = omega arith;
        line = omega arith;
        served = e;
        records = omega (arith, z.made, z.records, needs_more);
        few = omega (arith, z.made, needs_more);
      }

  needs_next : (n : ℕ) → n ≤ group_size → AccessNeeds (access_next cursor (count_of cursor) n) ram parity array answers log
  needs_next n l =
      record {
        inside = omega (arith, z.inside);
        whole = z.whole;
        small = z.small;
        bits = z.bits;
        array_length = z.array_length;
        served = z.served;
        records = z.records;
        fits = fits_next cursor.left cursor.address cursor.group _ refl z.fits needs_more;
        last = omega (arith, needs_more);
        made = omega (arith, z.made);
        operands = omega (arith, z.operands);
      }

-- the cursor after a doubleword
module _ (cursor u : AccessCursor) (count n : ℕ) (some : 0 < cursor.left) (ec : count ≡ count_of cursor) where
  pub cursor_less : u ≡ access_next cursor count n → u.left < cursor.left
  cursor_less eu = rw (eu, ec) (omega arith)

  pub cursor_needs : u ≡ access_next cursor count n → (ram parity array answers log : ℕ) → n ≤ group_size → AccessNeeds cursor ram parity array answers log → AccessNeeds u ram parity array answers log
  cursor_needs eu ram parity array answers log l z = rw (eu, ec) (needs_next cursor ram parity array answers log z some n l)

-- what the code's next cursor needs
pub cursor_next : (cursor : AccessCursor) (count n ram parity array answers log : ℕ) → count ≡ count_of cursor → n ≤ group_size →
    AccessNeeds cursor ram parity array answers log →
    NextNeeds cursor count n
cursor_next cursor count n ram parity array answers log ec l z =
    record {
      some = rw ec (omega arith);
      below = omega (arith, z.inside, z.small);
      bytes = omega (arith, z.operands);
      groups = omega (arith, z.last);
      places = omega (arith, z.operands);
      made = omega (arith, z.made, z.last);
      more = omega arith;
    }

-- what the next doubleword's code needs
pub cursor_doubleword : (cursor : AccessCursor) (w : Wanted) (ram parity array answers log₀ log given : ℕ) → 0 < cursor.left → w ≡ wanted_of cursor →
    AccessNeeds cursor ram parity array answers log₀ → log ≡ log₀ → given ≡ group_size →
    DoublewordNeeds w cursor.cycles ram parity given log
cursor_doubleword cursor w ram parity array answers log₀ log given some ew z el eg =
    rw (ew, el) (needs_doubleword cursor ram parity array answers log₀ z some given eg)

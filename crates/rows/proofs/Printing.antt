-- Laws of text put into a buffer: digits, rows, the header.
use Prim.Native.Nat.{ℕ, zero, suc, ◌+◌, ◌/◌, ◌%◌, ◌≤◌, ◌<◌, min}
use mathlib.Core.Path.{◌≡◌, refl, sym, ◌∙◌}
use mathlib.Core.List.{List, [], ◌∷◌, ◌++◌}
use native.Mathlib.Numerals.{add-one}
use native.Mathlib.Omega.{arith}
use lib.ListN.{length, drop, get_or, set, length-append}
use lib.Seq.{sets, drop-cons, set_out}
use Rattle.laws.proofs.Tests.{same_or}
use Rattle.laws.proofs.Lists.{sets_append}
use Rattle.fields.specs.Fields.{tab, newline}
use Rattle.rows.specs.Decimal.{decimal}
use Rattle.rows.specs.Row.{column, header, row_of}
use Rattle.rows.proofs.Decimal.{decimal_below, decimal_above}

-- two bytes put in, the one that stands behind first
set_swap : (l : List ℕ) (i j a b : ℕ) → i < j → set (set l j b) i a ≡ set (set l i a) j b
set_swap [] i j a b h = refl
set_swap (x ∷ l) i zero a b h = absurd (omega (arith, h))
set_swap (x ∷ l) zero (suc j) a b h = refl
set_swap (x ∷ l) (suc i) (suc j) a b h = rw (set_swap l i j a b (omega (arith, h)))

-- a byte put in behind a text that is put in later
set_behind : (out : List ℕ) (at : ℕ) (text : List ℕ) (byte : ℕ) → sets (set out (at + length text) byte) at text ≡ set (sets out at text) (at + length text) byte
set_behind out at [] byte = refl
set_behind out at (x ∷ text) byte =
    let e : at + suc (length text) ≡ suc at + length text = omega arith in
    rw (e, set_swap out at (suc at + length text) x byte (omega arith)) (set_behind (set out at x) (suc at) text byte)

-- the last digit of a number put in before the others, and a number of one digit
pub last_first : (out : List ℕ) (at n : ℕ) → 10 ≤ n → sets (set out (at + length (decimal (n / 10))) (48 + n % 10)) at (decimal (n / 10)) ≡ sets out at (decimal n)
last_first out at n h =
    let last = (48 + n % 10) ∷ [] in
    rw (decimal_above n h) (set_behind out at (decimal (n / 10)) (48 + n % 10) ∙ sym (sets_append out at (decimal (n / 10)) last))

pub digit_only : (out : List ℕ) (at n : ℕ) → n < 10 → set out at (48 + n) ≡ sets out at (decimal n)
digit_only out at n h = rw (decimal_below n h)

-- a text and the byte after it
field_put : (out : List ℕ) (at : ℕ) (text : List ℕ) (byte : ℕ) (rest : List ℕ) → sets out at (text ++ byte ∷ rest) ≡ sets (set (sets out at text) (at + length text) byte) (at + length text + 1) rest
field_put out at text byte rest = sets_append out at text (byte ∷ rest) ∙ rw (add-one (at + length text))

next_put : (out : List ℕ) (at : ℕ) (text : List ℕ) (byte : ℕ) (rest : List ℕ) (next : ℕ) (o p : List ℕ)
    → next ≡ at + length text
    → o ≡ sets out at text
    → p ≡ set o next byte
    → sets out at (text ++ byte ∷ rest) ≡ sets p (next + 1) rest
next_put out at text byte rest next o p en eo ep = rw (ep, eo, en) (field_put out at text byte rest)

field_length : (at : ℕ) (text : List ℕ) (byte : ℕ) (rest : List ℕ) → at + length (text ++ byte ∷ rest) ≡ at + length text + 1 + length rest
field_length at text byte rest = rw (length-append text (byte ∷ rest)) (omega arith)

-- the four numbers of a row, each with the byte after it, put one after the other
pub row_put : (out : List ℕ) (at event number value cycles : ℕ) (a b c d : ℕ) (o₁ p₁ o₂ p₂ o₃ p₃ o₄ p₄ : List ℕ)
    → a ≡ at + length (decimal event)
    → o₁ ≡ sets out at (decimal event)
    → p₁ ≡ set o₁ a tab
    → b ≡ a + 1 + length (decimal number)
    → o₂ ≡ sets p₁ (a + 1) (decimal number)
    → p₂ ≡ set o₂ b tab
    → c ≡ b + 1 + length (decimal value)
    → o₃ ≡ sets p₂ (b + 1) (decimal value)
    → p₃ ≡ set o₃ c tab
    → d ≡ c + 1 + length (decimal cycles)
    → o₄ ≡ sets p₃ (c + 1) (decimal cycles)
    → p₄ ≡ set o₄ d newline
    → (d + 1 ≡ at + length (row_of event number value cycles)) × (p₄ ≡ sets out at (row_of event number value cycles))
unfolding row_of
row_put out at event number value cycles a b c d o₁ p₁ o₂ p₂ o₃ p₃ o₄ p₄ ea eo₁ ep₁ eb eo₂ ep₂ ec eo₃ ep₃ ed eo₄ ep₄ =
    let r₄ = column cycles newline [] in
    let r₃ = column value tab r₄ in
    let r₂ = column number tab r₃ in (
      omega (arith, ea, eb, ec, ed, field_length at (decimal event) tab r₂, field_length (a + 1) (decimal number) tab r₃, field_length (b + 1) (decimal value) tab r₄, field_length (c + 1) (decimal cycles) newline []),
      sym
          (next_put out at (decimal event) tab r₂ a o₁ p₁ ea eo₁ ep₁
          ∙ next_put p₁ (a + 1) (decimal number) tab r₃ b o₂ p₂ eb eo₂ ep₂
          ∙ next_put p₂ (b + 1) (decimal value) tab r₄ c o₃ p₃ ec eo₃ ep₃
          ∙ next_put p₃ (c + 1) (decimal cycles) newline [] d o₄ p₄ ed eo₄ ep₄),
    )

-- a text beyond the end is lost
pub put_beyond : (out : List ℕ) (at : ℕ) (text : List ℕ) → length out ≤ at → sets out at text ≡ out
put_beyond out at [] h = refl
put_beyond out at (x ∷ text) h = rw (set_out out at x h) (put_beyond out (suc at) text (omega (arith, h)))

-- how long the header is
pub header_length : length header ≡ 26
unfolding header
header_length = refl

-- a text goes on: the k-th byte is put, the others are left to put
pub text_next : (out text : List ℕ) (at k : ℕ) → k < length text → sets (set out (at + k) (get_or text k 0)) (at + (k + 1)) (drop (k + 1) text) ≡ sets out (at + k) (drop k text)
text_next out text at k h =
    let e : at + (k + 1) ≡ suc (at + k) = omega arith in
    rw (e, add-one k, drop-cons text k 0 h)

-- a place beyond the end is as good as the end
pub put_within : (out text : List ℕ) (at from : ℕ) → from ≡ min at (length out) → sets out from text ≡ sets out at text
put_within out text at from e =
    same_or _ from at
    (λ same. rw same)
    (λ other. put_beyond out from text (omega (arith, e, other)) ∙ sym (put_beyond out at text (omega (arith, e, other))))

-- The doublewords of an access: each is proper, and together they are the access's bytes.
use Prim.Native.Nat.{ℕ, zero, suc, ◌+◌, ◌*◌, ◌-◌, ◌/◌, ◌%◌, ◌≤◌, ◌<◌, min}
use mathlib.Core.Path.{◌≡◌, refl, sym, ◌∙◌, ap}
use mathlib.Core.List.{List, [], ◌∷◌, ◌++◌}
use native.Mathlib.Omega.{arith}
use lib.ListN.{length, get_or, drop, length-take, length-drop}
use Rattle.words.specs.Bytes.{bytes_at}
use Rattle.ranges.specs.Ranges.{Range}
use Rattle.memory.specs.Parity.{Memory, written}
use Rattle.bus.specs.Bus.{memory_after, after_cycles}
use Rattle.bus.specs.Groups.{group_size, group_count}
use Rattle.doubleword.specs.Doubleword.{Doubleword, doublewords_of, plain_cycles}
use Rattle.writing.specs.Writing.{write_buffer}
use Rattle.words.proofs.Places.{bytes_length}
use Rattle.words.proofs.Spans.{bytes_split}
use Rattle.cycles.proofs.Brought.{OneDoubleword}
use Rattle.cycles.proofs.Stored.{wanted_written}
use Rattle.refusal.proofs.Accepted.{GoodArguments}
use Rattle.calls.specs.Plain.{replaced, bytes_by}
use Rattle.calls.proofs.Replaced.{replaced_append}

-- a doubleword of an accepted access, in a memory of so many bytes
pub record Proper (size : ℕ) (w : Doubleword) : Type 0 where
  pub aligned : w.line % 16 ≡ 0
  pub within : OneDoubleword w.wanted
  pub inside : w.line + 16 ≤ size
  pub enough : group_size ≤ length w.answers

abbrev pub EachProper : ℕ → List Doubleword → Type 0
EachProper size [] = Unit {0}
EachProper size (w ∷ ws) = Proper size w × EachProper size ws

-- its address, and the bytes of an operand that it is given
abbrev pub own_address : Doubleword → ℕ
own_address w = w.line + w.wanted.from / 4 * 4

abbrev pub given_of : List ℕ → Doubleword → List ℕ
given_of operand w = bytes_at operand w.place w.wanted.count

-- the wanted bytes of doublewords, each by the same rule
abbrev pub all_by : (ℕ → ℕ) → List Doubleword → List ℕ
all_by byte [] = []
all_by byte (w ∷ ws) = bytes_by byte (w.line + w.wanted.from) w.wanted.count ++ all_by byte ws

-- memory with what doublewords are given
abbrev pub memory_written : List Range → List ℕ → List ℕ → Doubleword → List ℕ
memory_written rom operand m w = replaced rom m (w.line + w.wanted.from) (given_of operand w)

abbrev pub all_written : List Range → List ℕ → List ℕ → List Doubleword → List ℕ
all_written rom operand m [] = m
all_written rom operand m (w ∷ ws) = all_written rom operand (memory_written rom operand m w) ws

-- the address of each of its bytes
pub in_own : (size : ℕ) (w : Doubleword) → Proper size w → (o : ℕ) → o < w.wanted.count → (w.line + w.wanted.from + o) / 4 * 4 ≡ own_address w
in_own size w p o l = let a = p.aligned in let b = p.within.lanes in omega arith

-- what a doubleword is given lies in its line, and write cycles write just that
module _ (operand : List ℕ) (size : ℕ) (w : Doubleword) (ok : Proper size w) where
  abbrev x : List ℕ
  x = given_of operand w

  given_length : length x ≡ w.wanted.count
  given_length = bytes_length operand w.place w.wanted.count

  pub given_in_line : w.wanted.from + length x ≤ 16
  given_in_line = rw given_length ok.within.line

  pub given_inside : w.line + w.wanted.from + length x ≤ size
  given_inside = omega (arith, given_in_line, ok.inside)

  pub given_written : (rom : List Range) (m : Memory) →
      after_cycles (memory_after rom (write_buffer operand w) w.line) (plain_cycles w) m ≡ written rom m (w.line + w.wanted.from) x
  given_written rom m = wanted_written rom x w.line w.wanted ok.within given_length w.answers ok.enough m

doublewords_proper : (g : ℕ) (xs : List ℕ) (a n place size : ℕ) → length xs ≡ group_size * g → n ≤ 4 * g - a % 4 → a + n ≤ size → size % 16 ≡ 0 → EachProper size (doublewords_of g xs a n place)
unfolding doublewords_of
doublewords_proper zero xs a n place size l b i z = tt
doublewords_proper (suc g) xs a zero place size l b i z = tt
doublewords_proper (suc g) xs a (suc n) place size l b i z = (
  record {
    aligned = omega arith;
    within = record { some = omega arith; lanes = omega arith; line = omega arith };
    inside = omega arith;
    enough = rw (length-take group_size xs) (omega arith);
  },
  doublewords_proper g (drop group_size xs) (a + min (suc n) (4 - a % 4)) (suc n - min (suc n) (4 - a % 4)) (place + min (suc n) (4 - a % 4)) size (rw (length-drop group_size xs) (omega arith)) (omega arith) (omega arith) z,
)

-- those of an accepted access
pub access_proper : (size a w : ℕ) (xs : List ℕ) (log : ℕ) → GoodArguments size a w (length xs) log → size % 16 ≡ 0 → EachProper size (doublewords_of group_count xs a w 0)
access_proper size a w xs log k whole =
    doublewords_proper group_count xs a w 0 size k.served k.fits k.inside whole

-- bytes by a rule, parted, and by two rules that agree on them
bytes_by_split : (byte : ℕ → ℕ) (a m n : ℕ) → bytes_by byte a (m + n) ≡ bytes_by byte a m ++ bytes_by byte (a + m) n
unfolding bytes_by
bytes_by_split byte a zero n = let e : a + 0 ≡ a = omega arith in let f : 0 + n ≡ n = omega arith in rw (e, f)
bytes_by_split byte a (suc m) n =
    let e : a + suc m ≡ suc a + m = omega arith in
    let f : suc m + n ≡ suc (m + n) = omega arith in
    rw (e, f, bytes_by_split byte (suc a) m n)

pub bytes_by_same : (f g : ℕ → ℕ) (a n : ℕ) → ((o : ℕ) → o < n → f (a + o) ≡ g (a + o)) → bytes_by f a n ≡ bytes_by g a n
unfolding bytes_by
bytes_by_same f g a zero h = refl
bytes_by_same f g a (suc n) h =
    let e : f a ≡ g a = let z : a + 0 ≡ a = omega arith in rw z at (h 0 (omega arith)) in
    rw (e, bytes_by_same f g (suc a) n (λ o l. let z : a + suc o ≡ suc a + o = omega arith in rw z at (h (suc o) (omega arith))))

pub bytes_by_at : (l : List ℕ) (f : ℕ → ℕ) (i a n : ℕ) → ((o : ℕ) → o < n → get_or l (i + o) 0 ≡ f (a + o)) → bytes_at l i n ≡ bytes_by f a n
unfolding bytes_by bytes_at
bytes_by_at l f i a zero h = refl
bytes_by_at l f i a (suc n) h =
    let e : get_or l i 0 ≡ f a = let y : i + 0 ≡ i = omega arith in let z : a + 0 ≡ a = omega arith in rw (y, z) at (h 0 (omega arith)) in
    rw (
      e,
      bytes_by_at l f (suc i) (suc a) n (λ o k.
          let y : i + suc o ≡ suc i + o = omega arith in
          let z : a + suc o ≡ suc a + o = omega arith in
          rw (y, z) at (h (suc o) (omega arith))),
    )

-- those of an access are its bytes
pub doublewords_by : (g : ℕ) (byte : ℕ → ℕ) (xs : List ℕ) (a n place : ℕ) → n ≤ 4 * g - a % 4 → all_by byte (doublewords_of g xs a n place) ≡ bytes_by byte a n
unfolding doublewords_of bytes_by
doublewords_by zero byte xs a n place b = let e : n ≡ 0 = omega arith in rw e
doublewords_by (suc g) byte xs a zero place b = refl
doublewords_by (suc g) byte xs a (suc n) place b =
    let k = min (suc n) (4 - a % 4) in
    let e : a / 16 * 16 + a % 16 ≡ a = omega arith in
    let f : k + (suc n - k) ≡ suc n = omega arith in
    rw (e, doublewords_by g byte (drop group_size xs) (a + k) (suc n - k) (place + k) (omega arith)) (rw f at (sym (bytes_by_split byte a k (suc n - k))))

-- they come in ascending order
abbrev pub Above : ℕ → List Doubleword → Type 0
Above a [] = Unit {0}
Above a (w ∷ ws) = (a < own_address w) × Above a ws

abbrev pub Ascending : List Doubleword → Type 0
Ascending [] = Unit {0}
Ascending (w ∷ ws) = Above (own_address w) ws × Ascending ws

in_doubleword : (a : ℕ) → a / 16 * 16 + a % 16 / 4 * 4 ≡ a / 4 * 4
in_doubleword a = omega arith

doublewords_above : (g : ℕ) (xs : List ℕ) (a n place d : ℕ) → (1 ≤ n → d < a / 4 * 4) → Above d (doublewords_of g xs a n place)
unfolding doublewords_of
doublewords_above zero xs a n place d h = tt
doublewords_above (suc g) xs a zero place d h = tt
doublewords_above (suc g) xs a (suc n) place d h =
    let k = min (suc n) (4 - a % 4) in
    let l : d < a / 4 * 4 = h (omega arith) in
    (rw (in_doubleword a) l, doublewords_above g (drop group_size xs) (a + k) (suc n - k) (place + k) d (λ i. omega arith))

pub doublewords_ascending : (g : ℕ) (xs : List ℕ) (a n place : ℕ) → Ascending (doublewords_of g xs a n place)
unfolding doublewords_of
doublewords_ascending zero xs a n place = tt
doublewords_ascending (suc g) xs a zero place = tt
doublewords_ascending (suc g) xs a (suc n) place =
    let k = min (suc n) (4 - a % 4) in (
      rw (in_doubleword a) (doublewords_above g (drop group_size xs) (a + k) (suc n - k) (place + k) (a / 4 * 4) (λ i. omega arith)),
      doublewords_ascending g (drop group_size xs) (a + k) (suc n - k) (place + k),
    )

-- two rules that agree above a doubleword agree on doublewords above it
pub above_same : (f g : ℕ → ℕ) (size d : ℕ) → ((x : ℕ) → d < x / 4 * 4 → f x ≡ g x) → (ws : List Doubleword) → EachProper size ws → Above d ws → all_by f ws ≡ all_by g ws
above_same f g size d h [] p a = refl
above_same f g size d h (w ∷ ws) p a =
    let e = in_own size w p.0 in
    rw (bytes_by_same f g (w.line + w.wanted.from) w.wanted.count (λ o l. h (w.line + w.wanted.from + o) (rw (e o l) a.0)), above_same f g size d h ws p.1 a.1)

pub doublewords_written : (rom : List Range) (g : ℕ) (operand m xs : List ℕ) (a n place : ℕ) → n ≤ 4 * g - a % 4 →
    all_written rom operand m (doublewords_of g xs a n place) ≡ replaced rom m a (bytes_at operand place n)
unfolding doublewords_of bytes_at replaced
doublewords_written rom zero operand m xs a n place b = let e : n ≡ 0 = omega arith in rw e
doublewords_written rom (suc g) operand m xs a zero place b = refl
doublewords_written rom (suc g) operand m xs a (suc n) place b =
    let k = min (suc n) (4 - a % 4) in
    let e : a / 16 * 16 + a % 16 ≡ a = omega arith in
    let f : k + (suc n - k) ≡ suc n = omega arith in
    let x = bytes_at operand place k in
    let y = bytes_at operand (place + k) (suc n - k) in
    ap (λ (i : ℕ). all_written rom operand (replaced rom m i x) (doublewords_of g (drop group_size xs) (a + k) (suc n - k) (place + k))) e
    ∙ doublewords_written rom g operand (replaced rom m a x) (drop group_size xs) (a + k) (suc n - k) (place + k) (omega arith)
    ∙ ap (λ (i : ℕ). replaced rom (replaced rom m a x) (a + i) y) (sym (bytes_length operand place k))
    ∙ sym (replaced_append rom m a x y)
    ∙ ap (replaced rom m a) (rw f at (sym (bytes_split operand place k (suc n - k))))

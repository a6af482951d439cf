-- The records of cycles of one doubleword from numbers are those of reads and writes.
use Prim.Native.Nat.{ℕ, zero, suc, ◌+◌, ◌*◌, ◌-◌, ◌/◌, ◌%◌, ◌^◌, ◌≤◌, ◌<◌}
use mathlib.Core.Path.{◌≡◌, refl, sym, ◌∙◌, ap}
use mathlib.Core.Bool.{Bool, true, false, cond, not, ◌&&◌}
use mathlib.Core.List.{List, [], ◌∷◌, map}
use native.Mathlib.Omega.{arith}
use native.Mathlib.Nat.{zero-add, mod-eq_of_lt, mod-lt}
use native.Mathlib.Decide.{dec_le, dec_lt}
use lib.Dec.{eqb}
use lib.ListN.{length, get_or, replicate, length-replicate}
use lib.Seq.{sets, length-sets}
use borrow.Author.Tests.{eqb-false, eq-eqb}
use Rattle.laws.proofs.Tests.{by_test}
use Rattle.words.specs.Bytes.{bytes_at, bytes_of, value_of, word_in, lanes_value, lanes_word}
use Rattle.words.proofs.Places.{sets_below, sets_above, sets_in, zeros_at, bytes_all}
use Rattle.words.proofs.Spans.{bytes_same}
use Rattle.words.proofs.Numbers.{Small, of_small, of_length, value_of_bytes}
use Rattle.words.proofs.Parts.{powers_some, word_in_lem, word_of_all, word_in_lanes}
use Rattle.memory.specs.Parity.{memory}
use Rattle.bus.specs.Bus.{run, size_of, Cycle, cycles_of}
use Rattle.bus.specs.Record.{Record, flags_of, write_kind, read_record, write_record, logged}
use Rattle.bus.specs.Runs.{run_cycles}
use Rattle.bus.proofs.Sizing.{size_some, size_most}
use Rattle.bus.proofs.Runs.{cycles_alone}
use Rattle.parts.specs.Parts.{bits_in, read_transfer, unchecked_transfer, part_record}
use Rattle.parts.specs.Made.{CyclesMade}
use Rattle.cycles.specs.Sent.{sent_line}
use Rattle.cycles.proofs.Parity.{part_wrong}
use Rattle.parts.proofs.Made.{made_same}
use Rattle.parts.proofs.Records.{part_left, part_lane, part_whole}

-- MAKERS THAT AGREE ON SOME BYTES

-- a maker agrees with another on each cycle that moves some of these bytes
abbrev pub Agree : (Cycle → Record) → (Cycle → Record) → ℕ → ℕ → Type 0
Agree f g low end = (c : Cycle) → low ≤ c.moved.from → 0 < c.moved.count → c.moved.from + c.moved.count ≤ end → f c ≡ g c

pub agree_run : (f g : Cycle → Record) (low end : ℕ) → Agree f g low end → (last : Bool) (xs : List ℕ) (from count : ℕ) → low ≤ from → 0 < count → from + count ≤ end →
    map f (run_cycles last xs (run from count)) ≡ map g (run_cycles last xs (run from count))
unfolding run_cycles
agree_run f g low end h last [] from count a s b = refl
agree_run f g low end h last (x ∷ xs) from count a some b =
    let s = size_of x (run from count) in
    let p = size_some x from count some in
    let q = size_most x from count in
    let c : Cycle = record { moved = run from s; answer = x; last = eqb s count && last } in
    rw (h c a p (omega arith))
    (by_test (λ t. eqb s count ≡ t → g c ∷ map f (cond t [] (run_cycles last xs (run (from + s) (count - s)))) ≡ g c ∷ map g (cond t [] (run_cycles last xs (run (from + s) (count - s)))))
    (eqb s count)
    (λ _ _. refl)
    (λ _ e. let n = eqb-false s count e in rw (agree_run f g low end h last xs (from + s) (count - s) (omega arith) (omega arith) (omega arith)))
    refl)

-- READS

-- a cycle of one doubleword of RAM
pub read_part : (kind : ℕ) (ram parity : List ℕ) (line base : ℕ) → ((i : ℕ) → get_or ram i 0 < 256) → line % 16 ≡ 0 → base % 4 ≡ 0 →
    Agree (part_record (read_transfer ram parity (line + base) kind)) (read_record kind (memory ram parity) line) base (base + 4)
unfolding part_record read_record
read_part kind ram parity line base small al whole c low some high =
    let from = c.moved.from in
    let count = c.moved.count in
    let e : from / 4 * 4 ≡ base = omega arith in
    let l : from % 4 + count ≤ 4 = omega arith in
    let p : line + from ≡ line + base + from % 4 = omega arith in
    let m : (line + base) % 4 ≡ 0 = omega arith in
    rw (e, p, part_wrong ram parity (line + base) (from % 4) count m l, word_in_lanes ram small (line + base) (from % 4) count l)

-- the records of a run inside one doubleword of RAM
pub read_records : (kind : ℕ) (ram parity : List ℕ) (line from count base : ℕ) → ((i : ℕ) → get_or ram i 0 < 256) → line % 16 ≡ 0 → 0 < count → from % 4 + count ≤ 4 → base ≡ line + from / 4 * 4 →
    (last : Bool) (xs : List ℕ) →
    map (part_record (read_transfer ram parity base kind)) (run_cycles last xs (run from count))
    ≡ map (read_record kind (memory ram parity) line) (run_cycles last xs (run from count))
read_records kind ram parity line from count base small al some l e last xs =
    let low = from / 4 * 4 in
    rw e (agree_run _ _ low (low + 4) (read_part kind ram parity line low small al (omega arith)) last xs from count (omega arith) some (omega arith))

-- what the code leaves from numbers of RAM is what a read leaves
module _ (kind : ℕ) (ram parity : List ℕ) (line from count base : ℕ) (small : (i : ℕ) → get_or ram i 0 < 256) (al : line % 16 ≡ 0) (some : 0 < count) (l : from % 4 + count ≤ 4)
    (e : base ≡ line + from / 4 * 4) (xs : List ℕ) (first used r : ℕ) (log₀ log : List ℕ) where
  abbrev numbers : Cycle → Record
  numbers = part_record (read_transfer ram parity base kind)

  pub read_made : (lane : ℕ) → lane % 4 ≡ from % 4 → (last : Bool) →
      CyclesMade numbers (run_cycles last xs (run lane count)) first used log₀ r log →
      CyclesMade (read_record kind (memory ram parity) line) (run_cycles last xs (run from count)) first used log₀ r log
  read_made lane h last =
      made_same _ _ _ _ first used r log₀ log
      (part_lane (read_transfer ram parity base kind) last xs lane from count h ∙ read_records kind ram parity line from count base small al some l e last xs)

  -- and with no other run, from the run of its lanes
  pub read_alone_lem : CyclesMade numbers (run_cycles true xs (run (from % 4) count)) first used log₀ r log →
      CyclesMade (read_record kind (memory ram parity) line) (cycles_of xs (run from count ∷ [])) first used log₀ r log
  read_alone_lem = rw (cycles_alone xs (run from count)) (read_made (from % 4) (omega arith) true)

-- WRITES

-- a byte of those of a number
small_at : (l : List ℕ) → Small l → (i : ℕ) → get_or l i 0 < 256
small_at [] h i = omega arith
small_at (b ∷ l) h zero = h.0
small_at (b ∷ l) h (suc i) = small_at l h.1 i

-- what holds of 0, and of each of these bytes, holds of each byte where they are put among zeros
put_cases : (P : ℕ → Type 0) (n from : ℕ) (bytes : List ℕ) → from + length bytes ≤ n → (i : ℕ) →
    (i < from → P 0) → (from + length bytes ≤ i → P 0) → (from ≤ i → i < from + length bytes → P (get_or bytes (i - from) 0)) → P (get_or (sets (replicate n 0) from bytes) i 0)
put_cases P n from bytes h i f g k =
    elim (dec_lt i from) [
      | yes p ↦ rw (sets_below (replicate n 0) from bytes i p, zeros_at n i) (f p)
      | no p ↦ elim (dec_le (from + length bytes) i) [
        | yes q ↦ rw (sets_above (replicate n 0) from bytes i q, zeros_at n i) (g q)
        | no q ↦
            let e : from + (i - from) ≡ i = omega arith in
            let l : from + (i - from) < length (replicate {A = ℕ} n 0) = rw (length-replicate {A = ℕ} n 0) (omega arith) in
            let z : get_or (sets (replicate n 0) from bytes) i 0 ≡ get_or bytes (i - from) 0 = rw e at (sets_in (replicate n 0) from bytes (i - from) (omega arith) l) in
            rw z (k (omega arith) (omega arith))
      ]
    ]

-- lanes of a doubleword, sent to one of a line
module _ (from count word : ℕ) (l : from % 4 + count ≤ 4) (short : from < 16) where
  abbrev value : ℕ
  value = lanes_value word (from % 4) count

  abbrev sent : List ℕ
  sent = sent_line from (bytes_of count value)

  abbrev low : ℕ
  low = from / 4 * 4

  fits : from + length (bytes_of count value) ≤ 16
  fits = rw (of_length count value) (omega arith)

  sent_small : (i : ℕ) → get_or sent i 0 < 256
  sent_small i =
      put_cases (λ b. b < 256) 16 from (bytes_of count value) fits i (λ _. omega arith) (λ _. omega arith)
      (λ _ _. small_at (bytes_of count value) (of_small count value) (i - from))

  sent_doubleword : bytes_at sent low 4 ≡ sets (replicate 4 0) (from % 4) (bytes_of count value)
  sent_doubleword =
      let lane = from % 4 in
      let bytes = bytes_of count value in
      let zeros = replicate {A = ℕ} 4 0 in
      let n : length bytes ≡ count = of_length count value in
      let e : from ≡ low + lane = omega arith in
      let z : length (sets zeros lane bytes) ≡ 4 = length-sets zeros lane bytes in
      bytes_same sent (sets zeros lane bytes) low 0 4
      (λ o h.
      put_cases (λ b. b ≡ get_or (sets zeros lane bytes) (0 + o) 0) 16 from bytes fits (low + o)
      (λ p. rw (zero-add o) (sym (sets_below zeros lane bytes o (omega arith) ∙ zeros_at 4 o)))
      (λ p. rw (zero-add o) (sym (sets_above zeros lane bytes o (omega arith) ∙ zeros_at 4 o)))
      (λ p q.
      let f : lane + (o - lane) ≡ o = omega arith in
      let g : low + o - from ≡ o - lane = omega arith in
      rw (g, zero-add o) (sym (rw f at (sets_in zeros lane bytes (o - lane) (omega arith) (omega arith))))))
      ∙ rw z at (bytes_all (sets zeros lane bytes))

  -- the number in its lanes
  sent_word : word_in 0 (bytes_at sent low 4) ≡ lanes_word word (from % 4) count
  unfolding lanes_word lanes_value
  sent_word =
      let n = of_length count value in
      word_of_all sent low ∙ ap value_of sent_doubleword ∙ word_in_lem (from % 4) (bytes_of count value) (rw n l)
      ∙ rw (value_of_bytes count value, mod-eq_of_lt (mod-lt (word / 256 ^ (from % 4)) (powers_some count)))

  -- what the code leaves from a doubleword that has no other lanes is what a write leaves
  module _ (own : word ≡ lanes_word word (from % 4) count) (some : 0 < count) (line : ℕ) where
    abbrev sending : Cycle → Record
    sending = part_record (unchecked_transfer (line + low) word write_kind)

    -- a cycle that sends some of them
    write_part : Agree sending (write_record sent line) low (low + 4)
    unfolding part_record write_record
    write_part c a some b =
        let at = c.moved.from in
        let size = c.moved.count in
        let e : at / 4 * 4 ≡ low = omega arith in
        let h : at % 4 + size ≤ 4 = omega arith in
        let p : at ≡ low + at % 4 = omega arith in
        let w : word_in (at % 4) (bytes_at sent at size) ≡ lanes_word word (at % 4) size =
        ap (λ (i : ℕ). word_in (at % 4) (bytes_at sent i size)) p ∙ word_in_lanes sent sent_small low (at % 4) size h ∙ ap (λ (v : ℕ). lanes_word v (at % 4) size) (sent_word ∙ sym own) in
        rw (e, w, eq-eqb (bits_in 0 (at % 4) size) (bits_in 0 (at % 4) size) refl)

    pub write_made : (xs : List ℕ) (first used r : ℕ) (log₀ log : List ℕ) → CyclesMade sending (run_cycles true xs (run (from % 4) count)) first used log₀ r log →
        CyclesMade (write_record sent line) (cycles_of xs (run from count ∷ [])) first used log₀ r log
    write_made xs first used r log₀ log =
        rw (cycles_alone xs (run from count))
        (made_same _ _ _ _ first used r log₀ log
        (part_lane (unchecked_transfer (line + low) word write_kind) true xs (from % 4) from count (omega arith)
        ∙ agree_run _ _ low (low + 4) write_part true xs from count (omega arith) some (omega arith)))

    -- one cycle, where the board asks for no smaller size
    pub write_whole : (xs : List ℕ) → 0 < length xs → get_or xs 0 0 / 2 % 4 ≡ 0 → (first : ℕ) (log₀ log : List ℕ) {flags : ℕ} →
        flags ≡ flags_of (from % 4) count write_kind true false →
        log ≡ logged log₀ first (record { address = line + low; flags = flags; word = word } ∷ []) →
        CyclesMade (write_record sent line) (cycles_of xs (run from count ∷ [])) first 0 log₀ 1 log
    write_whole xs answered w first log₀ log {flags} ef el =
        let lane = from % 4 in
        let e : lane % 4 ≡ lane = omega arith in
        let same : flags ≡ flags_of lane count write_kind true (not (eqb (bits_in 0 lane count) (bits_in 0 lane count))) = ef ∙ rw (eq-eqb (bits_in 0 lane count) (bits_in 0 lane count) refl) in
        let put = part_left (unchecked_transfer (line + low) word write_kind) lane count first true log₀ (rw e same) (rw e own) el in
        write_made xs first 0 1 log₀ log (part_whole (unchecked_transfer (line + low) word write_kind) lane count l xs answered w first log₀ log put)

-- Laws of the loops over the doublewords of a read.
use Prim.Native.Nat.{ℕ, suc, ◌+◌, ◌*◌, ◌^◌, ◌≤◌, ◌<◌, min}
use mathlib.Core.Path.{◌≡◌, refl, sym, ◌∙◌, ap}
use mathlib.Core.Bool.{Bool}
use mathlib.Core.List.{List, []}
use native.Mathlib.Omega.{arith}
use native.Mathlib.Nat.{add-zero, add_comm, add_assoc, zero-mul, mul_assoc, add-mul, suc-mul, mul-le-mul_right, lt_of_lt_of_le, pow-le-pow_right}
use lib.Pow.{pow-add}
use lib.ListN.{length}
use Rattle.directory.specs.declared.steps.Directory.{Directory}
use Rattle.words.specs.Bytes.{value_of}
use Rattle.words.proofs.Numbers.{value_append}
use Rattle.memory.specs.Parity.{Memory}
use Rattle.bus.specs.Groups.{group_count, widest}
use Rattle.bus.specs.Record.{logged}
use Rattle.doubleword.specs.declared.change.Change.{Change}
use Rattle.doubleword.specs.declared.cursor.AccessCursor.{AccessCursor}
use Rattle.doubleword.specs.Doubleword.{Doubleword, Done, changed}
use Rattle.doubleword.specs.Cursor.{line_address, count_of, access_next, next_doubleword, AccessNeeds}
use Rattle.doubleword.proofs.Cursors.{needs_lengths, needs_more, cursor_needs}
use Rattle.reading.specs.ReadingCode.{Reads}
use Rattle.refusal.specs.Call.{State, state}
use Rattle.access.specs.Access.{Progress, progress, then_rest, all_of, next}
use Rattle.access.proofs.AccessLoop.{rest_of, AccessInvariant, access_invariant_begin, access_invariant_next, all_next}
use Rattle.access.proofs.Alone.{one_alone, one_length, one_memory}

-- a number of so many bytes, and one above it
join_value : (v o r p c : ℕ) → v + (o + r * c) * p ≡ v + o * p + r * (c * p)
join_value v o r p c = rw (add-mul o (r * c) p, mul_assoc r c p) (sym (add_assoc v (o * p) (r * (c * p))))

join_below : (v o p c : ℕ) → v < p → o < c → v + o * p < c * p
join_below v o p c h k =
    let e : suc o * p ≤ c * p = mul-le-mul_right p k in
    let f = suc-mul o p in
    omega arith

powers : (place count : ℕ) → 256 ^ count * 256 ^ place ≡ 256 ^ (place + count)
powers place count = sym (pow-add 256 count place) ∙ ap (λ (i : ℕ). 256 ^ i) (add_comm count place)

-- the number of the bytes read so far, with a part above them
part_below : (value part place count : ℕ) → value < 256 ^ place → part < 256 ^ count → value + part * 256 ^ place < 256 ^ (place + count)
part_below value part place count h k = rw (← powers place count) (join_below value part (256 ^ place) (256 ^ count) h k)

-- what the loop of a read keeps: the number of the bytes read so far, below those left
pub record ReadInvariant (rest p : Progress) (log₀ : List ℕ) (place cycles : ℕ) (log : List ℕ) (value : ℕ) : Type 0 where
  pub invariant : AccessInvariant rest p log₀ cycles log
  pub sums : value + value_of rest.bytes * 256 ^ place ≡ value_of p.bytes
  pub below : value < 256 ^ place

pub reading_begin : (p : Progress) (log₀ : List ℕ) → ReadInvariant p p log₀ 0 0 log₀ 0
reading_begin p log₀ = record { invariant = access_invariant_begin p log₀; sums = omega arith; below = omega arith }

module _ {rest p : Progress} {log₀ : List ℕ} {place cycles : ℕ} {log : List ℕ} {value : ℕ} (g : ReadInvariant rest p log₀ place cycles log value) where
  -- the next doubleword of the code, read by the rules
  module _ (done : Done) (rest' : Progress) (count part : ℕ) (e : rest ≡ then_rest done rest') (el : length done.bytes ≡ count) (ep : part ≡ value_of done.bytes) where
    sums_next : value + part * 256 ^ place + value_of rest'.bytes * 256 ^ (place + count) ≡ value_of p.bytes
    sums_next =
        let v : value_of rest.bytes ≡ part + value_of rest'.bytes * 256 ^ count =
        ap (λ (q : Progress). value_of q.bytes) e
        ∙ value_append done.bytes rest'.bytes
        ∙ ap (λ (i : ℕ). value_of done.bytes + value_of rest'.bytes * 256 ^ i) el
        ∙ ap (λ (i : ℕ). i + value_of rest'.bytes * 256 ^ count) (sym ep) in
        ap (λ (i : ℕ). value + part * 256 ^ place + value_of rest'.bytes * i) (sym (powers place count))
        ∙ sym (join_value value part (value_of rest'.bytes) (256 ^ place) (256 ^ count))
        ∙ ap (λ (i : ℕ). value + i * 256 ^ place) (sym v)
        ∙ g.sums

    pub reading_next : (log' : List ℕ) (n value' : ℕ) → part < 256 ^ count → log' ≡ logged log cycles done.records → n ≡ length done.records → value' ≡ value + part * 256 ^ place →
        ReadInvariant rest' p log₀ (place + count) (cycles + n) log' value'
    reading_next log' n value' h eg en ev =
        record {
          invariant = access_invariant_next g.invariant done rest' log' n e eg en;
          sums = rw ev sums_next;
          below = rw ev (part_below value part place count g.below h);
        }

  -- where nothing is left the loops have the number of all bytes
  pub reading_end : (s : State) → rest ≡ progress s [] [] → value ≡ value_of p.bytes
  unfolding value_of
  reading_end s e =
      sym (add-zero value)
      ∙ ap (λ (x : ℕ). value + x) (sym (zero-mul (256 ^ place)))
      ∙ sym (ap (λ (q : Progress). value + value_of q.bytes * 256 ^ place) e)
      ∙ g.sums

-- a number of fewer bytes fits the widest value
widest_fits : (place n : ℕ) → place ≤ widest → n < 256 ^ place → n < 256 ^ widest
widest_fits place n h l = lt_of_lt_of_le l (pow-le-pow_right {n = 256} (omega arith) h)

-- so does the number of the bytes read so far
pub number_fits : (cursor : AccessCursor) (value part : ℕ) → 0 < cursor.left → cursor.place + cursor.left ≤ widest → value < 256 ^ cursor.place → part < 256 ^ count_of cursor →
    (cursor.place < widest) × (value + part * 256 ^ cursor.place < 256 ^ widest)
number_fits cursor value part some operands h k = (
  omega arith,
  widest_fits (cursor.place + count_of cursor) _ (room cursor.place cursor.left _ operands) (part_below value part cursor.place (count_of cursor) h k),
)
  where
    room : (place left r : ℕ) → place + left ≤ widest → place + min left r ≤ widest
    room place left r h = omega arith

-- the loop of a read that carries nothing, with the lengths of its buffers
pub record ReadKept (pcd : Bool) (xs : List ℕ) (p : Progress) (log₀ array₀ : List ℕ) (m : Memory) (cursor : AccessCursor) (d : Directory) (array log : List ℕ) (value : ℕ) : Type 0 where
  pub reading : ReadInvariant (all_of (one_alone pcd) (state d m array) (rest_of cursor xs)) p log₀ cursor.place cursor.cycles log value
  pub needs : AccessNeeds cursor (length m.ram) (length m.parity) (length array₀) (length xs) (length log₀)
  pub arrays : length array ≡ length array₀
  pub logs : length log ≡ length log₀

module _ {pcd : Bool} {xs : List ℕ} {p : Progress} {log₀ array₀ : List ℕ} {m : Memory} {cursor : AccessCursor} {d : Directory} {array log : List ℕ} {value : ℕ} (g : ReadKept pcd xs p log₀ array₀ m cursor d array log value) (some : 0 < cursor.left) where
  pub kept_needs : AccessNeeds cursor (length m.ram) (length m.parity) (length array) (length xs) (length log)
  kept_needs = needs_lengths refl refl g.arrays g.logs g.needs

  kept_more : cursor.group < group_count
  kept_more = needs_more _ _ _ _ _ _ g.needs some

  abbrev here : Doubleword
  here = next_doubleword cursor xs

  abbrev done : Done
  done = one_alone pcd (state d m array) here

  module _ {change : Change} {part n : ℕ} {array' log' : List ℕ} (k : Reads done (count_of cursor) cursor.cycles log change part n array' log') where
    -- the number of the bytes read so far fits
    pub part_fits : (cursor.place < widest) × (value + part * 256 ^ cursor.place < 256 ^ widest)
    part_fits = number_fits cursor value part some g.needs.operands g.reading.below k.fits

    -- the state after the doubleword
    next_state_lem : (d' : Directory) → d' ≡ changed d (line_address cursor) change → state d' m array' ≡ next (state d m array) here done
    next_state_lem d' ed =
        ap (λ (x : Directory). state x m array') (ed ∙ ap (changed d here.line) k.changes)
        ∙ ap (λ (x : Memory). state (changed d here.line done.change) x array') (sym (one_memory pcd (state d m array) here))
        ∙ ap (λ (x : List ℕ). state (changed d here.line done.change) done.memory x) k.arrays

    -- the next turn
    pub kept_next : (line count : ℕ) → line ≡ line_address cursor → count ≡ count_of cursor → (d' : Directory) (value' : ℕ) (u : AccessCursor) → d' ≡ changed d line change → value' ≡ value + part * 256 ^ cursor.place →
        u ≡ access_next cursor count n → length array' ≡ length array → length log' ≡ length log →
        ReadKept pcd xs p log₀ array₀ m u d' array' log' value'
    kept_next line count en ec d' value' u ed ev eu ea el =
        let es = next_state_lem d' (rw en at ed) in
        record {
          reading =
              rw (eu, ec, es)
              (reading_next g.reading done _ (count_of cursor) part (all_next (one_alone pcd) xs cursor (state d m array) some kept_more n) (one_length pcd (state d m array) here) k.gives
              log' n value' k.fits k.logs k.made ev);
          needs = cursor_needs cursor u count n some ec eu _ _ _ _ _ k.most g.needs;
          arrays = ea ∙ g.arrays;
          logs = el ∙ g.logs;
        }

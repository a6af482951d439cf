-- What the loop over the cycles of some bytes keeps: what completes the rest completes the whole.
use Prim.Native.Nat.{ℕ, ◌+◌, ◌*◌, ◌-◌, ◌^◌, ◌≤◌, ◌<◌}
use mathlib.Core.Path.{◌≡◌, refl, sym, ◌∙◌, ap}
use mathlib.Core.Bool.{Bool, true, false}
use mathlib.Core.List.{List, [], ◌∷◌}
use native.Mathlib.Omega.{arith}
use lib.Dec.{eqb}
use lib.ListN.{length, get_or, drop}
use lib.Pow.{pow_mono}
use lib.Seq.{length-sets}
use borrow.Author.Tests.{eqb-true, eqb-false}
use Rattle.words.specs.Bytes.{lanes_mask}
use Rattle.words.proofs.Masks.{mask_below}
use Rattle.bus.specs.Bus.{Run, run, size_of, Cycle}
use Rattle.bus.specs.Record.{Record, words_of, logged}
use Rattle.bus.proofs.Sizing.{size_some, size_most}
use Rattle.bus.specs.Runs.{run_cycles}
use Rattle.parts.specs.Parts.{moving}
use Rattle.parts.specs.Made.{CyclesMade}
use Rattle.parts.proofs.Masks.{mask_lowest, mask_rest, mask_part, mask_whole}
use Rattle.parts.proofs.Made.{made_one, made_then}

module _ (make : Cycle → Record) (blind : (w : Run) (x : ℕ) (b : Bool) → make (record { moved = w; answer = x; last = b }) ≡ make (moving w.from w.count b))
    (xs : List ℕ) (lane count first : ℕ) (log₀ : List ℕ) where
  -- some lanes are left, by masks: the lowest of them, and all
  pub record SizedInvariant (lowest wanted used : ℕ) (log : List ℕ) : Type 0 where
    pub at : ℕ
    pub left : ℕ
    pub low : lowest ≡ 2 ^ at
    pub all : wanted ≡ lanes_mask at left
    pub rest : (r : ℕ) (log' : List ℕ) → CyclesMade make (run_cycles true (drop used xs) (run at left)) first used log r log' → CyclesMade make (run_cycles true xs (run lane count)) first 0 log₀ r log'
    pub some : 0 < left
    pub lanes : at + left ≤ 4
    pub most : used + left ≤ 4
    pub lengths : length log ≡ length log₀

  -- a cycle moves some of them, by the mask that the code finds
  module _ (lowest wanted used mask : ℕ) (log : List ℕ) (k : SizedInvariant lowest wanted used log)
      (found : (lane count : ℕ) → 0 < count → lane + count ≤ 4 → lowest ≡ 2 ^ lane → wanted ≡ lanes_mask lane count →
      mask ≡ lanes_mask lane (size_of (get_or xs used 0) (run lane count))) where
    -- so many
    abbrev size : ℕ
    size = size_of (get_or xs used 0) (run k.at k.left)

    -- the mask is that of these
    is_mask : mask ≡ lanes_mask k.at size
    is_mask = found k.at k.left k.some k.lanes k.low k.all

    -- no others than those left
    most_size : size ≤ k.left
    most_size = size_most (get_or xs used 0) k.at k.left

    -- it names four lanes at most
    pub mask_small : mask ≤ 15
    mask_small = rw is_mask (mask_below k.at size (omega (arith, k.lanes, most_size)))

    -- all of those wanted
    pub mask_wanted : mask ≤ wanted
    mask_wanted = rw (is_mask, k.all) (mask_part k.at size k.left most_size)

    -- it is all that is wanted where no byte is left
    same_whole : eqb mask wanted ≡ eqb size k.left
    same_whole = rw (is_mask, k.all) (mask_whole k.at size k.left most_size)

    -- the lowest lane that is left then
    next_lowest : lowest + mask ≡ 2 ^ (k.at + size)
    next_lowest = rw (is_mask, k.low) (mask_lowest k.at size)

    -- which is at most past lane 3
    pub lowest_small : lowest + mask ≤ 16
    lowest_small =
        let l : k.at + size ≤ 4 = omega (arith, k.lanes, most_size) in
        let p : 2 ^ (k.at + size) ≤ 2 ^ 4 = pow_mono l in
        omega (arith, next_lowest)

    module _ (log' : List ℕ) (enough : 4 ≤ length xs)
        (put : (lane count : ℕ) → lane + count ≤ 4 → mask ≡ lanes_mask lane count → log' ≡ logged log (first + used) (make (moving lane count (eqb mask wanted)) ∷ [])) where
      -- the record of the cycle
      is_put : log' ≡ logged log (first + used) (make (moving k.at size (eqb mask wanted)) ∷ [])
      is_put = put k.at size (omega (arith, k.lanes, most_size)) is_mask

      -- with the last cycle all are made
      pub sized_end : eqb mask wanted ≡ true → CyclesMade make (run_cycles true xs (run lane count)) first 0 log₀ (used + 1) log'
      sized_end t =
          let e = eqb-true size k.left (sym same_whole ∙ t) in
          k.rest (used + 1) log' (made_one make blind true xs first k.at k.left used log log' (omega (arith, k.most, k.some)) e (rw (t, e) at is_put))

      -- after another the rest is left
      pub sized_next : eqb mask wanted ≡ false → SizedInvariant (lowest + mask) (wanted - mask) (used + 1) log'
      sized_next t =
          let a = size_some (get_or xs used 0) k.at k.left k.some in
          let b = most_size in
          let d = eqb-false size k.left (sym same_whole ∙ t) in
          let u : used < length xs = omega (arith, k.most, k.some) in
          let next = made_then make blind true xs first k.at k.left size (k.at + size) (k.left - size) used in
          record {
            at = k.at + size;
            left = k.left - size;
            low = next_lowest;
            all = rw (is_mask, k.all) (mask_rest k.at size k.left b);
            rest = λ r log'' g. k.rest r log'' (next r log log' log'' u refl (omega arith) refl refl (rw t at is_put) g);
            some = omega arith;
            lanes = omega (arith, k.lanes);
            most = omega (arith, k.most);
            lengths = ap length is_put ∙ length-sets log (3 * (first + used)) (words_of (make (moving k.at size (eqb mask wanted)) ∷ [])) ∙ k.lengths;
          }

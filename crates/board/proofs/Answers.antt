-- The board's answers as loops fill them: what is left to store, put in, gives what all of it gives.
use Prim.Native.Nat.{ℕ, zero, suc, ◌+◌, ◌*◌, ◌-◌, ◌/◌, ◌%◌, ◌<◌, ◌≤◌}
use mathlib.Core.Path.{◌≡◌, refl, sym, ◌∙◌}
use mathlib.Core.Bool.{Bool, true, false, cond}
use mathlib.Core.List.{List}
use native.Mathlib.Nat.{add-zero}
use native.Mathlib.Numerals.{add-one}
use native.Mathlib.Omega.{arith}
use lib.Dec.{ltb}
use lib.ListN.{length, drop, get_or, replicate, length-replicate, replicate-append-replicate, length-drop}
use lib.Seq.{sets, sets-eq, take_all, length-take-le}
use borrow.Rule.Slice.PartMut.{put_mid, mid_of}
use Rattle.std.proofs.lemmas.Slice.{put_mid-paste}
use Rattle.std.proofs.lemmas.List.{same_lists, get_or-replicate}
use Rattle.laws.proofs.Lists.{sets_append}
use Rattle.laws.proofs.Tests.{by_test, same_or}
use Rattle.bus.specs.Groups.{bad_width, group_count, group_size}
use Rattle.board.specs.Board.{block_size, answer_at, group_address, groups_from, board_answers}

-- a part filled with an answer is so many of it put in
pub part_filled : (l ys : List ℕ) (first size n answer : ℕ) → first + n ≤ length l → size ≡ n
    → length ys ≡ length (mid_of first size l)
    → ((k d : ℕ) → 0 ≤ k → k < length (mid_of first size l) - 1 → get_or ys k d ≡ answer)
    → (0 < length (mid_of first size l) → (d : ℕ) → get_or ys (length (mid_of first size l) - 1) d ≡ answer)
    → put_mid first size l ys ≡ sets l first (replicate n answer)
part_filled l ys first size n answer fits e long before last =
    let part : length (mid_of first size l) ≡ n = length-take-le size (drop first l) (omega (arith, length-drop first l)) ∙ e in
    let count = length-replicate {A = ℕ} n answer in
    let each : (k d : ℕ) → k < length ys → get_or ys k d ≡ get_or (replicate n answer) k d =
    λ k d h. same_or _ k (length (mid_of first size l) - 1)
    (λ at. rw (at, last (omega (arith, h, long)) d) (sym (get_or-replicate n (length (mid_of first size l) - 1) answer d (omega (arith, h, at, long, part)))))
    (λ other. rw (before k d (omega arith) (omega (arith, h, other, long))) (sym (get_or-replicate n k answer d (omega (arith, h, long, part))))) in
    let filled : ys ≡ replicate n answer = same_lists ys (replicate n answer) (long ∙ part ∙ sym count) each in
    put_mid-paste first size l ys (replicate n answer) n filled (sym e) (sym count)
    ∙ rw (take_all n (replicate n answer) (omega (arith, count))) (sym (rw count at (sets-eq (replicate n answer) l first (omega (arith, count, fits)))))

-- the lowest doubleword is always there
either : (b : Bool) (x y z : ℕ) → x ≡ z → y ≡ z → cond b x y ≡ z
either true x y z e f = e
either false x y z e f = f

lowest : (address width : ℕ) → group_address address width 0 ≡ address
unfolding group_address
lowest address width = either (bad_width width) _ _ address refl (either (ltb 0 (address % 4 + width)) _ _ address (add-zero address) refl)

module _ (table : List ℕ) (address width : ℕ) where
  -- the groups from one on stored
  unfoldable pub filled_from : ℕ → List ℕ → List ℕ
  filled_from group l = sets l (group_size * group) (groups_from table address width group (group_count - group))

  pub filled_lowest : (answer : ℕ) → answer ≡ answer_at table address → filled_from 1 (replicate (group_size * group_count) answer) ≡ board_answers table address width
  unfolding filled_from board_answers groups_from
  filled_lowest answer e = rw (lowest address width, e)

  pub filled_one : (group answer : ℕ) (l : List ℕ) → group < group_count → answer ≡ answer_at table (group_address address width group) → filled_from (group + 1) (sets l (group_size * group) (replicate group_size answer)) ≡ filled_from group l
  unfolding filled_from groups_from
  filled_one group answer l h e =
      let n : group_count - group ≡ suc (group_count - (group + 1)) = omega arith in
      let f : group_size * (group + 1) ≡ group_size * group + group_size = omega arith in
      let rest = groups_from table address width (group + 1) (group_count - (group + 1)) in
      rw (n, f, ← add-one group, ← e) (sym (sets_append l (group_size * group) (replicate group_size answer) rest))

  pub filled_none : (group : ℕ) (l : List ℕ) → group_count ≤ group → filled_from group l ≡ l
  unfolding filled_from groups_from
  filled_none group l h =
      let e : group_count - group ≡ 0 = omega arith in
      rw e

  -- far enough from the end of its block each group has the lowest's answer
  module _ (near : address % block_size < block_size - 4 * group_count) where
    same_block : (group : ℕ) → group < group_count → group_address address width group / block_size ≡ address / block_size
    unfolding group_address
    same_block group h =
        by_test (λ b. cond b address (cond (ltb (4 * group) (address % 4 + width)) (address + 4 * group) address) / block_size ≡ address / block_size) (bad_width width)
        (λ _. refl)
        (λ _. by_test (λ b. cond b (address + 4 * group) address / block_size ≡ address / block_size) (ltb (4 * group) (address % 4 + width)) (λ _. omega arith) (λ _. refl))

    same_answer : (group : ℕ) → group < group_count → answer_at table (group_address address width group) ≡ answer_at table address
    unfolding answer_at
    same_answer group h = rw (same_block group h)

    groups_same : (group more : ℕ) → group + more ≤ group_count → groups_from table address width group more ≡ replicate (group_size * more) (answer_at table address)
    unfolding groups_from
    groups_same group zero h = refl
    groups_same group (suc more) h =
        let answer = answer_at table address in
        let sum : group_size + group_size * more ≡ group_size * suc more = omega arith in
        rw (same_answer group (omega (arith, h)), groups_same (suc group) more (omega (arith, h))) (replicate-append-replicate group_size (group_size * more) answer ∙ rw sum)

    pub board_same : (answer : ℕ) → answer ≡ answer_at table address → replicate (group_size * group_count) answer ≡ board_answers table address width
    unfolding board_answers
    board_same answer e = rw e (sym (groups_same 0 group_count (omega arith)))

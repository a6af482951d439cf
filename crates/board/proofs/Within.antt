-- Laws of the board's answers, for any table: how many they are, and that each is an answer of the table.
use Prim.Native.Nat.{ℕ, zero, suc, ◌*◌, ◌≤◌}
use mathlib.Core.Path.{◌≡◌, refl}
use mathlib.Core.List.{List, [], ◌∷◌, ◌++◌}
use native.Mathlib.Omega.{arith}
use lib.ListN.{length, get_or, replicate, length-replicate, length-append}
use Rattle.bus.specs.Groups.{group_count, group_size, answer_count}
use Rattle.board.specs.Board.{answer_at, group_address, groups_from, board_answers}

-- what holds of each element of two lists holds of one after the other
append_within : (limit : ℕ) (xs ys : List ℕ) → ((i : ℕ) → get_or xs i 0 ≤ limit) → ((i : ℕ) → get_or ys i 0 ≤ limit) → (i : ℕ) → get_or (xs ++ ys) i 0 ≤ limit
append_within limit [] ys p q i = q i
append_within limit (x ∷ xs) ys p q zero = p 0
append_within limit (x ∷ xs) ys p q (suc i) = append_within limit xs ys (λ k. p (suc k)) q i

replicate_within : (limit n x : ℕ) → x ≤ limit → (i : ℕ) → get_or (replicate n x) i 0 ≤ limit
replicate_within limit zero x h i = omega arith
replicate_within limit (suc n) x h zero = h
replicate_within limit (suc n) x h (suc i) = replicate_within limit n x h i

module _ (table : List ℕ) (address width : ℕ) where
  groups_length : (group more : ℕ) → length (groups_from table address width group more) ≡ group_size * more
  unfolding groups_from
  groups_length group zero = refl
  groups_length group (suc more) =
      let answer = answer_at table (group_address address width group) in
      let rest = groups_from table address width (suc group) more in
      omega (arith, length-append (replicate group_size answer) rest, length-replicate {A = ℕ} group_size answer, groups_length (suc group) more)

  pub board_length : length (board_answers table address width) ≡ answer_count
  unfolding board_answers
  board_length = groups_length 0 group_count

  module _ (limit : ℕ) (h : (block : ℕ) → get_or table block 0 ≤ limit) where
    at_within : (a : ℕ) → answer_at table a ≤ limit
    unfolding answer_at
    at_within a = h _

    groups_within : (group more i : ℕ) → get_or (groups_from table address width group more) i 0 ≤ limit
    unfolding groups_from
    groups_within group zero i = omega arith
    groups_within group (suc more) i =
        let answer = answer_at table (group_address address width group) in
        append_within limit (replicate group_size answer) (groups_from table address width (suc group) more)
        (replicate_within limit group_size answer (at_within (group_address address width group)))
        (groups_within (suc group) more) i

    pub board_within : (i : ℕ) → get_or (board_answers table address width) i 0 ≤ limit
    unfolding board_answers
    board_within i = groups_within 0 group_count i

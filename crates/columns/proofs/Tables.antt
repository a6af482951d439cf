-- The plain memory's answer to a line is the same with every table of answers up to 7.
use Prim.Native.Nat.{ℕ, zero, suc, ◌≤◌}
use mathlib.Core.Path.{◌≡◌, refl, sym, ◌∙◌}
use mathlib.Core.Bool.{Bool, false}
use mathlib.Core.List.{List, [], ◌∷◌}
use native.Mathlib.Omega.{arith}
use lib.Dec.{ltb}
use lib.ListN.{length, get_or}
use borrow.Author.Tests.{ltb-false, le-ltb}
use Rattle.laws.proofs.Tests.{neither}
use Rattle.bus.specs.Groups.{highest_answer}
use Rattle.calls.specs.Calls.{read, write}
use Rattle.calls.specs.Plain.{PlainMemory, some_above, plain_number, plain_done, plain}
use Rattle.board.specs.Board.{block_answers, GoodTable, board_answers}
use Rattle.board.proofs.Within.{board_length, board_within}
use Rattle.std.specs.Prelude.{Option, Some, None}
use Rattle.std.specs.Option.{option_map}
use Rattle.lines.specs.declared.Event.{Event}
use Rattle.lines.specs.declared.Event.TheVariants.{Read, Write, External, Snoop, Flush, Control, Reset}
use Rattle.lines.specs.Scan.{scanned}
use Rattle.performing.specs.Perform.{zero_log, call_of, line_call}
use Rattle.columns.specs.Program.{plain_call, plain_line, line_sets_nw}

-- no table changes whether a line sets NW
event_sets_same : (table line : List ℕ) (e : Option Event) → line_sets_nw (option_map (call_of table line) e) ≡ line_sets_nw (option_map (call_of block_answers line) e)
unfolding call_of
event_sets_same table line None = refl
event_sets_same table line (Some (Read address width pcd)) = refl
event_sets_same table line (Some (Write address width value)) = refl
event_sets_same table line (Some (External address from)) = refl
event_sets_same table line (Some (Snoop address)) = refl
event_sets_same table line (Some Flush) = refl
event_sets_same table line (Some (Control cd nw)) = refl
event_sets_same table line (Some Reset) = refl

pub sets_same : (table line : List ℕ) → line_sets_nw (line_call table line) ≡ line_sets_nw (line_call block_answers line)
sets_same table line = event_sets_same table line (scanned line)

-- 'none is above' and 'each is at most'
none_above : (limit : ℕ) (xs : List ℕ) → ((i : ℕ) → get_or xs i 0 ≤ limit) → some_above limit xs ≡ false
unfolding some_above
none_above limit [] h = refl
none_above limit (x ∷ xs) h = rw (le-ltb limit x (h 0)) (none_above limit xs (λ i. h (suc i)))

each_within : (limit : ℕ) (xs : List ℕ) → some_above limit xs ≡ false → (i : ℕ) → get_or xs i 0 ≤ limit
unfolding some_above
each_within limit [] e i = omega arith
each_within limit (x ∷ xs) e zero = ltb-false limit x (neither (ltb limit x) (some_above limit xs) e).0
each_within limit (x ∷ xs) e (suc i) = each_within limit xs (neither (ltb limit x) (some_above limit xs) e).1 i

pub ours_good : GoodTable block_answers
unfolding some_above
ours_good = each_within highest_answer block_answers refl

-- of answers the plain memory asks how many they are, and whether one is above 7
module _ (m : PlainMemory) (xs ys : List ℕ) (l : length xs ≡ length ys) (b : some_above highest_answer xs ≡ some_above highest_answer ys) where
  read_same : (address width : ℕ) (pcd : Bool) → plain m (read address width pcd xs zero_log []) [] ≡ plain m (read address width pcd ys zero_log []) []
  unfolding plain plain_number plain_done
  read_same address width pcd = rw (l, b)

  write_same : (address width value : ℕ) → plain m (write address width value xs zero_log) [] ≡ plain m (write address width value ys zero_log) []
  unfolding plain plain_number plain_done
  write_same address width value = rw (l, b)

-- the board's answers by such a table are as many as by ours, and none is above 7 either
module _ (table : List ℕ) (good : GoodTable table) where
  length_same : (address width : ℕ) → length (board_answers table address width) ≡ length (board_answers block_answers address width)
  length_same address width = board_length table address width ∙ sym (board_length block_answers address width)

  above_same : (address width : ℕ) → some_above highest_answer (board_answers table address width) ≡ some_above highest_answer (board_answers block_answers address width)
  above_same address width =
      none_above highest_answer _ (board_within table address width highest_answer good)
      ∙ sym (none_above highest_answer _ (board_within block_answers address width highest_answer ours_good))

  event_plain_same : (m : PlainMemory) (line : List ℕ) (e : Option Event) → plain_call m (option_map (call_of table line) e) ≡ plain_call m (option_map (call_of block_answers line) e)
  unfolding call_of plain_call
  event_plain_same m line None = refl
  event_plain_same m line (Some (Read address width pcd)) = read_same m _ _ (length_same address width) (above_same address width) address width pcd
  event_plain_same m line (Some (Write address width value)) = write_same m _ _ (length_same address width) (above_same address width) address width value
  event_plain_same m line (Some (External address from)) = refl
  event_plain_same m line (Some (Snoop address)) = refl
  event_plain_same m line (Some Flush) = refl
  event_plain_same m line (Some (Control cd nw)) = refl
  event_plain_same m line (Some Reset) = refl

  pub plain_same : (m : PlainMemory) (line : List ℕ) → plain_call m (line_call table line) ≡ plain_line m line
  plain_same m line = event_plain_same m line (scanned line)

-- Demand 3 carried to the program: the answer and value columns are the plain memory's, with every table of answers up to 7.
use Prim.Native.Nat.{ℕ, suc, ◌/◌, ◌%◌, ◌<◌, ◌≤◌}
use mathlib.Core.Path.{◌≡◌, refl, ◌∙◌}
use mathlib.Core.Bool.{Bool, true, false, true≢false}
use mathlib.Core.List.{List, [], ◌∷◌}
use native.Mathlib.Omega.{arith}
use lib.ListN.{replicate, length-replicate}
use Rattle.laws.proofs.Below.{four}
use Rattle.laws.proofs.Tests.{differ}
use Rattle.words.proofs.Places.{zeros_at}
use Rattle.memory.specs.Parity.{memory, Agrees, dp_at, lane_bit, dp_of, ones_of}
use Rattle.refusal.specs.Call.{State, next_state}
use Rattle.calls.specs.Calls.{Call, step, records_left}
use Rattle.calls.specs.Plain.{PlainMemory, plain_memory}
use Rattle.calls.specs.Matches.{Kind, test_writing, test_reading, emptying, reading, setting, other, kind_of, testing, plants, alters, sets_nw, SameResults}
use Rattle.board.specs.Board.{block_answers, GoodTable}
use Rattle.fields.specs.Fields.{lines_of}
use Rattle.std.specs.Prelude.{Option, Some, None}
use Rattle.std.specs.Option.{option_map}
use Rattle.lines.specs.declared.Event.{Event}
use Rattle.lines.specs.declared.Event.TheVariants.{Read, Write, External, Snoop, Flush, Control, Reset}
use Rattle.lines.specs.Scan.{scanned}
use Rattle.performing.specs.Perform.{call_of, line_call, call_done, line_done}
use Rattle.events.specs.Output.{rows_of, start, output_of}
use Rattle.agreement.specs.Agreement.{Legal}
use Rattle.columns.specs.Program.{plain_call, plain_line, plain_rows, counts_of, plain_output, line_sets_nw, NoLineSetsNw, EveryTable, EveryLoaded, Columns}
use Rattle.columns.proofs.Tables.{sets_same, plain_same, ours_good}
use Rattle.block_table.proofs.Given.{loaded_gives}
use Rattle.calls.proofs.Kept.{call_kept}
use Rattle.calls.proofs.Coherence.{Coherent}
use Rattle.calls.proofs.Steps.{Allowed, refused_matches, call_matches}
use Rattle.calls.proofs.Told.{carries_none, told_alone, rom_stays, none_inactive}
use Rattle.agreement.proofs.Demand.{start_coherent}

-- no event of a line makes a test call
abbrev line_tests : Option Call → Bool
line_tests None = false
line_tests (Some c) = testing (kind_of c)

no_test : (table line : List ℕ) (e : Option Event) → line_tests (option_map (call_of table line) e) ≡ false
unfolding call_of
no_test table line None = refl
no_test table line (Some (Read address width pcd)) = refl
no_test table line (Some (Write address width value)) = refl
no_test table line (Some (External address from)) = refl
no_test table line (Some (Snoop address)) = refl
no_test table line (Some Flush) = refl
no_test table line (Some (Control cd nw)) = refl
no_test table line (Some Reset) = refl

-- so none plants a line
no_plant : (k : Kind) (number : ℕ) → testing k ≡ false → plants k number ≡ false
no_plant test_writing number t = absurd (true≢false t)
no_plant test_reading number t = refl
no_plant emptying number t = refl
no_plant reading number t = refl
no_plant setting number t = refl
no_plant other number t = refl

-- none sets a range
abbrev line_sets : Option Call → Bool
line_sets None = false
line_sets (Some c) = alters (kind_of c) 0

no_range : (table line : List ℕ) (e : Option Event) → line_sets (option_map (call_of table line) e) ≡ false
unfolding call_of
no_range table line None = refl
no_range table line (Some (Read address width pcd)) = refl
no_range table line (Some (Write address width value)) = refl
no_range table line (Some (External address from)) = refl
no_range table line (Some (Snoop address)) = refl
no_range table line (Some Flush) = refl
no_range table line (Some (Control cd nw)) = refl
no_range table line (Some Reset) = refl

never_sets : (k : Kind) (number : ℕ) → alters k 0 ≡ false → alters k number ≡ false
never_sets test_writing number h = refl
never_sets test_reading number h = refl
never_sets emptying number h = refl
never_sets reading number h = refl
never_sets setting number h = absurd (true≢false h)
never_sets other number h = refl

-- and none carries writes
abbrev line_alone : Option Call → Bool
line_alone None = true
line_alone (Some c) = carries_none c

all_alone : (table line : List ℕ) (e : Option Event) → line_alone (option_map (call_of table line) e) ≡ true
unfolding call_of
all_alone table line None = refl
all_alone table line (Some (Read address width pcd)) = refl
all_alone table line (Some (Write address width value)) = refl
all_alone table line (Some (External address from)) = refl
all_alone table line (Some (Snoop address)) = refl
all_alone table line (Some Flush) = refl
all_alone table line (Some (Control cd nw)) = refl
all_alone table line (Some Reset) = refl

-- a malformed line, and one that makes a call
module _ (s : State) (m : PlainMemory) (none-rom : m.rom ≡ []) (c : Coherent m.rom s m.bytes) where
  allowed : (x : Call) → sets_nw x ≡ false → alters (kind_of x) 0 ≡ false → Allowed s m c x
  allowed x q h =
      record {
        nw = q;
        ken = rw none-rom (none_inactive x);
        ranges = λ e. absurd (differ e (never_sets (kind_of x) _ h));
      }

  line_matches : (x : Option Call) → line_alone x ≡ true → line_tests x ≡ false → line_sets_nw x ≡ false → line_sets x ≡ false → SameResults (call_done s x) (plain_call m x)
  unfolding call_done plain_call
  line_matches None a t q h = (refused_matches s m c 11 []).results
  line_matches (Some x) a t q h = rw (told_alone m x a (records_left (step s x))) at ((call_matches s m c x (allowed x q h)).matches.results t)

  line_coherent : (x : Option Call) → line_alone x ≡ true → line_tests x ≡ false → line_sets_nw x ≡ false → line_sets x ≡ false →
      Coherent (plain_call m x).memory.rom (next_state (call_done s x)) (plain_call m x).memory.bytes
  unfolding call_done plain_call
  line_coherent None a t q h = c
  line_coherent (Some x) a t q h =
      record {
        kept = call_kept s c.kept x;
        beside = rw (told_alone m x a (records_left (step s x))) at ((call_matches s m c x (allowed x q h)).beside (no_plant (kind_of x) _ t));
      }

  line_rom : (x : Option Call) → line_sets x ≡ false → (plain_call m x).memory.rom ≡ []
  unfolding plain_call
  line_rom None h = none-rom
  line_rom (Some x) h = rom_stays m x h [] ∙ none-rom

module _ (table : List ℕ) (good : GoodTable table) where
  rows_agree : (lines : List (List ℕ)) (s : State) (m : PlainMemory) (event : ℕ) → m.rom ≡ [] → Coherent m.rom s m.bytes → NoLineSetsNw lines → rows_of table s event lines ≡ plain_rows m event lines (counts_of table s lines)
  unfolding rows_of plain_rows counts_of
  rows_agree [] s m event z c n = refl
  rows_agree (line ∷ lines) s m event z c n =
      let x = line_call table line in
      let t = no_test table line (scanned line) in
      let a = all_alone table line (scanned line) in
      let q = sets_same table line ∙ n.0 in
      let h = no_range table line (scanned line) in
      let p = plain_same table good m line in
      let g : SameResults (call_done s x) (plain_line m line) = rw p at (line_matches s m z c x a t q h) in
      let k : Coherent (plain_line m line).memory.rom (next_state (call_done s x)) (plain_line m line).memory.bytes = rw p at (line_coherent s m z c x a t q h) in
      let y : (plain_line m line).memory.rom ≡ [] = rw p at (line_rom s m z c x h) in
      rw (g.numbers, g.values, rows_agree lines (next_state (line_done table s line)) (plain_line m line).memory (suc event) y k n.1)

-- zeros have parity that agrees
no_bit : (lane : ℕ) → lane < 4 → lane_bit 0 lane ≡ dp_of 0
unfolding lane_bit dp_of ones_of
no_bit = four (λ k. lane_bit 0 k ≡ dp_of 0) refl refl refl refl

zeros_agree : (ram parity : ℕ) → Agrees (memory (replicate ram 0) (replicate parity 0))
unfolding dp_at
zeros_agree ram parity =
    record { agree = λ a l. rw (zeros_at parity (a / 4), zeros_at ram a) (no_bit (a % 4) (omega arith)) }

-- document 01's lengths, all zeros
zeros_legal : (ram parity array : ℕ) → 16 ≤ ram → ram ≤ 16777216 → ram % 16 ≡ 0 → parity ≡ ram / 4 → array ≡ 8192 →
    Legal (memory (replicate ram 0) (replicate parity 0)) (replicate array 0)
zeros_legal ram parity array least most whole bits e =
    let n = length-replicate {A = ℕ} ram 0 in
    record {
      least = rw n least;
      most = rw n most;
      whole = rw n whole;
      parity_length = rw (n, length-replicate {A = ℕ} parity 0) bits;
      array_length = rw (length-replicate {A = ℕ} array 0) e;
      agrees = zeros_agree ram parity;
    }

pub every_table : EveryTable
unfolding output_of plain_output start
every_table table good input n =
    let c = start_coherent (memory (replicate 65536 0) (replicate 16384 0)) (replicate 8192 0) (zeros_legal 65536 16384 8192 (omega arith) (omega arith) refl refl refl) in
    rw (rows_agree table good (lines_of input) start (plain_memory (replicate 65536 0) []) 1 refl c n)

pub every_loaded : EveryLoaded
every_loaded given text z = every_table _ (loaded_gives given text z).good

pub columns : Columns
columns = every_table block_answers ours_good

-- Document 01, 'Bench table († marked)': the † rows, of the rules as a group. `proofs/Bench.antt` proves them.
use Rattle.std.specs.Prelude.{ℕ, ◌*◌, ◌-◌, ◌≡◌, false, List, [], ◌∷◌, take, replicate, Option, Some}
use Rattle.ways.specs.Address.{data_size}
use Rattle.directory.specs.declared.steps.Directory.{Directory}
use Rattle.directory.specs.Steps.{lookup_of, first_reset, after_control}
use Rattle.memory.specs.Parity.{memory}
use Rattle.bus.specs.Groups.{answer_count, log_size}
use Rattle.refusal.specs.Call.{State, state, After}
use Rattle.access.specs.Access.{read_call, write_call}

-- A unit after a reset and a control call with CD = NW = 0, with so many zero bytes of RAM and of parity.
abbrev pub enabled : ℕ → ℕ → State
enabled ram parity = state (after_control first_reset false false) (memory (replicate ram 0) (replicate parity 0)) (replicate data_size 0)

-- The same answer throughout, and a log of zero words that is just long enough.
abbrev pub always : ℕ → List ℕ
always answer = replicate answer_count answer

abbrev pub bench_log : List ℕ
bench_log = replicate log_size 0

-- A read and a write of such a unit with 32 bytes of RAM.
abbrev pub bench_read : ℕ → ℕ → List ℕ → After
bench_read address width answers = read_call (enabled 32 8) address width false answers bench_log []

abbrev pub bench_write : ℕ → ℕ → ℕ → List ℕ → After
bench_write address width value answers = write_call (enabled 32 8) address width value answers bench_log

-- All records of a call, three words each, as many as it counts cycles.
abbrev pub records_left : After → List ℕ
records_left a = take (3 * a.outcome.cycles) a.log

-- The directory after reads that fill, one after another.
abbrev pub after_reads : Directory → List ℕ → Directory
after_reads d [] = d
after_reads d (a ∷ rest) =
    after_reads
    (read_call (state d (memory (replicate 10256 0) (replicate 2564 0)) (replicate data_size 0)) a 4 false (always 1) bench_log []).outcome.directory
    rest

-- "0, 800, 1000, 1800, 2000 (hex)", and the sixth at 2800.
abbrev pub bench_addresses : List ℕ
bench_addresses = 0 ∷ 0x800 ∷ 0x1000 ∷ 0x1800 ∷ 0x2000 ∷ 0x2800 ∷ []

-- The way that holds an address after the first n of these reads.
abbrev pub way_after : ℕ → ℕ → Option ℕ
way_after n a = lookup_of (after_reads (after_control first_reset false false) (take n bench_addresses)) a

-- Each row is a field, in the table's order.
pub record BenchTable : Type 0 where
  -- "32-bit write at 0: flags 95."
  pub write_at_0 : records_left (bench_write 0 4 287454020 (always 1)) ≡ 0 ∷ 95 ∷ 287454020 ∷ []
  -- "Fill from 4: addresses 4, 0, 12, 8, flags 47, 47, 47, 111."
  pub fill_from_4 : records_left (bench_read 4 4 (always 1)) ≡ 4 ∷ 47 ∷ 0 ∷ 0 ∷ 47 ∷ 0 ∷ 12 ∷ 47 ∷ 0 ∷ 8 ∷ 111 ∷ 0 ∷ []
  -- "Two bytes read at 3, no KEN#: 72, then 65."
  pub two_at_3 : records_left (bench_read 3 2 (always 0)) ≡ 0 ∷ 72 ∷ 0 ∷ 4 ∷ 65 ∷ 0 ∷ []
  -- "Two read at 1, BS16#: 2, 68."
  pub two_at_1 : records_left (bench_read 1 2 (always 4)) ≡ 0 ∷ 2 ∷ 0 ∷ 0 ∷ 68 ∷ 0 ∷ []
  -- "Two read at 0, answer 6: 1, 66."
  pub two_at_0 : records_left (bench_read 0 2 (always 6)) ≡ 0 ∷ 1 ∷ 0 ∷ 0 ∷ 66 ∷ 0 ∷ []
  -- "Fill under BS8#: 16 cycles."
  pub byte_fill : (bench_read 0 1 (always 3)).outcome.cycles ≡ 16
  -- "Empty set filled from 0, 800, 1000, 1800, 2000 (hex): ways 0, 1, 2, 3, 0."
  pub first_way : way_after 1 0 ≡ Some 0
  pub second_way : way_after 2 0x800 ≡ Some 1
  pub third_way : way_after 3 0x1000 ≡ Some 2
  pub fourth_way : way_after 4 0x1800 ≡ Some 3
  pub fifth_way : way_after 5 0x2000 ≡ Some 0
  -- "A sixth at 2800: way 2."
  pub sixth_way : way_after 6 0x2800 ≡ Some 2
  -- "KEN# first only: nothing held."
  pub ken_first_only : (bench_read 0 4 (1 ∷ replicate (answer_count - 1) 0)).outcome.directory ≡ (enabled 32 8).directory
  -- "Width 3: 4."
  pub width_3_read : (bench_read 0 3 (always 1)).outcome.number ≡ 4
  pub width_3_written : (bench_write 0 3 1 (always 1)).outcome.number ≡ 4

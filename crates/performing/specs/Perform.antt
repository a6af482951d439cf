-- Document 01, 'Board table and program': the call that the event of a line makes, and what the line does.
use Rattle.std.specs.Prelude.{ℕ, ◌≡◌, Option, Some, None, List, [], drop, replicate}
use Rattle.std.specs.Option.{option_map}
use Rattle.bus.specs.Groups.{log_size}
use Rattle.refusal.specs.Call.{State, After, refused}
use Rattle.access.specs.declared.CallResult.{CallResult}
use Rattle.access.specs.Access.{leaves}
use Rattle.calls.specs.Calls.{Call, read, write, external, snoop, flush, control, reset, step}
use Rattle.board.specs.Board.{board_answers}
use Rattle.lines.specs.declared.Event.{Event}
use Rattle.lines.specs.declared.Event.TheVariants.{Read, Write, External, Snoop, Flush, Control, Reset}
use Rattle.fields.specs.Fields.{pair_bytes}
use Rattle.lines.specs.Scan.{scanned}

-- Each read and write has a log of its own, which no row shows.
abbrev pub zero_log : List ℕ
zero_log = replicate log_size 0

-- "R address width PCD; W address width value; X address bytes ..; S address; F; C CD NW; Z (reset)": the call that an event of a line makes, a read
-- or a write with the board's answers by a table (document 02, C-16: "the run over event lines takes it"); the read carries no writes.
unfoldable pub call_of : List ℕ → List ℕ → Event → Call
call_of table line (Read address width pcd) = read address width pcd (board_answers table address width) zero_log []
call_of table line (Write address width value) = write address width value (board_answers table address width) zero_log
call_of table line (External address from) = external address (pair_bytes (drop from line))
call_of table line (Snoop address) = snoop address
call_of table line Flush = flush
call_of table line (Control cd nw) = control cd nw
call_of table line Reset = reset

-- The call of a line. A malformed line makes none.
abbrev pub line_call : List ℕ → List ℕ → Option Call
line_call table line = option_map (call_of table line) (scanned line)

-- "A malformed line .. gives its row with 11, 0, 0, changes nothing"; any other does what its call does.
unfoldable pub call_done : State → Option Call → After
call_done s None = refused 11 s []
call_done s (Some c) = step s c

-- What a line leaves.
abbrev pub line_done : List ℕ → State → List ℕ → After
line_done table s line = call_done s (line_call table line)

-- The program's call leaves this, with its answer and in this state. Its log is its own.
abbrev pub Leaves : After → CallResult → State → Type 0
Leaves a r s = leaves r s a.log ≡ a

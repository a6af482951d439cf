-- Laws of the run: the rows that are left from here give what the whole gives.
use Prim.Native.Nat.{ℕ, ◌+◌, ◌*◌, ◌/◌, ◌≤◌, ◌<◌}
use mathlib.Core.Path.{◌≡◌, refl, sym, ap, ◌∙◌}
use mathlib.Core.List.{List, [], ◌∷◌, ◌++◌}
use native.Mathlib.Numerals.{add-one}
use native.Mathlib.Omega.{arith}
use lib.ListN.{length, length-replicate, length-append}
use lib.Seq.{sets, length-sets}
use borrow.Author.Tests.{lt-ltb, le-ltb}
use Rattle.laws.proofs.Lists.{sets_append}
use Rattle.ways.specs.Address.{data_size}
use Rattle.memory.specs.Parity.{Memory}
use Rattle.directory.specs.declared.steps.Outcome.{Outcome}
use Rattle.refusal.specs.Call.{State, state, after}
use Rattle.fields.specs.Fields.{lines_of}
use Rattle.rows.specs.Row.{header, row_of}
use Rattle.performing.specs.Perform.{line_done}
use Rattle.events.specs.Output.{ram_size, row_for, rows_of, start, output_of}

-- What the loop over the lines keeps: the rows of the lines that are left, put here, give what all rows give.
module _ (table input out₀ : List ℕ) (from : ℕ) where
  pub record RunInvariant (s : State) (out rest : List ℕ) (event at : ℕ) : Type 0 where
    pub rows : at + length (rows_of table s event (lines_of rest)) ≡ from + length (rows_of table start 1 (lines_of input))
    pub printed : sets out at (rows_of table s event (lines_of rest)) ≡ sets out₀ from (rows_of table start 1 (lines_of input))
    pub events : event + length rest ≤ length input + 1
    pub most : at + 54 ≤ from + 54 * event
    pub out_length : length out ≡ length out₀
    pub ram_length : length s.memory.ram ≡ ram_size
    pub parity_length : length s.memory.parity ≡ ram_size / 4
    pub array_length : length s.array ≡ data_size

  pub run_begin : RunInvariant start out₀ input 1 from
  unfolding start
  run_begin =
      record {
        rows = refl;
        printed = refl;
        events = omega arith;
        most = omega arith;
        out_length = refl;
        ram_length = length-replicate {A = ℕ} ram_size 0;
        parity_length = length-replicate {A = ℕ} (ram_size / 4) 0;
        array_length = length-replicate {A = ℕ} data_size 0;
      }

  module _ (s : State) (out rest : List ℕ) (event at : ℕ) (inv : RunInvariant s out rest event at) where
    -- the next line is done, and its row put
    pub run_next : (line left : List ℕ) (done : Outcome) (m : Memory) (array log out' : List ℕ) (size : ℕ)
        → lines_of rest ≡ line ∷ lines_of left
        → length left < length rest
        → after done m array log ≡ line_done table s line
        → (length m.ram ≡ length s.memory.ram) × (length m.parity ≡ length s.memory.parity) × (length array ≡ length s.array)
        → ((size ≡ length (row_for event done)) × (out' ≡ sets out at (row_for event done))) × (size ≤ 54)
        → RunInvariant (state done.directory m array) out' left (event + 1) (at + size)
    unfolding rows_of
    run_next line left done m array log out' size first shorter d (lr, lp, la) ((n, p), few) =
        let row = row_for event done in
        let later = rows_of table (state done.directory m array) (event + 1) (lines_of left) in
        let both : rows_of table s event (lines_of rest) ≡ row ++ later = rw (first, ← d, add-one event) in
        record {
          rows = omega (arith, inv.rows, ap length both, length-append row later, n);
          printed = rw (n, p) (sym (sets_append out at row later) ∙ ap (sets out at) (sym both) ∙ inv.printed);
          events = omega (arith, inv.events, shorter);
          most = omega (arith, inv.most, few);
          out_length = ap length p ∙ length-sets out at row ∙ inv.out_length;
          ram_length = lr ∙ inv.ram_length;
          parity_length = lp ∙ inv.parity_length;
          array_length = la ∙ inv.array_length;
        }

    -- no line is left
    pub run_end : lines_of rest ≡ [] → (at ≡ from + length (rows_of table start 1 (lines_of input))) × (out ≡ sets out₀ from (rows_of table start 1 (lines_of input)))
    unfolding rows_of
    run_end none =
        let empty : rows_of table s event (lines_of rest) ≡ [] = rw none in
        (omega (arith, inv.rows, ap length empty), rw empty at inv.printed)

-- the output of a long input, and of any other
pub output_long : (table input : List ℕ) → 65536 < length input → output_of table input ≡ header ++ row_of 0 12 0 0
unfolding output_of
output_long table input h = rw (lt-ltb 65536 (length input) h)

pub output_lines : (table input : List ℕ) → length input ≤ 65536 → output_of table input ≡ header ++ rows_of table start 1 (lines_of input)
unfolding output_of
output_lines table input h = rw (le-ltb 65536 (length input) h)

-- the header and what stands after it
pub after_header : (out rows o p : List ℕ) (at end : ℕ)
    → (at ≡ length header) × (o ≡ sets out 0 header)
    → (end ≡ at + length rows) × (p ≡ sets o at rows)
    → (end ≡ length (header ++ rows)) × (p ≡ sets out 0 (header ++ rows))
after_header out rows o p at end (ea, eo) (ee, ep) =
    let zero-at : 0 + length header ≡ at = omega (arith, ea) in
    (omega (arith, ea, ee, length-append header rows), ep ∙ rw (eo, ← zero-at) (sym (sets_append out 0 header rows)))

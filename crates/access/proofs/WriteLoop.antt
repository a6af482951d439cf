-- Laws of the loops over the doublewords of a write.
use Prim.Native.Nat.{ℕ, ◌<◌}
use mathlib.Core.Path.{◌≡◌, ◌∙◌, ap}
use mathlib.Core.List.{List}
use lib.ListN.{length}
use Rattle.ranges.specs.Ranges.{Range}
use Rattle.directory.specs.declared.steps.Directory.{Directory}
use Rattle.memory.specs.Parity.{Memory}
use Rattle.doubleword.specs.declared.change.Change.{Change}
use Rattle.doubleword.specs.declared.cursor.AccessCursor.{AccessCursor}
use Rattle.doubleword.specs.Doubleword.{Doubleword, Done, changed}
use Rattle.doubleword.specs.Cursor.{line_address, count_of, access_next, next_doubleword, AccessNeeds}
use Rattle.doubleword.proofs.Cursors.{needs_lengths, needs_more, cursor_needs}
use Rattle.writing.specs.WritingCode.{Writes}
use Rattle.refusal.specs.Call.{state}
use Rattle.access.specs.Access.{Progress, all_of, next, write_one}
use Rattle.access.proofs.AccessLoop.{rest_of, AccessInvariant, access_invariant_next, all_next}

-- the loop of a write, with the lengths of its buffers
pub record WriteKept (rs : List Range) (operand xs : List ℕ) (p : Progress) (log₀ array₀ : List ℕ) (m₀ : Memory) (cursor : AccessCursor) (d : Directory) (m : Memory) (array log : List ℕ) : Type 0 where
  pub writing : AccessInvariant (all_of (write_one rs operand) (state d m array) (rest_of cursor xs)) p log₀ cursor.cycles log
  pub needs : AccessNeeds cursor (length m₀.ram) (length m₀.parity) (length array₀) (length xs) (length log₀)
  pub rams : length m.ram ≡ length m₀.ram
  pub parities : length m.parity ≡ length m₀.parity
  pub arrays : length array ≡ length array₀
  pub logs : length log ≡ length log₀

module _ {rs : List Range} {operand xs : List ℕ} {p : Progress} {log₀ array₀ : List ℕ} {m₀ : Memory} {cursor : AccessCursor} {d : Directory} {m : Memory} {array log : List ℕ} (g : WriteKept rs operand xs p log₀ array₀ m₀ cursor d m array log) (some : 0 < cursor.left) where
  pub kept_needs : AccessNeeds cursor (length m.ram) (length m.parity) (length array) (length xs) (length log)
  kept_needs = needs_lengths g.rams g.parities g.arrays g.logs g.needs

  abbrev here : Doubleword
  here = next_doubleword cursor xs

  abbrev done : Done
  done = write_one rs operand (state d m array) here

  -- the next turn
  pub kept_next : {change : Change} {n : ℕ} {m' : Memory} {array' log' : List ℕ} → Writes done cursor.cycles log change n m' array' log' →
      (line count : ℕ) → line ≡ line_address cursor → count ≡ count_of cursor → (d' : Directory) (u : AccessCursor) → d' ≡ changed d line change → u ≡ access_next cursor count n →
      length m'.ram ≡ length m.ram → length m'.parity ≡ length m.parity → length array' ≡ length array → length log' ≡ length log →
      WriteKept rs operand xs p log₀ array₀ m₀ u d' m' array' log'
  kept_next {n = n} {m' = m'} {array' = array'} {log' = log'} k line count en ec d' u ed eu er ep ea el =
      let c : d' ≡ changed d here.line done.change = (rw en at ed) ∙ ap (changed d here.line) k.changes in
      let es : state d' m' array' ≡ next (state d m array) here done =
      ap (λ (x : Directory). state x m' array') c
      ∙ ap (λ (x : Memory). state (changed d here.line done.change) x array') k.memories
      ∙ ap (λ (x : List ℕ). state (changed d here.line done.change) done.memory x) k.arrays in
      record {
        writing =
            rw (eu, ec, es)
            (access_invariant_next g.writing done _ log' n (all_next (write_one rs operand) xs cursor (state d m array) some (needs_more _ _ _ _ _ _ g.needs some) n) k.logs k.made);
        needs = cursor_needs cursor u count n some ec eu _ _ _ _ _ k.most g.needs;
        rams = er ∙ g.rams;
        parities = ep ∙ g.parities;
        arrays = ea ∙ g.arrays;
        logs = el ∙ g.logs;
      }

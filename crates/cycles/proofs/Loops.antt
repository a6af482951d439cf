-- What the loop over the doublewords of a fill keeps: what completes the rest completes the whole.
use Prim.Native.Nat.{ℕ, ◌+◌, ◌*◌, ◌≤◌, ◌<◌}
use mathlib.Core.Path.{◌≡◌, ◌∙◌, ap}
use mathlib.Core.List.{List, map}
use native.Mathlib.Omega.{arith}
use lib.Dec.{eqb}
use lib.ListN.{length, get_or, drop, length-drop}
use lib.Seq.{length-sets}
use Rattle.bus.specs.Bus.{run, Cycle, cycles_of, burst_order, burst}
use Rattle.bus.specs.Record.{Record, words_of}
use Rattle.bus.specs.Runs.{run_cycles}
use Rattle.bus.proofs.Runs.{run_some, run_most}
use Rattle.bus.proofs.BurstOrder.{burst_turn, burst_done}
use Rattle.parts.specs.Made.{CyclesMade}
use Rattle.parts.proofs.Made.{made_next, made_nothing}

module _ (make : Cycle → Record) (xs : List ℕ) (start first : ℕ) (log₀ : List ℕ) where
  pub record FillInvariant (turn used : ℕ) (log : List ℕ) : Type 0 where
    pub rest : (r : ℕ) (log' : List ℕ) → CyclesMade make (cycles_of (drop used xs) (drop turn (burst start))) first used log r log' → CyclesMade make (cycles_of xs (burst start)) first 0 log₀ r log'
    pub turns : turn ≤ 4
    pub some : turn ≤ used
    pub most : used ≤ 4 * turn
    pub lengths : length log ≡ length log₀

  pub fill_next : (turn used from r : ℕ) (log log' : List ℕ) → turn < 4 → 16 ≤ length xs → FillInvariant turn used log → from ≡ get_or (burst_order (start * 4)) turn 0 →
      CyclesMade make (run_cycles (eqb turn 3) (drop used xs) (run from 4)) first used log r log' →
      FillInvariant (turn + 1) r log'
  fill_next turn used from r log log' tl enough k ef g =
      let t = burst_turn start turn tl in
      let n = length-drop used xs in
      let a = run_some (eqb turn 3) (drop used xs) (run from 4) (rw n (omega (arith, k.most))) in
      let b = run_most (eqb turn 3) (drop used xs) from 4 (omega arith) in
      record {
        rest = λ r' log'' h. k.rest r' log'' (rw t.next (made_next make xs first _ _ used r r' log log' log'' (rw (t.last, ← ef) g) h));
        turns = omega arith;
        some = omega (arith, g.made, k.some);
        most = omega (arith, g.made, k.most);
        lengths = ap length g.logs ∙ length-sets log (3 * (first + used)) (words_of (map make (run_cycles (eqb turn 3) (drop used xs) (run from 4)))) ∙ k.lengths;
      }

  pub fill_end : (turn used : ℕ) (log : List ℕ) → 4 ≤ turn → FillInvariant turn used log → CyclesMade make (cycles_of xs (burst start)) first 0 log₀ used log
  fill_end turn used log l k = k.rest used log (rw (burst_done start turn (omega (arith, k.turns))) (made_nothing make xs first used log))

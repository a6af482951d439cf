-- The cycles of one run of wanted bytes among others. That all cycles are these, run after run, is a law: `cycles_run`.
use Rattle.std.specs.Prelude.{ℕ, ◌+◌, ◌-◌, Bool, cond, ◌&&◌, List, [], ◌∷◌, eqb}
use Rattle.bus.specs.Bus.{Run, run, size_of, Cycle}

-- The cycles that answers, in turn, make for one run. last: nothing else is wanted after it.
unfoldable pub run_cycles : Bool → List ℕ → Run → List Cycle
run_cycles last [] w = []
run_cycles last (x ∷ xs) w =
    record { moved = run w.from (size_of x w); answer = x; last = eqb (size_of x w) w.count && last }
    ∷ cond (eqb (size_of x w) w.count) [] (run_cycles last xs (run (w.from + size_of x w) (w.count - size_of x w)))

-- Laws of the cycles of one run: one after another, and among other runs.
use Prim.Native.Nat.{ℕ, suc, ◌+◌, ◌-◌, ◌≤◌, ◌<◌}
use mathlib.Core.Path.{◌≡◌, refl, sym, ◌∙◌, ap}
use mathlib.Core.Bool.{Bool, true, false, cond, ◌&&◌}
use mathlib.Core.List.{List, [], ◌∷◌, ◌++◌, append-nil}
use native.Mathlib.Omega.{arith}
use lib.Dec.{eqb}
use lib.ListN.{length, get_or, drop}
use borrow.Author.Tests.{eqb-false, eq-eqb, ne_eqb}
use Rattle.laws.proofs.Tests.{by_test}
use Rattle.bus.specs.Bus.{Run, run, size_of, wanted_after, Cycle, none, cycles_of, last_answer}
use Rattle.bus.specs.Runs.{run_cycles}
use Rattle.bus.proofs.Sizing.{size_some, size_most}

-- CYCLES OF A RUN

-- all that is wanted, or some of it
pub step_one : (last : Bool) (x : ℕ) (xs : List ℕ) (from count : ℕ) → size_of x (run from count) ≡ count →
    run_cycles last (x ∷ xs) (run from count) ≡ record { moved = run from count; answer = x; last = last } ∷ []
unfolding run_cycles
step_one last x xs from count e = rw (e, eq-eqb count count refl)

pub step_then : (last : Bool) (x : ℕ) (xs : List ℕ) (from count size : ℕ) → size_of x (run from count) ≡ size → size < count →
    run_cycles last (x ∷ xs) (run from count) ≡ record { moved = run from size; answer = x; last = false } ∷ run_cycles last xs (run (from + size) (count - size))
unfolding run_cycles
step_then last x xs from count size e l = rw (e, ne_eqb size count (λ z. omega arith))

-- at most as many cycles as bytes
pub run_most : (last : Bool) (xs : List ℕ) (from count : ℕ) → 0 < count → length (run_cycles last xs (run from count)) ≤ count
unfolding run_cycles
run_most last [] from count h = omega arith
run_most last (x ∷ xs) from count h =
    let w = run from count in
    let a = size_some x from count h in
    let b = size_most x from count in
    by_test (λ t. eqb (size_of x w) count ≡ t → suc (length (cond t [] (run_cycles last xs (run (from + size_of x w) (count - size_of x w))))) ≤ count)
    (eqb (size_of x w) count)
    (λ _ e. omega arith)
    (λ _ e.
    let n = eqb-false (size_of x w) count e in
    let k : 0 < count - size_of x w = omega arith in
    let r = run_most last xs (from + size_of x w) (count - size_of x w) k in
    omega arith)
    refl

-- AMONG OTHER RUNS

pub cycles_none : (xs : List ℕ) → cycles_of xs [] ≡ []
unfolding cycles_of
cycles_none [] = refl
cycles_none (x ∷ xs) = refl

-- the cycles of wanted bytes are those of the first run, and then, on the answers left, those of the others
pub cycles_run : (xs : List ℕ) (w : Run) (ws : List Run) →
    cycles_of xs (w ∷ ws) ≡ run_cycles (none ws) xs w ++ cycles_of (drop (length (run_cycles (none ws) xs w)) xs) ws
unfolding cycles_of run_cycles wanted_after
cycles_run [] w ws = refl
cycles_run (x ∷ xs) w ws =
    let w' = run (w.from + size_of x w) (w.count - size_of x w) in
    by_test
    (λ b. ◌≡◌ {A = List Cycle}
    (record { moved = run w.from (size_of x w); answer = x; last = none (cond b ws (w' ∷ ws)) } ∷ cycles_of xs (cond b ws (w' ∷ ws)))
    ((record { moved = run w.from (size_of x w); answer = x; last = b && none ws } ∷ cond b [] (run_cycles (none ws) xs w'))
    ++ cycles_of (drop (suc (length (cond b [] (run_cycles (none ws) xs w')))) (x ∷ xs)) ws))
    (eqb (size_of x w) w.count)
    (λ _. refl)
    (λ _. ap (λ (cs : List Cycle). record { moved = run w.from (size_of x w); answer = x; last = false } ∷ cs) (cycles_run xs w' ws))

-- the cycles of one run alone
pub cycles_alone : (xs : List ℕ) (w : Run) → cycles_of xs (w ∷ []) ≡ run_cycles true xs w
cycles_alone xs w = cycles_run xs w [] ∙ rw (cycles_none (drop (length (run_cycles true xs w)) xs)) (append-nil (run_cycles true xs w))

-- a run whose answers do not run out makes a cycle
pub run_some : (last : Bool) (xs : List ℕ) (w : Run) → 0 < length xs → 0 < length (run_cycles last xs w)
unfolding run_cycles
run_some last [] w h = h
run_some last (x ∷ xs) w h = omega arith

-- the answer of the last cycle is the last that was used
last_used : (y : ℕ) (xs : List ℕ) (ws : List Run) → last_answer y (cycles_of xs ws) ≡ get_or (y ∷ xs) (length (cycles_of xs ws)) 0
unfolding cycles_of last_answer
last_used y [] ws = refl
last_used y (x ∷ xs) [] = refl
last_used y (x ∷ xs) (w ∷ ws) = last_used x xs (wanted_after x w ws)

pub last_answer_lem : (xs : List ℕ) (ws : List Run) (n : ℕ) → n ≡ length (cycles_of xs ws) → 0 < n → last_answer 0 (cycles_of xs ws) ≡ get_or xs (n - 1) 0
last_answer_lem xs ws n e h =
    let s : n ≡ suc (n - 1) = omega arith in
    last_used 0 xs ws ∙ ap (λ (k : ℕ). get_or (0 ∷ xs) k 0) (sym e ∙ s)

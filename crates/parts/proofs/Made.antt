-- What the code leaves for cycles, put together: one cycle after another, one run after another.
use Prim.Native.Nat.{ℕ, suc, ◌+◌, ◌-◌, ◌<◌}
use mathlib.Core.Path.{◌≡◌, refl, sym, ◌∙◌, ap}
use mathlib.Core.Bool.{Bool, false}
use mathlib.Core.List.{List, [], ◌∷◌, ◌++◌, map, map-append}
use native.Mathlib.Omega.{arith}
use native.Mathlib.Numerals.{add-one}
use lib.ListN.{length, get_or, drop, length-map, length-append}
use lib.Seq.{drop-cons, drop-drop}
use Rattle.bus.specs.Bus.{Run, run, size_of, Cycle, none, cycles_of}
use Rattle.bus.specs.Record.{Record, words_of, logged}
use Rattle.bus.specs.Runs.{run_cycles}
use Rattle.bus.proofs.Flags.{logged_append}
use Rattle.bus.proofs.Runs.{step_one, step_then, cycles_none, cycles_run}
use Rattle.parts.specs.Parts.{moving}
use Rattle.parts.specs.Made.{CyclesMade}

-- what the code leaves: the last cycle of a run, or one cycle and then the others. No record tells a cycle's answer.
module _ (make : Cycle → Record) (blind : (w : Run) (x : ℕ) (b : Bool) → make (record { moved = w; answer = x; last = b }) ≡ make (moving w.from w.count b))
    (last : Bool) (xs : List ℕ) (first : ℕ) where
  pub made_one : (from count used : ℕ) (log₀ log : List ℕ) → used < length xs → size_of (get_or xs used 0) (run from count) ≡ count →
      log ≡ logged log₀ (first + used) (make (moving from count last) ∷ []) →
      CyclesMade make (run_cycles last (drop used xs) (run from count)) first used log₀ (used + 1) log
  made_one from count used log₀ log l e el =
      let x = get_or xs used 0 in
      let s = ap (λ (ys : List ℕ). run_cycles last ys (run from count)) (drop-cons xs used 0 l) ∙ step_one last x (drop (suc used) xs) from count e in
      record { logs = rw (s, blind (run from count) x last) el; made = rw s }

  pub made_then : (from count size next left used r : ℕ) (log₀ log₁ log : List ℕ) → used < length xs → size_of (get_or xs used 0) (run from count) ≡ size → size < count →
      next ≡ from + size → left ≡ count - size →
      log₁ ≡ logged log₀ (first + used) (make (moving from size false) ∷ []) →
      CyclesMade make (run_cycles last (drop (used + 1) xs) (run next left)) first (used + 1) log₁ r log →
      CyclesMade make (run_cycles last (drop used xs) (run from count)) first used log₀ r log
  made_then from count size next left used r log₀ log₁ log l e k en ec el g =
      let x = get_or xs used 0 in
      let cs = run_cycles last (drop (used + 1) xs) (run next left) in
      let s : run_cycles last (drop used xs) (run from count) ≡ record { moved = run from size; answer = x; last = false } ∷ cs =
      ap (λ (ys : List ℕ). run_cycles last ys (run from count)) (drop-cons xs used 0 l)
      ∙ step_then last x (drop (suc used) xs) from count size e k
      ∙ rw (en, ec, add-one used) in
      let p : first + (used + 1) ≡ first + used + 1 = omega arith in
      record {
        logs = rw (s, blind (run from size) x false, logged_append log₀ (first + used) (make (moving from size false) ∷ []) (map make cs), ← el, ← p) g.logs;
        made = rw s (g.made ∙ omega arith);
      }

-- what the code leaves for the first run and then for the others, it leaves for all
module _ (make : Cycle → Record) (xs : List ℕ) (first : ℕ) where
  pub made_next : (w : Run) (ws : List Run) (used r r' : ℕ) (log₀ log₁ log : List ℕ) →
      CyclesMade make (run_cycles (none ws) (drop used xs) w) first used log₀ r log₁ →
      CyclesMade make (cycles_of (drop r xs) ws) first r log₁ r' log →
      CyclesMade make (cycles_of (drop used xs) (w ∷ ws)) first used log₀ r' log
  made_next w ws used r r' log₀ log₁ log g k =
      let a = run_cycles (none ws) (drop used xs) w in
      let b = cycles_of (drop r xs) ws in
      let d : drop (length a) (drop used xs) ≡ drop r xs = drop-drop (length a) used xs ∙ rw g.made in
      let s : cycles_of (drop used xs) (w ∷ ws) ≡ a ++ b = cycles_run (drop used xs) w ws ∙ rw d in
      let p : first + used + length (map make a) ≡ first + r = rw length-map (omega (arith, g.made)) in
      record {
        logs = rw (s, map-append, logged_append log₀ (first + used) (map make a) (map make b), ← g.logs, p) k.logs;
        made = rw (s, length-append) (k.made ∙ omega (arith, g.made));
      }

  pub made_nothing : (used : ℕ) (log : List ℕ) → CyclesMade make (cycles_of (drop used xs) []) first used log used log
  unfolding words_of
  made_nothing used log = rw (cycles_none (drop used xs)) (record { logs = refl; made = omega arith })

-- records that are the same are left the same
pub made_same : (f g : Cycle → Record) (cs ds : List Cycle) (first used r : ℕ) (log₀ log : List ℕ) → map f cs ≡ map g ds →
    CyclesMade f cs first used log₀ r log → CyclesMade g ds first used log₀ r log
made_same f g cs ds first used r log₀ log e k =
    let n : length cs ≡ length ds = sym (length-map cs f) ∙ ap length e ∙ length-map ds g in
    record { logs = k.logs ∙ ap (logged log₀ (first + used)) e; made = rw (← n) k.made }

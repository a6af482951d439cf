-- The loop over the cycles of some bytes of a doubleword: what is left from here completes the whole.
use Prim.Native.Nat.{ℕ, suc, ◌+◌, ◌-◌, ◌%◌, ◌≤◌, ◌<◌}
use mathlib.Core.Path.{◌≡◌, refl, sym, ◌∙◌, ap}
use mathlib.Core.Bool.{Bool, true, false, ◌&&◌}
use mathlib.Core.List.{List, [], ◌∷◌, ◌++◌}
use native.Mathlib.Omega.{arith}
use lib.Dec.{eqb}
use lib.ListN.{length, get_or, drop}
use lib.Seq.{drop-cons}
use borrow.Author.Tests.{eqb-true, eqb-false}
use Rattle.memory.specs.Parity.{Memory, memory}
use Rattle.carried.specs.declared.CarriedWrites.{CarriedWrites}
use Rattle.bus.specs.Bus.{run, size_of, Cycle}
use Rattle.bus.specs.Runs.{run_cycles}
use Rattle.bus.proofs.Runs.{step_one, step_then}
use Rattle.carrying.specs.declared.cycle.Brought.{Brought}
use Rattle.carrying.specs.CarryingCode.{LandsDue, MovesBytes, LandedTo, CyclesBrought, RunNeeds}
use Rattle.carrying.proofs.Cycles.{brought_append, brought_one}

module _ (ram₀ parity₀ xs buffer₀ log₀ : List ℕ) (carried : CarriedWrites) (line from count kind : ℕ) (last : Bool) (first : ℕ) (at : Brought) where
  abbrev cycles_from : ℕ → ℕ → ℕ → List Cycle
  cycles_from used next left = run_cycles last (drop used xs) (run next left)

  -- what cycles leave, of writes from a place on and of memory before they landed
  abbrev Completes : ℕ → Memory → List Cycle → Brought → Brought → Memory → List ℕ → List ℕ → List ℕ → List ℕ → Type 0
  Completes place m₀ = CyclesBrought kind line first carried place m₀

  pub record RunLeft (place : ℕ) (m₀ : Memory) (now : Brought) (m : Memory) (buffer log : List ℕ) (next left : ℕ) : Type 0 where
    pub lands : LandedTo carried place m₀ (first + now.used) m now.landed
    pub rest : (r : Brought) (m' : Memory) (buffer' log' : List ℕ) → Completes place m₀ (cycles_from now.used next left) now r m' buffer buffer' log log' →
        Completes place m₀ (cycles_from at.used from count) at r m' buffer₀ buffer' log₀ log'

  pub record RunLoop (ram parity buffer log : List ℕ) (now : Brought) (next left : ℕ) : Type 0 where
    pub completes : (place : ℕ) (m₀ : Memory) → LandedTo carried place m₀ (first + at.used) (memory ram₀ parity₀) at.landed → RunLeft place m₀ now (memory ram parity) buffer log next left
    pub some : 0 < left
    pub lanes : next % 4 + left ≤ 4
    pub short : next < 16
    pub above : at.used ≤ now.used
    pub most : now.used + left ≤ at.used + count
    pub within : now.landed ≤ carried.count
    pub rams : length ram ≡ length ram₀
    pub parities : length parity ≡ length parity₀
    pub logs : length log ≡ length log₀
    pub buffers : length buffer ≡ length buffer₀

  module _ (z : RunNeeds line from count first at.used (length ram₀) (length parity₀) (length xs) (length log₀)) where
    module _ {ram parity buffer log : List ℕ} {now : Brought} {next left : ℕ} (g : RunLoop ram parity buffer log now next left) where
      module _ {b : Brought} {ram' parity' : List ℕ} (l : LandsDue carried line (first + now.used) now b (memory ram parity) (memory ram' parity')) (er : length ram' ≡ length ram) (ep : length parity' ≡ length parity) where
        pub answer_there : b.used < length xs
        answer_there = omega (arith, l.same, g.most, g.some, z.served)

        module _ (size : ℕ) (es : size ≡ size_of (get_or xs b.used 0) (run next left)) (positive : 0 < size) (fits : size ≤ left) where
          module _ {r : Brought} {buffer' log' : List ℕ} (v : MovesBytes kind (memory ram' parity') line next size (eqb size left && last) (first + b.used) b r buffer buffer' log log') (el : length log' ≡ length log) (eb : length buffer' ≡ length buffer) where
            -- the answers left
            answers_left : drop now.used xs ≡ get_or xs b.used 0 ∷ drop r.used xs
            answers_left =
                let e : r.used ≡ suc b.used = omega (arith, v.makes) in
                rw (e, ← l.same) (drop-cons xs b.used 0 answer_there)

            one : (place : ℕ) (m₀ : Memory) → LandedTo carried place m₀ (first + now.used) (memory ram parity) now.landed → (last' : Bool) → eqb size left && last ≡ last' →
                Completes place m₀ (record { moved = run next size; answer = get_or xs b.used 0; last = last' } ∷ []) now r (memory ram' parity') buffer buffer' log log'
            one place m₀ d last' e = rw (← e) (brought_one kind line first carried place m₀ next size _ _ _ now b r (memory ram parity) (memory ram' parity') buffer buffer' log log' d l v refl)

            used_next : (now.used < r.used) × (r.used ≡ now.used + 1)
            used_next = (omega (arith, l.same, v.makes), omega (arith, l.same, v.makes))

            -- the last cycle of the run
            pub run_ends : eqb size left ≡ true →
                ((place : ℕ) (m₀ : Memory) → LandedTo carried place m₀ (first + at.used) (memory ram₀ parity₀) at.landed → Completes place m₀ (cycles_from at.used from count) at r (memory ram' parity') buffer₀ buffer' log₀ log')
                × (at.used ≤ r.used) × (r.used ≤ at.used + count) × (r.landed ≤ carried.count)
            run_ends t =
                let e = eqb-true size left t in (
                  λ place m₀ d.
                      let q = g.completes place m₀ d in
                      let cs : cycles_from now.used next left ≡ record { moved = run next size; answer = get_or xs b.used 0; last = last } ∷ [] =
                      ap (λ (ys : List ℕ). run_cycles last ys (run next left)) answers_left ∙ step_one last (get_or xs b.used 0) (drop r.used xs) next left (sym es ∙ e) ∙ rw e in
                      q.rest r (memory ram' parity') buffer' log' (rw cs (one place m₀ q.lands last (rw t))),
                  omega (arith, g.above, used_next.0),
                  omega (arith, g.most, g.some, used_next.1),
                  rw v.same l.within,
                )

            -- another one
            pub run_goes : eqb size left ≡ false → RunLoop ram' parity' buffer' log' r (next + size) (left - size)
            run_goes t =
                let n = eqb-false size left t in
                let less : size < left = omega arith in
                record {
                  completes = λ place m₀ d.
                      let q = g.completes place m₀ d in
                      let c : Cycle = record { moved = run next size; answer = get_or xs b.used 0; last = false } in
                      let o = one place m₀ q.lands false (rw t) in
                      let cs : cycles_from now.used next left ≡ (c ∷ []) ++ cycles_from r.used (next + size) (left - size) =
                      ap (λ (ys : List ℕ). run_cycles last ys (run next left)) answers_left ∙ step_then last (get_or xs b.used 0) (drop r.used xs) next left size (sym es) less in
                      record {
                        lands = o.lands;
                        rest = λ r' m' buffer'' log'' k.
                            q.rest r' m' buffer'' log'' (rw cs (brought_append kind line first carried place m₀ (c ∷ []) (cycles_from r.used (next + size) (left - size)) now r r' (memory ram' parity') m' buffer buffer' buffer'' log log' log'' o k));
                      };
                  some = omega arith;
                  lanes = omega (arith, g.lanes);
                  short = omega (arith, g.lanes, g.short);
                  above = omega (arith, g.above, used_next.0);
                  most = omega (arith, g.most, used_next.1);
                  within = rw v.same l.within;
                  rams = er ∙ g.rams;
                  parities = ep ∙ g.parities;
                  logs = el ∙ g.logs;
                  buffers = eb ∙ g.buffers;
                }

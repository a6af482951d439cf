-- The cycles of a miss: those of the wanted bytes, and the loop over the doublewords of a fill.
use Prim.Native.Nat.{ℕ, ◌+◌, ◌*◌, ◌%◌, ◌≤◌, ◌<◌}
use mathlib.Core.Path.{◌≡◌, refl, sym, ◌∙◌, ap}
use mathlib.Core.Bool.{cond}
use mathlib.Core.List.{List, [], ◌∷◌, ◌++◌}
use native.Mathlib.Omega.{arith}
use native.Mathlib.Numerals.{add-one}
use lib.Dec.{eqb, ltb}
use lib.ListN.{length, get_or, drop, length-drop, length-map, get_or-map, drop_of_length-le}
use lib.Seq.{drop-cons, drop-drop}
use borrow.Author.Tests.{eq-eqb, ne_eqb}
use Rattle.laws.proofs.Tests.{by_test, same_or}
use Rattle.memory.specs.Parity.{Memory, memory}
use Rattle.carried.specs.declared.CarriedWrites.{CarriedWrites}
use Rattle.carried.specs.Carried.{Carried, due, later, landed}
use Rattle.carried.specs.CarriedCode.{left_from, CarriedNeeds}
use Rattle.carried.proofs.Writes.{writes_none}
use Rattle.bus.specs.Bus.{run, none, Cycle, cycles_of, burst_order}
use Rattle.bus.specs.Record.{words_of}
use Rattle.bus.specs.Runs.{run_cycles}
use Rattle.bus.proofs.Runs.{cycles_none, cycles_run, run_some}
use Rattle.bus.proofs.BurstOrder.{burst_turn, burst_length}
use Rattle.reading.specs.Reading.{buffer_of, records_of}
use Rattle.carrying.specs.declared.cycle.Brought.{Brought}
use Rattle.carrying.specs.CarryingCode.{LandedTo, CyclesBrought, RunNeeds, none_brought, MissNeeds, TurnNeeds, turns}
use Rattle.carrying.proofs.Cycles.{brought_append}

-- where none is due all are left
later_all : (n : ℕ) (ws : List Carried) → due n ws ≡ [] → later n ws ≡ ws
unfolding due later
later_all n [] e = refl
later_all n (w ∷ ws) e =
    by_test (λ b. cond b (w ∷ due n ws) [] ≡ [] → cond b (later n ws) (w ∷ ws) ≡ w ∷ ws) (ltb w.cycle n)
    (λ _ k. cc)
    (λ _ _. refl)
    e

-- before the first cycle
pub landed_begin : (carried : CarriedWrites) (from : ℕ) (m : Memory) (n : ℕ) → due n (left_from carried from) ≡ [] → from ≤ carried.count → LandedTo carried from m n m from
unfolding landed
landed_begin carried from m n e h =
    record {
      memories = rw e;
      those = writes_none carried from ∙ sym e;
      lefts = sym (later_all n (left_from carried from) e);
      above = omega arith;
      within = h;
    }

-- the turns from one on
module _ (order : List ℕ) (count turn : ℕ) where
  pub turn_first : turn < length order → drop turn (turns order count) ≡ run (get_or order turn 0) count ∷ drop (turn + 1) (turns order count)
  turn_first l =
      drop-cons (turns order count) turn (run 0 count) (rw length-map l)
      ∙ rw (get_or-map (λ from. run from count) order turn 0, add-one turn)

  pub turn_last : turn < length order → none (drop (turn + 1) (turns order count)) ≡ eqb (turn + 1) (length order)
  turn_last l =
      same_or _ (turn + 1) (length order)
      (λ e. rw (eq-eqb (turn + 1) (length order) e, drop_of_length-le (turns order count) {i = turn + 1} (rw length-map (omega arith))))
      (λ n. rw (ne_eqb (turn + 1) (length order) n, drop-cons (turns order count) (turn + 1) (run 0 count) (rw length-map (omega arith))))

  pub turn_none : length order ≤ turn → drop turn (turns order count) ≡ []
  turn_none l = drop_of_length-le (turns order count) (rw length-map l)

module _ (ram₀ parity₀ xs log₀ : List ℕ) (carried : CarriedWrites) (line first landed₀ : ℕ) (z : MissNeeds carried line first landed₀ (length ram₀) (length parity₀) (length xs) (length log₀)) where
  abbrev m₀ : Memory
  m₀ = memory ram₀ parity₀

  -- before the first cycle of the doubleword
  pub miss_begin : LandedTo carried landed₀ m₀ (first + 0) m₀ landed₀
  miss_begin = let e : first + 0 ≡ first = omega arith in rw e (landed_begin carried landed₀ m₀ first z.due z.within)

  -- what a run of a doubleword of the line needs
  run_needs : (ram parity log : List ℕ) → length ram ≡ length ram₀ → length parity ≡ length parity₀ → length log ≡ length log₀ → (start count used : ℕ) → 0 < count → start % 4 + count ≤ 4 → start < 16 → used + count ≤ 16 →
      RunNeeds line start count first used (length ram) (length parity) (length xs) (length log)
  run_needs ram parity log er ep el start count used some lanes short most =
      record {
        aligned = z.aligned;
        inside = rw er z.inside;
        small = rw er z.small;
        bits = rw (er, ep) z.bits;
        some = some;
        lanes = lanes;
        short = short;
        served = omega (arith, z.served);
        records = omega (arith, z.records);
        few = omega (arith, z.few);
      }

  -- TURNS

  module _ (buffer₀ order : List ℕ) (count kind : ℕ) (y : TurnNeeds order count) where
    abbrev Brings : List Cycle → Brought → Brought → Memory → List ℕ → List ℕ → List ℕ → List ℕ → Type 0
    Brings = CyclesBrought kind line first carried landed₀ m₀

    pub record TurnLoop (ram parity buffer log : List ℕ) (now : Brought) (turn : ℕ) : Type 0 where
      pub lands : LandedTo carried landed₀ m₀ (first + now.used) (memory ram parity) now.landed
      pub rest : (r : Brought) (m' : Memory) (buffer' log' : List ℕ) →
          Brings (cycles_of (drop now.used xs) (drop turn (turns order count))) now r m' buffer buffer' log log' → Brings (cycles_of xs (turns order count)) (none_brought landed₀) r m' buffer₀ buffer' log₀ log'
      pub within : turn ≤ length order
      pub some : turn ≤ now.used
      pub most : now.used ≤ 4 * turn
      pub places : now.landed ≤ carried.count
      pub rams : length ram ≡ length ram₀
      pub parities : length parity ≡ length parity₀
      pub logs : length log ≡ length log₀
      pub buffers : length buffer ≡ length buffer₀

    pub turn_begin : (now : Brought) → now ≡ none_brought landed₀ → TurnLoop ram₀ parity₀ buffer₀ log₀ now 0
    turn_begin now e =
        rw e
        (record {
          lands = miss_begin;
          rest = λ r m' buffer' log' k. k;
          within = omega arith;
          some = omega arith;
          most = omega arith;
          places = z.within;
          rams = refl;
          parities = refl;
          logs = refl;
          buffers = refl;
        })

    module _ {ram parity buffer log : List ℕ} {now : Brought} {turn : ℕ} (g : TurnLoop ram parity buffer log now turn) (tl : turn < length order) where
      abbrev o : ℕ
      o = get_or order turn 0

      pub turn_needs : length buffer₀ ≡ 16 →
          RunNeeds line o count first now.used (length ram) (length parity) (length xs) (length log) × CarriedNeeds carried (length ram) (length parity) × (now.landed ≤ carried.count) × (length buffer ≡ 16)
      turn_needs sixteen = (
        run_needs ram parity log g.rams g.parities g.logs o count now.used y.some (y.lanes turn tl) (y.short turn tl) (omega (arith, g.most, y.most, y.few)),
        rw (g.rams, g.parities) z.writes,
        g.places,
        g.buffers ∙ sixteen,
      )

      module _ {r : Brought} {ram' parity' buffer' log' : List ℕ}
          (f : (place : ℕ) (m₁ : Memory) → LandedTo carried place m₁ (first + now.used) (memory ram parity) now.landed → CyclesBrought kind line first carried place m₁ (run_cycles (eqb (turn + 1) (length order)) (drop now.used xs) (run o count)) now r (memory ram' parity') buffer buffer' log log')
          (most : r.used ≤ now.used + count) (er : length ram' ≡ length ram) (ep : length parity' ≡ length parity) (el : length log' ≡ length log) (eb : length buffer' ≡ length buffer) where
        pub turn_next : TurnLoop ram' parity' buffer' log' r (turn + 1)
        turn_next =
            let b = f landed₀ m₀ g.lands in
            let cs = run_cycles (eqb (turn + 1) (length order)) (drop now.used xs) (run o count) in
            let ys = drop now.used xs in
            let there : 0 < length ys = rw (length-drop now.used xs) (omega (arith, g.most, y.few, z.served)) in
            let made : 0 < length cs = run_some (eqb (turn + 1) (length order)) ys (run o count) there in
            let left : drop (length cs) ys ≡ drop r.used xs = drop-drop (length cs) now.used xs ∙ ap (λ (i : ℕ). drop i xs) (sym b.made) in
            record {
              lands = b.lands;
              rest = λ r' m' buffer'' log'' k.
                  let next = drop (turn + 1) (turns order count) in
                  let all : cycles_of ys (drop turn (turns order count)) ≡ cs ++ cycles_of (drop r.used xs) next =
                  ap (cycles_of ys) (turn_first order count turn tl) ∙ cycles_run ys (run o count) next ∙ rw (turn_last order count turn tl, left) in
                  g.rest r' m' buffer'' log'' (rw all (brought_append kind line first carried landed₀ m₀ cs (cycles_of (drop r.used xs) next) now r r' (memory ram' parity') m' buffer buffer' buffer'' log log' log'' b k));
              within = omega arith;
              some = omega (arith, g.some, b.made);
              most = omega (arith, g.most, y.most);
              places = b.lands.within;
              rams = er ∙ g.rams;
              parities = ep ∙ g.parities;
              logs = el ∙ g.logs;
              buffers = eb ∙ g.buffers;
            }

    -- after the last turn
    pub turn_end : {ram parity buffer log : List ℕ} {now : Brought} {turn : ℕ} → TurnLoop ram parity buffer log now turn → (turn < length order → ⊥) →
        Brings (cycles_of xs (turns order count)) (none_brought landed₀) now (memory ram parity) buffer₀ buffer log₀ log × (length order ≤ now.used) × (now.used ≤ 16)
    unfolding records_of buffer_of words_of
    turn_end {ram} {parity} {buffer} {log} {now} {turn} g n =
        let d : cycles_of (drop now.used xs) (drop turn (turns order count)) ≡ [] =
        ap (cycles_of (drop now.used xs)) (turn_none order count turn (omega arith)) ∙ cycles_none (drop now.used xs) in (
          g.rest now (memory ram parity) buffer log (rw d (record { made = omega arith; logs = refl; buffers = refl; lands = g.lands; spoils = λ h. h })),
          omega (arith, g.some),
          omega (arith, g.most, g.within, y.few),
        )

-- A FILL

pub four_turns_needs : (start : ℕ) → TurnNeeds (burst_order (start * 4)) 4
four_turns_needs start =
    let n = burst_length (start * 4) in
    record {
      few = omega arith;
      some = omega arith;
      most = omega arith;
      lanes = λ turn h. let t = burst_turn start turn (omega arith) in omega (arith, t.whole.aligned);
      short = λ turn h. (burst_turn start turn (omega arith)).whole.inside;
    }

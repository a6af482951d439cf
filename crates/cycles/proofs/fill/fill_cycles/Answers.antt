use Prim.Native.Nat.{ℕ, ◌*◌, ◌<◌}
use mathlib.Core.List.{List}
use mathlib.Core.Path.{◌≡◌, ap}
use native.Mathlib.Omega.{arith}
use lib.ListN.{get_or}
use Rattle.bus.specs.Bus.{burst_order}
use Rattle.bus.specs.Record.{fill_kind}
use Rattle.bus.proofs.BurstOrder.{Whole, burst_turn}
use Rattle.parts.specs.Parts.{LineNeeds}
use Rattle.cycles.proofs.Records.{read_made}
use Rattle.cycles.proofs.Loops.{fill_next, fill_end}
use Rattle.cycles.proofs.fill.fill_cycles.Goals as goal

-- the doubleword of a turn lies in the line
here : {line ram parity : ℕ} (order : List ℕ) (start turn : ℕ) → LineNeeds line 0 ram parity → order ≡ burst_order (start * 4) → turn < 4 →
    LineNeeds line (get_or order turn 0) ram parity
here order start turn n e l =
    let t = burst_turn start turn l in
    let w : Whole (get_or order turn 0) = rw e t.whole in
    record { aligned = n.aligned; whole = w.aligned; short = w.inside; inside = n.inside; small = n.small; bits = n.bits }

pub overflow_add-line : goal.overflow_add-line
overflow_add-line c = let n = here _ c.args.start c.loop-turn.turn c.requires.3 c.burst_order.ensures c.loop-turn-test.true in omega arith

pub read-doubleword-requires : goal.read-doubleword-requires
read-doubleword-requires c =
    let n = here _ c.args.start c.loop-turn.turn c.requires.3 c.burst_order.ensures c.loop-turn-test.true in
    (omega arith, omega arith, omega arith)

pub loop-turn-preserved : goal.loop-turn-preserved
loop-turn-preserved c =
    let a = c.args in
    let p = c.requires in
    let n = here _ c.args.start c.loop-turn.turn c.requires.3 c.burst_order.ensures c.loop-turn-test.true in
    let g = rw c.read-doubleword.ensures at c.whole_cycles-used.ensures in
    fill_next _ _ _ _ _ c.loop-turn.turn _ _ _ _ _ c.loop-turn-test.true p.1 c.loop-turn.invariant
    (ap (λ (l : List ℕ). get_or l c.loop-turn.turn 0) c.burst_order.ensures)
    (read_made fill_kind a.ram.now a.parity.now a.line _ 4 _ (λ i. omega (arith, c.type_inv.ram i)) n.aligned
    (omega arith) (omega (arith, n.whole)) (omega (arith, n.whole)) _ _ _ _ _ _ 0 (omega (arith, n.whole)) _ g)

pub returns : goal.returns
returns c =
    let k = c.loop-turn.invariant in
    (fill_end _ _ _ _ _ _ _ _ (omega (arith, c.loop-turn-test.false)) k, omega (arith, c.loop-turn-test.false, k.some), omega (arith, k.most, k.turns))

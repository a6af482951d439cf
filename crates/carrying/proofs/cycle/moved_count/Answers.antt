use Prim.Native.Nat.{◌/◌, ◌%◌}
use mathlib.Core.Path.{◌≡◌, sym, ◌∙◌}
use native.Mathlib.Omega.{arith}
use borrow.Author.Tests.{eq-eqb, ne_eqb}
use Rattle.bus.specs.Bus.{run, size_limit, size_of}
use Rattle.bus.proofs.Sizing.{size_byte, size_some, size_most}
use Rattle.carrying.proofs.cycle.moved_count.Goals as goal
use Rattle.carrying.proofs.cycle.moved_count.Goals.{then-answer-eq1-2, else-answer-eq1-2}

pub returns-then-answer-eq1 : goal.returns-then-answer-eq1
returns-then-answer-eq1 c = (sym (size_byte c.args.answer c.args.from c.args.left (λ e. omega (arith, c.if-answer-eq1.true)) c.requires), omega arith, omega (arith, c.requires))

room_limit : (c : goal.After-min) → c.if-answer-eq1-2.room ≡ size_limit c.args.answer c.args.from
unfolding size_limit
room_limit c =
    let x = c.args.answer in
    rw (ne_eqb (x / 2 % 2) 1 c.if-answer-eq1.false)
    (elim c.if-answer-eq1-2.branch [
      | then-answer-eq1-2 w ↦ rw (eq-eqb (x / 4 % 2) 1 w.if-answer-eq1-2.true) w.room-is
      | else-answer-eq1-2 w ↦ rw (ne_eqb (x / 4 % 2) 1 w.if-answer-eq1-2.false) w.room-is
    ])

pub returns : goal.returns
unfolding size_of
returns c =
    let e : c.min.result ≡ size_of c.args.answer (run c.args.from c.args.left) = c.min.ensures ∙ rw (room_limit c) in
    (e, rw e (size_some c.args.answer c.args.from c.args.left c.requires), rw e (size_most c.args.answer c.args.from c.args.left))

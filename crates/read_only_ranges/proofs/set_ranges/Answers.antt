use mathlib.Core.Path.{refl}
use native.Mathlib.Omega.{arith}
use Rattle.numbers.proofs.Refused.{numbered}
use Rattle.memory.specs.Parity.{memory}
use Rattle.refusal.specs.Call.{state}
use Rattle.read_only_ranges.proofs.SetRanges.{refused_by, done_by, words_fit}
use Rattle.read_only_ranges.proofs.set_ranges.Goals as goal

pub returns-in-Err : goal.returns-in-Err
returns-in-Err c parity array =
    let a = c.args in
    rw (c.answered.ensures, c.number.ensures)
    (refused_by (state a.given (memory a.ram.now parity) array) a.ranges.now _ c.in-Err.ensures (numbered _))

pub overflow_cast-kept : goal.overflow_cast-kept
overflow_cast-kept c = omega (arith, words_fit _ _ _ c.in_default.ensures refl)

pub bounds_of-requires : goal.bounds_of-requires
bounds_of-requires c = words_fit _ _ _ c.in_default.ensures refl

pub returns : goal.returns
returns c parity array =
    let a = c.args in
    rw c.answered-2.ensures
    (done_by (state a.given (memory a.ram.now parity) array) a.ranges.now _ c.in_default.ensures refl
    _ c.bounds_of.ensures _ c.with_ranges.ensures)

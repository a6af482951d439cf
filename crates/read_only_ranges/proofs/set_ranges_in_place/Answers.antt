use mathlib.Core.Path.{refl}
use Rattle.numbers.proofs.Refused.{numbered, passed_on}
use native.Mathlib.Omega.{arith}
use Rattle.ranges.specs.Ranges.{lent_ranges}
use Rattle.directory.specs.Steps.{directory_of}
use Rattle.directory.proofs.Laws.{ranges_of_lem}
use Rattle.memory.specs.Parity.{memory}
use Rattle.refusal.specs.Call.{state}
use Rattle.read_only_ranges.proofs.SetRanges.{refused_by, done_by, words_fit}
use Rattle.read_only_ranges.proofs.set_ranges_in_place.Goals as goal

pub returns-in_err-set_ranges_number : goal.returns-in_err-set_ranges_number
returns-in_err-set_ranges_number c tags valid lru cd nw parity array =
    let a = c.args in
    rw (passed_on _ _ c.from_residual.ensures.1) (refused_by (state (directory_of tags valid lru cd nw (lent_ranges a.range_count.now a.bounds.now)) (memory a.ram.now parity) array) a.ranges.now _
    c.in_err-set_ranges_number.ensures (numbered _))

pub overflow_cast-range_count : goal.overflow_cast-range_count
overflow_cast-range_count c = omega (arith, words_fit _ _ _ c.in_ok-set_ranges_number.ensures refl)

pub bounds_of-requires : goal.bounds_of-requires
bounds_of-requires c = words_fit _ _ _ c.in_ok-set_ranges_number.ensures refl

pub returns : goal.returns
returns c tags valid lru cd nw parity array =
    let a = c.args in
    done_by (state (directory_of tags valid lru cd nw (lent_ranges a.range_count.now a.bounds.now)) (memory a.ram.now parity) array) a.ranges.now _
    c.in_ok-set_ranges_number.ensures refl _ c.bounds_of.ensures _ (ranges_of_lem tags valid lru cd nw _ _)

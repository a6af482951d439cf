use mathlib.Core.Path.{sym, ◌∙◌, ap}
use Rattle.ranges.specs.Ranges.{kept_ranges, ranges_of}
use Rattle.words.proofs.Places.{bytes_all}
use Rattle.memory.specs.Parity.{memory, stored}
use Rattle.memory.proofs.Written.{written_ignored, written_taken}
use Rattle.masters.proofs.taken.put_bytes.Goals as goal

pub returns-then-read_only : goal.returns-then-read_only
returns-then-read_only c =
    let a = c.args in
    sym (written_ignored (ranges_of (kept_ranges a.ranges)) (memory a.ram.now a.parity.now) a.address a.bytes.now c.requires.0 (sym c.read_only.ensures ∙ c.if-read_only.true))

pub returns : goal.returns
returns c =
    let a = c.args in
    let m = memory a.ram.now a.parity.now in
    c.store_bytes.ensures ∙ ap (stored m a.address) (bytes_all a.bytes.now)
    ∙ sym (written_taken (ranges_of (kept_ranges a.ranges)) m a.address a.bytes.now c.requires.0 (sym c.read_only.ensures ∙ c.if-read_only.false))

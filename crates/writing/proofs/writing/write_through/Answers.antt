use Rattle.writing.proofs.WriteDoublewords.{doubleword_line, lane_place}
use Rattle.ranges.specs.Ranges.{kept_ranges, ranges_of}
use Rattle.writing.proofs.writing.write_through.Goals as goal

pub returns : goal.returns
returns c =
    let a = c.args in
    let w = a.w in
    let p = c.requires.0 in
    let t = c.write_cycles.ensures in
    (rw (doubleword_line (ranges_of (kept_ranges a.ranges)) w.line w.from p.aligned p.line, lane_place w.line w.from) at c.store_writable.ensures, t.0, t.2)

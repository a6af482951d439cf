use Prim.Native.Nat.{◌≤◌, ◌+◌, ◌%◌}
use mathlib.Core.Path.{◌∙◌}
use native.Mathlib.Omega.{arith}
use Rattle.parts.proofs.Masks.{mask_lane, masked_same}
use Rattle.parts.proofs.Records.{part_left}
use Rattle.parts.proofs.lanes.Transfer.put.Goals as goal

pub returns : goal.returns
returns c lane count l e =
    let a = c.args in
    let m = e ∙ mask_lane lane count l in
    let h : lane % 4 + count ≤ 4 = omega arith in
    part_left a.self lane count a.place a.last a.log.now
    (rw (c.from.ensures, masked_same a.self.held a.self.due a.mask (lane % 4) count m) at (c.flags_of-flags.ensures (lane % 4) count h m))
    (c.lanes_word.ensures (lane % 4) count h m)
    c.put_record.ensures

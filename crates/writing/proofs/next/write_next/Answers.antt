use mathlib.Core.Path.{refl, sym, ◌∙◌}
use native.Mathlib.Omega.{arith}
use lib.ListN.{length}
use Rattle.ways.proofs.FourWays.{lookup_below}
use Rattle.cycles.proofs.Stored.{one_run}
use Rattle.doubleword.proofs.Cursors.{cursor_doubleword}
use Rattle.doubleword.specs.DoublewordCode.{DoublewordNeeds}
use Rattle.writing.proofs.WriteDoublewords.{lane_place, operand_lanes, placed_fits, place_within, put_found, stay_writes, ram_writes, write_next_left}
use Rattle.writing.proofs.next.write_next.Goals.{in-Some, in-None}
use Rattle.writing.proofs.next.write_next.Goals as goal

pub data_offset-requires : goal.data_offset-requires
data_offset-requires c = lookup_below _ _ _ _ (sym c.lookup-found.ensures ∙ c.in-Some.is)

pub placed_lanes-word-requires : goal.placed_lanes-word-requires
placed_lanes-word-requires c =
    let p = c.requires in
    let h = place_within _ _ p.0 c.wanted-w.ensures p.1 in
    let d = cursor_doubleword _ _ _ _ _ _ _ _ _ p.0 c.wanted-w.ensures p.1 refl c.group_of-group.ensures.1 in
    (h.0, h.1, d.lanes)

pub put_lanes-requires : goal.put_lanes-requires
put_lanes-requires c =
    let p = c.requires in
    let d = cursor_doubleword _ _ _ _ _ _ _ _ _ p.0 c.wanted-w.ensures p.1 refl c.group_of-group.ensures.1 in
    (d.some, d.lanes, omega (arith, c.data_offset.ensures.1, d.line, p.1.array_length), rw c.placed_lanes-word.ensures (placed_fits _ _ _ _))

pub write_through-cycles-requires : goal.write_through-cycles-requires
write_through-cycles-requires c =
    let p = c.requires in
    (cursor_doubleword _ _ _ _ _ _ _ _ _ p.0 c.wanted-w.ensures p.1 refl c.group_of-group.ensures.1, rw c.placed_lanes-word.ensures (placed_fits _ _ _ _))

pub returns-then-inside : goal.returns-then-inside
returns-then-inside c =
    let sent = operand_lanes c.args.value _ _ _ _ c.placed_lanes-word.ensures (place_within _ _ c.requires.0 c.wanted-w.ensures c.requires.1).1 in
    write_next_left _ _ _ _ _ _ _ _ _ _ _ c.wanted-w.ensures c.group_of-group.ensures.0
    (stay_writes _ _ _ _ _ _ _ _ sent _ _ _ _
    (elim c.match-found.branch [
      | in-Some w ↦
          let found = sym c.lookup-found.ensures ∙ w.in-Some.is in
          put_found _ _ _ _ _ sent _ _ _ _ found (lookup_below _ _ _ _ found) w.change-is w.data_offset.ensures.0
          (rw (lane_place w.data_offset.result c.wanted-w.result.from) at (w.data-is ∙ w.put_lanes.ensures))
      | in-None w ↦ rw (sym c.lookup-found.ensures ∙ w.in-None.is) (w.change-is, w.data-is)
    ])
    (rw (← c.lookup-found.ensures, ← c.is_some.ensures) c.if-inside.true))

pub returns-else-inside : goal.returns-else-inside
returns-else-inside c =
    let p : DoublewordNeeds c.wanted-w.result c.args.cursor.cycles (length c.args.ram.now) (length c.args.parity.now) (length c.group_of-group.result.now) (length c.args.log.now) =
    cursor_doubleword _ _ _ _ _ _ _ _ _ c.requires.0 c.wanted-w.ensures c.requires.1 refl c.group_of-group.ensures.1 in
    let t = c.write_through-cycles.ensures in
    let sent = operand_lanes c.args.value _ _ _ _ c.placed_lanes-word.ensures (place_within _ _ c.requires.0 c.wanted-w.ensures c.requires.1).1 in
    write_next_left _ _ _ _ _ _ _ _ _ _ _ c.wanted-w.ensures c.group_of-group.ensures.0
    (ram_writes _ _ _ _ _ _ _ _ sent (one_run _ _ p.some p.lanes p.line) (omega (arith, p.served)) p.aligned _ _ _ t.0 t.1 t.2 _ _ _ _
    (elim c.match-found.branch [
      | in-Some w ↦
          let found = sym c.lookup-found.ensures ∙ w.in-Some.is in
          put_found _ _ _ _ _ sent _ _ _ _ found (lookup_below _ _ _ _ found) w.change-is w.data_offset.ensures.0
          (rw (lane_place w.data_offset.result c.wanted-w.result.from) at (w.data-is ∙ w.put_lanes.ensures))
      | in-None w ↦ rw (sym c.lookup-found.ensures ∙ w.in-None.is) (w.change-is, w.data-is)
    ])
    (rw (← c.lookup-found.ensures, ← c.is_some.ensures) c.if-inside.false))

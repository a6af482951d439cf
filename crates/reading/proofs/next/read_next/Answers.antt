use borrow.Author.Rules.{rules}
use mathlib.Core.Path.{refl, sym}
use Rattle.ways.proofs.FourWays.{lookup_below}
use Rattle.doubleword.proofs.Cursors.{cursor_doubleword}
use Rattle.reading.proofs.ReadDoublewords.{hit_reads, read_next_left}
use Rattle.reading.proofs.next.read_next.Goals as goal

pub data_offset-requires : goal.data_offset-requires
data_offset-requires c = lookup_below _ _ _ _ (sym c.in-Some.ensures)

pub read_miss-requires : goal.read_miss-requires
read_miss-requires c = let p = c.requires in (cursor_doubleword _ _ _ _ _ _ _ _ _ p.0 c.wanted-w.ensures p.1 refl c.group_of-group.ensures.1, p.1.array_length)

pub returns-in-Some : goal.returns-in-Some
returns-in-Some c =
    read_next_left _ _ _ _ _ _ _ _ _ _ c.wanted-w.ensures c.group_of-group.ensures.0
    (rw (← c.in-Some.ensures)
    (hit_reads _ _ _ _ _ _ _ _ _ _ (lookup_below _ _ _ _ (sym c.in-Some.ensures)) c.data_offset.ensures.0 c.value_at-value.ensures (search rules)))

pub returns-in-None : goal.returns-in-None
returns-in-None c = read_next_left _ _ _ _ _ _ _ _ _ _ c.wanted-w.ensures c.group_of-group.ensures.0 (rw (← c.in-None.ensures) c.read_miss.ensures)

-- Laws of one doubleword of a write: what the code leaves in each case.
use Rattle.std.specs.Prelude.{Option, Some, None, is_some}
use Rattle.std.proofs.lemmas.Bool.{false≢true}
use Prim.Native.Nat.{ℕ, ◌+◌, ◌*◌, ◌/◌, ◌%◌, ◌^◌, ◌≤◌, ◌<◌, min}
use mathlib.Core.Path.{◌≡◌, refl, sym, ◌∙◌, ap}
use mathlib.Core.Bool.{Bool, true, false, cond, ◌&&◌}
use mathlib.Core.List.{List}
use native.Mathlib.Omega.{arith}
use native.Mathlib.Nat.{add-zero, zero-add, mod-mod, mul-div_cancel}
use lib.ListN.{length, length-map}
use lib.Seq.{sets}
use Rattle.ways.specs.Address.{data_offset}
use Rattle.ways.specs.Ways.{lookup_in}
use Rattle.words.specs.Bytes.{bytes_at, bytes_of, lanes_value, lanes_word}
use Rattle.words.proofs.Numbers.{bytes_of_lower, bytes_of_part}
use Rattle.words.proofs.Parts.{powers_some}
use Rattle.words.proofs.Places.{bytes_length}
use Rattle.ranges.specs.Ranges.{Range, read_only}
use Rattle.ranges.proofs.Laws.{same_line}
use Rattle.memory.specs.Parity.{Memory, stored, written}
use Rattle.memory.proofs.Written.{written_line}
use Rattle.bus.specs.Groups.{widest}
use Rattle.bus.specs.Record.{write_record, words_of}
use Rattle.parts.specs.Made.{CyclesMade}
use Rattle.cycles.proofs.Brought.{OneDoubleword}
use Rattle.cycles.specs.Sent.{sent_line}
use Rattle.cycles.proofs.Stored.{wanted_written}
use Rattle.doubleword.specs.declared.change.Change.{Change}
use Rattle.doubleword.specs.declared.change.Change.TheVariants.{Unchanged, Use}
use Rattle.doubleword.specs.declared.change.Wanted.{Wanted}
use Rattle.doubleword.specs.declared.cursor.AccessCursor.{AccessCursor}
use Rattle.doubleword.specs.Doubleword.{Doubleword, Done, plain_cycles}
use Rattle.doubleword.specs.Cursor.{wanted_of, group_at, AccessNeeds}
use Rattle.doubleword.specs.DoublewordCode.{BelowFour, NoFill, doubleword_of}
use Rattle.writing.specs.Writing.{write_buffer, write_through, hit_array, write_done}
use Rattle.writing.specs.WritingCode.{Writes, WriteNext}

-- a place of a line, by the line's address
in_line_lem : (line from : ℕ) → line % 16 ≡ 0 → from < 16 → (line + from) / 16 ≡ line / 16
in_line_lem line from h l = omega arith

line_room : (line from count : ℕ) → line % 16 ≡ 0 → from + count ≤ 16 → 0 < count → (line + from) % 16 + count ≤ 16
line_room line from count h l s = omega arith

-- what a hit does first: a use, and the bytes in the data array; a miss does nothing
module _ (array operand : List ℕ) (w : Doubleword) where
  abbrev pub Put : Option ℕ → Change → List ℕ → Type 0
  Put (Some way) change array' = (way < 4) × (change ≡ Use way) × (array' ≡ hit_array way array operand w)
  Put None change array' = (change ≡ Unchanged) × (array' ≡ array)

  pub put_found : (f : Option ℕ) (sent : List ℕ) → bytes_at operand w.place w.wanted.count ≡ sent → (change : Change) (way offset : ℕ) (array' : List ℕ) →
      f ≡ Some way → way < 4 → change ≡ Use way → offset ≡ data_offset w.line way → array' ≡ sets array (offset + w.wanted.from) sent → Put f change array'
  unfolding hit_array
  put_found f sent es change way offset array' e b ec eo ea = rw e (b, ec, ea ∙ rw (eo, es))

-- the bytes that a doubleword sends
module _ (rs : List Range) (m₀ : Memory) (array operand : List ℕ) (w : Doubleword) (first : ℕ) (log₀ sent : List ℕ) (es : bytes_at operand w.place w.wanted.count ≡ sent) where
  -- a hit that stays in the cache
  pub stay_writes : (f : Option ℕ) (stays : Bool) (change : Change) (array' : List ℕ) → Put array operand w f change array' → (stays && is_some f) ≡ true →
      Writes (write_done f stays rs m₀ array operand w) first log₀ change 0 m₀ array' log₀
  unfolding write_done words_of
  stay_writes (Some way) true change array' p e =
      rw (p.1, p.2)
      (record {
        changes = refl;
        below = p.0;
        memories = refl;
        arrays = refl;
        logs = refl;
        made = refl;
        most = omega arith;
      })
  stay_writes (Some way) false change array' p e = absurd (false≢true e)
  stay_writes None true change array' p e = absurd (false≢true e)
  stay_writes None false change array' p e = absurd (false≢true e)

  -- sent through to RAM, in cycles
  module _ (g : OneDoubleword w.wanted) (enough : 16 ≤ length w.answers) (aligned : w.line % 16 ≡ 0) (cycles : ℕ) (m : Memory) (log : List ℕ)
      (em : m ≡ cond (read_only rs w.line) m₀ (stored m₀ (w.line + w.wanted.from) sent))
      (made : CyclesMade (write_record (sent_line w.wanted.from sent) w.line) (plain_cycles w) first 0 log₀ cycles log) (most : cycles ≤ 4) where
    sent_buffer : write_buffer operand w ≡ sent_line w.wanted.from sent
    sent_buffer = ap (sent_line w.wanted.from) es

    sent_length : length sent ≡ w.wanted.count
    sent_length = rw (← es) (bytes_length operand w.place w.wanted.count)

    -- RAM takes them but for a read-only line
    sent_taken : m ≡ written rs m₀ (w.line + w.wanted.from) sent
    sent_taken =
        let a = w.line + w.wanted.from in
        let here : read_only rs a ≡ read_only rs w.line = same_line rs a w.line (in_line_lem w.line w.wanted.from aligned (omega (arith, g.line, g.some))) in
        let room : a % 16 + length sent ≤ 16 = rw sent_length (line_room w.line w.wanted.from w.wanted.count aligned g.line g.some) in
        em ∙ rw (← here) (sym (written_line rs m₀ a sent room))

    through_writes : (change : Change) → BelowFour change → (array' : List ℕ) → Writes (write_through change rs m₀ array' operand w) first log₀ change cycles m array' log
    unfolding write_through
    through_writes change b array' =
        record {
          changes = refl;
          below = b;
          memories = rw sent_buffer (sent_taken ∙ sym (wanted_written rs sent w.line w.wanted g sent_length w.answers enough m₀));
          arrays = refl;
          logs = rw sent_buffer (rw (add-zero first) at made.logs);
          made = made.made ∙ zero-add (length (plain_cycles w)) ∙ sym (length-map (plain_cycles w) (write_record (write_buffer operand w) w.line));
          most = omega arith;
        }

    pub ram_writes : (f : Option ℕ) (stays : Bool) (change : Change) (array' : List ℕ) → Put array operand w f change array' → (stays && is_some f) ≡ false →
        Writes (write_done f stays rs m₀ array operand w) first log₀ change cycles m array' log
    unfolding write_done
    ram_writes (Some way) true change array' p e = absurd (false≢true (sym e))
    ram_writes (Some way) false change array' p e = rw (p.1, p.2) (through_writes (Use way) p.0 (hit_array way array operand w))
    ram_writes None stays change array' p e = rw (p.0, p.1) (through_writes Unchanged tt array)

-- a write fills no line
pub write_no_fill : (f : Option ℕ) (stays : Bool) (rs : List Range) (m : Memory) (array operand : List ℕ) (w : Doubleword) → NoFill (write_done f stays rs m array operand w).change
unfolding write_done write_through
write_no_fill (Some way) true rs m array operand w = tt
write_no_fill (Some way) false rs m array operand w = tt
write_no_fill None stays rs m array operand w = tt

-- a doubleword is read-only where its line is
pub doubleword_line : (rs : List Range) (line from : ℕ) → line % 16 ≡ 0 → from < 16 → read_only rs (line + from / 4 * 4) ≡ read_only rs line
doubleword_line rs line from h l = same_line rs (line + from / 4 * 4) line (in_line_lem line (from / 4 * 4) h (omega arith))

-- the place of some lanes of a doubleword
pub lane_place : (at from : ℕ) → at + from / 4 * 4 + from % 4 ≡ at + from
lane_place at from = omega arith

-- a part of a value in its lanes: the number of these lanes is the part's, and no other lane is set
placed_value : (value place lane count : ℕ) → lanes_value (lanes_value value place count * 256 ^ lane) lane count ≡ lanes_value value place count
unfolding lanes_value
placed_value value place lane count =
    rw (mul-div_cancel (value / 256 ^ place % 256 ^ count) (powers_some lane), mod-mod (value / 256 ^ place) (256 ^ count))

pub placed_fits : (value place lane count : ℕ) → lanes_value value place count * 256 ^ lane ≡ lanes_word (lanes_value value place count * 256 ^ lane) lane count
unfolding lanes_word
placed_fits value place lane count = rw (placed_value value place lane count)

-- the bytes of a part of a value are those of the operand
part_bytes : (value place count : ℕ) → place + count ≤ widest → bytes_at (bytes_of widest value) place count ≡ bytes_of count (lanes_value value place count)
unfolding lanes_value
part_bytes value place count h = bytes_of_part widest value place count h ∙ sym (bytes_of_lower count (value / 256 ^ place))

pub operand_lanes : (value place lane count word : ℕ) → word ≡ lanes_value value place count * 256 ^ lane → place + count ≤ widest → bytes_at (bytes_of widest value) place count ≡ bytes_of count (lanes_value word lane count)
operand_lanes value place lane count word e h = rw (e, placed_value value place lane count) (part_bytes value place count h)

-- the bytes of the next doubleword lie in the operand
pub place_within : (cursor : AccessCursor) (w : Wanted) {ram parity array answers log : ℕ} → 0 < cursor.left → w ≡ wanted_of cursor → AccessNeeds cursor ram parity array answers log → (0 < w.count) × (w.place + w.count ≤ widest)
place_within cursor w some ew z = rw ew (omega arith, room cursor.place cursor.left _ z.operands)
  where
    room : (place left r : ℕ) → place + left ≤ widest → place + min left r ≤ widest
    room place left r h = omega arith

-- the next doubleword of the code, from what its parts leave
module _ (tags : List ℕ) (valid : List Bool) (stays : Bool) (rs : List Range) (m₀ : Memory) (array operand : List ℕ) where
  abbrev written_of : Wanted → List ℕ → Done
  written_of w xs = write_done (lookup_in tags valid w.line) stays rs m₀ array operand (doubleword_of w xs)

  pub write_next_left : (cursor : AccessCursor) (xs given : List ℕ) (w : Wanted) → w ≡ wanted_of cursor → given ≡ group_at cursor xs →
      {change : Change} {cycles : ℕ} {log₀ : List ℕ} {m : Memory} {array' log : List ℕ} → Writes (written_of w given) cursor.cycles log₀ change cycles m array' log →
      WriteNext (written_of (wanted_of cursor) (group_at cursor xs)) cursor log₀ (record { line = w.line; change = change; count = w.count; cycles = cycles }) m array' log
  write_next_left cursor xs given w ew eg k =
      record {
        line = ap (λ (x : Wanted). x.line) ew;
        counts = ap (λ (x : Wanted). x.count) ew;
        writes = rw (ew, eg) at k;
      }

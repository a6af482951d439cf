-- The invariant of demand 3: what every list keeps, and on top, beside the plain memory, that every held line lies in memory and has its bytes.
use Prim.Native.Nat.{ℕ, ◌+◌, ◌*◌, ◌-◌, ◌/◌, ◌%◌, ◌≤◌, ◌<◌}
use mathlib.Core.Path.{◌≡◌, sym, ◌∙◌, ap}
use mathlib.Core.Bool.{true, false}
use mathlib.Core.List.{List}
use mathlib.Core.Logic.{◌⊎◌, ⊎_elim}
use native.Mathlib.Omega.{arith}
use native.Mathlib.Decide.{dec_le, dec_lt}
use lib.ListN.{length, get_or}
use lib.Seq.{sets, length-sets}
use Rattle.laws.proofs.Tests.{same_or}
use Rattle.directory.specs.declared.steps.Directory.{Directory}
use Rattle.ways.specs.Address.{set_of, tag_of, line_index, data_offset}
use Rattle.ranges.specs.Ranges.{Range, ranges_of, read_only}
use Rattle.directory.specs.Steps.{ranges_kept, after_fill}
use Rattle.directory.specs.WellFormed.{Held, Same, Sized, Apart}
use Rattle.directory.proofs.Laws.{fill_held}
use Rattle.words.specs.Bytes.{bytes_at}
use Rattle.memory.specs.Parity.{written}
use Rattle.refusal.specs.Call.{State, state}
use Rattle.words.proofs.Places.{sets_below, sets_above, sets_in}
use Rattle.words.proofs.Spans.{bytes_same}
use Rattle.calls.specs.Plain.{replaced}
use Rattle.calls.proofs.Memories.{written_ram}
use Rattle.calls.proofs.Replaced.{by_range}
use Rattle.calls.proofs.Kept.{Kept, KeptIn}

-- the address of a line, by its set and tag
abbrev pub address_of : ℕ → ℕ → ℕ
address_of s tag = tag * 2048 + s * 16

-- a held line lies in memory, and its bytes in the data array are the memory's
pub record Lines (d : Directory) (m array : List ℕ) : Type 0 where
  pub inside : (s w tag : ℕ) → s < 128 → w < 4 → Held d s w tag → address_of s tag + 16 ≤ length m
  pub same : (s w tag : ℕ) → s < 128 → w < 4 → Held d s w tag → (o : ℕ) → o < 16 →
      get_or array (line_index s w * 16 + o) 0 ≡ get_or m (address_of s tag + o) 0

-- no line is held
abbrev pub Empty : Directory → Type 0
Empty d = (s w tag : ℕ) → s < 128 → w < 4 → Held d s w tag → ⊥

-- no line is held that lies in a range
abbrev pub Outside : List Range → Directory → Type 0
Outside rom d = (s w tag : ℕ) → s < 128 → w < 4 → Held d s w tag → read_only rom (address_of s tag) ≡ false

-- what agreement needs on top of what every list keeps, beside the plain memory and its ranges; NW = 1 only while no line is held
pub record Beside (rom : List Range) (s : State) (m : List ℕ) : Type 0 where
  pub rams : s.memory.ram ≡ m
  pub apart : Apart s.directory
  pub lines : Lines s.directory m s.array
  pub nw : s.directory.nw ≡ true → Empty s.directory
  pub ranges : ranges_kept s.directory ≡ rom
  pub outside : Outside rom s.directory

-- the state of the unit beside the plain memory
pub record Coherent (rom : List Range) (s : State) (m : List ℕ) : Type 0 where
  pub kept : Kept s
  pub beside : Beside rom s m

-- its first part, with the plain memory's length
pub kept_in : (rom : List Range) (s : State) (m : List ℕ) → Coherent rom s m → KeptIn (length m) s
kept_in rom s m c = record { kept = c.kept; ram_length = ap length c.beside.rams }

-- fewer lines, and none
pub fewer_lines : (d e : Directory) (m array : List ℕ) → ((s w tag : ℕ) → s < 128 → w < 4 → Held e s w tag → Held d s w tag) → Lines d m array → Lines e m array
fewer_lines d e m array f l =
    record {
      inside = λ s w tag sl wl h. l.inside s w tag sl wl (f s w tag sl wl h);
      same = λ s w tag sl wl h. l.same s w tag sl wl (f s w tag sl wl h);
    }

no_lines : (d : Directory) (m array : List ℕ) → Empty d → Lines d m array
no_lines d m array n =
    record {
      inside = λ s w tag sl wl h. absurd (n s w tag sl wl h);
      same = λ s w tag sl wl h. absurd (n s w tag sl wl h);
    }

-- another directory with the same NW and ranges, and no line that the first doesn't hold
pub fewer_beside : (rom : List Range) (s : State) (m : List ℕ) → Beside rom s m → (d : Directory) → ((r w tag : ℕ) → r < 128 → w < 4 → Held d r w tag → Held s.directory r w tag) →
    d.nw ≡ s.directory.nw → d.ranges ≡ s.directory.ranges → Apart d → Beside rom (state d s.memory s.array) m
fewer_beside rom s m b d f k e g =
    record {
      rams = b.rams;
      apart = g;
      lines = fewer_lines s.directory d m s.array f b.lines;
      nw = λ h r w tag rl wl q. b.nw (sym k ∙ h) r w tag rl wl (f r w tag rl wl q);
      ranges = ap ranges_of e ∙ b.ranges;
      outside = λ r w tag rl wl h. b.outside r w tag rl wl (f r w tag rl wl h);
    }

-- a directory that holds no line, whatever was held before
pub empty_beside : (rom : List Range) (s : State) (m : List ℕ) → s.memory.ram ≡ m → Apart s.directory → Empty s.directory → ranges_kept s.directory ≡ rom → Beside rom s m
empty_beside rom s m e g n q =
    record {
      rams = e;
      apart = g;
      lines = no_lines s.directory m s.array n;
      nw = λ _. n;
      ranges = q;
      outside = λ r w tag rl wl h. absurd (n r w tag rl wl h);
    }

-- bytes written into RAM with their parity, and into the plain memory, where the lines have them
pub beside_written : (rom : List Range) (s : State) (m : List ℕ) → Beside rom s m → (a : ℕ) (x array : List ℕ) → Lines s.directory (replaced rom m a x) array →
    Beside rom (state s.directory (written rom s.memory a x) array) (replaced rom m a x)
beside_written rom s m b a x array l =
    record {
      rams = written_ram rom s.memory a x ∙ ap (λ (z : List ℕ). replaced rom z a x) b.rams;
      apart = b.apart;
      lines = l;
      nw = b.nw;
      ranges = b.ranges;
      outside = b.outside;
    }

-- a line's address has one set and one tag
pub line_set : (s tag line : ℕ) → s < 128 → address_of s tag ≡ line → s ≡ set_of line
line_set s tag line l e = let k : line / 16 ≡ tag * 128 + s = omega arith in rw k (omega arith)

pub line_tag : (s tag line : ℕ) → s < 128 → address_of s tag ≡ line → tag ≡ tag_of line
line_tag s tag line l e = omega arith

pub line_around : (a : ℕ) → address_of (set_of a) (tag_of a) ≡ a / 16 * 16
line_around a = let k : a / 2048 ≡ a / 16 / 128 = omega arith in rw k (omega arith)

pub line_back : (line : ℕ) → line % 16 ≡ 0 → address_of (set_of line) (tag_of line) ≡ line
line_back line h = line_around line ∙ omega arith

-- the bytes of a held line
pub held_bytes : (d : Directory) (m array : List ℕ) → Lines d m array → (line w : ℕ) → line % 16 ≡ 0 → w < 4 → Held d (set_of line) w (tag_of line) → (from n : ℕ) → from + n ≤ 16 →
    bytes_at array (data_offset line w + from) n ≡ bytes_at m (line + from) n
held_bytes d m array l line w al wl h from n b =
    bytes_same array m (data_offset line w + from) (line + from) n λ o k.
    let e : data_offset line w + from + o ≡ data_offset line w + (from + o) = omega arith in
    let f : line + from + o ≡ line + (from + o) = omega arith in
    rw (e, f) (rw (line_back line al) at (l.same (set_of line) w (tag_of line) (omega arith) wl h (from + o) (omega arith)))

-- bytes put into a line leave the bytes of every other line
pub other_line : (l : List ℕ) (line from : ℕ) (x : List ℕ) (at o : ℕ) → line % 16 ≡ 0 → at % 16 ≡ 0 → from + length x ≤ 16 → o < 16 → (at ≡ line → ⊥) →
    get_or (sets l (line + from) x) (at + o) 0 ≡ get_or l (at + o) 0
other_line l line from x at o p q b k ne =
    elim (dec_lt at line) [
      | yes c ↦ sets_below l (line + from) x (at + o) (omega arith)
      | no c ↦ sets_above l (line + from) x (at + o) (let c2 : line < at = omega arith in omega arith)
    ]

-- the same bytes put into a line of each of two lists
same_line : (l k : List ℕ) (i j from : ℕ) (x : List ℕ) (o : ℕ) → i + from + length x ≤ length l → j + from + length x ≤ length k →
    get_or l (i + o) 0 ≡ get_or k (j + o) 0 → get_or (sets l (i + from) x) (i + o) 0 ≡ get_or (sets k (j + from) x) (j + o) 0
same_line l k i j from x o p q e =
    elim (dec_lt o from) [
      | yes c ↦ sets_below l (i + from) x (i + o) (omega arith) ∙ e ∙ sym (sets_below k (j + from) x (j + o) (omega arith))
      | no c ↦ elim (dec_le (from + length x) o) [
        | yes c2 ↦ sets_above l (i + from) x (i + o) (omega arith) ∙ e ∙ sym (sets_above k (j + from) x (j + o) (omega arith))
        | no c2 ↦
            let u : i + from + (o - from) ≡ i + o = omega arith in
            let v : j + from + (o - from) ≡ j + o = omega arith in
            (rw u at (sets_in l (i + from) x (o - from) (omega arith) (omega arith)))
            ∙ sym (rw v at (sets_in k (j + from) x (o - from) (omega arith) (omega arith)))
      ]
    ]

module _ (d : Directory) (m array : List ℕ) (l : Lines d m array) (line from : ℕ) (x : List ℕ) (al : line % 16 ≡ 0) (fx : from + length x ≤ 16) where
  -- bytes put into a line of memory that is not held
  pub stored_miss : ((s w tag : ℕ) → s < 128 → w < 4 → Held d s w tag → address_of s tag ≡ line → ⊥) → Lines d (sets m (line + from) x) array
  stored_miss ne =
      record {
        inside = λ s w tag sl wl h. rw length-sets (l.inside s w tag sl wl h);
        same = λ s w tag sl wl h o ol. l.same s w tag sl wl h o ol ∙ sym (other_line m line from x (address_of s tag) o al (omega arith) fx ol (ne s w tag sl wl h));
      }

  -- the same where a range may ignore them
  pub replaced_miss : (rom : List Range) → ((s w tag : ℕ) → s < 128 → w < 4 → Held d s w tag → address_of s tag ≡ line → ⊥) → Lines d (replaced rom m (line + from) x) array
  replaced_miss rom ne = by_range rom (λ (z : List ℕ). Lines d z array) m (line + from) x (let e : (line + from) % 16 ≤ from = omega arith in omega arith) (λ _. l) (λ _. stored_miss ne)

  -- bytes put into a held line, in memory and in the data array
  pub stored_hit : Apart d → length array ≡ 8192 → line + 16 ≤ length m → (w : ℕ) → w < 4 → Held d (set_of line) w (tag_of line) →
      Lines d (sets m (line + from) x) (sets array (data_offset line w + from) x)
  stored_hit g a8 fits w wl hw =
      record {
        inside = λ s v tag sl vl h. rw length-sets (l.inside s v tag sl vl h);
        same = λ s v tag sl vl h o ol.
            same_or _ (address_of s tag) line
            (λ e.
            let se : s ≡ set_of line = line_set s tag line sl e in
            let te : tag ≡ tag_of line = line_tag s tag line sl e in
            let h2 : Held d (set_of line) v (tag_of line) = rw (se, te) at h in
            let ve : v ≡ w = g.sets (set_of line) (omega arith) v w (tag_of line) vl wl h2 hw in
            let old : get_or array (data_offset line w + o) 0 ≡ get_or m (line + o) 0 = rw (e, se, ve) at (l.same s v tag sl vl h o ol) in
            rw (e, se, ve) (same_line array m (data_offset line w) line from x o (omega arith) (omega arith) old))
            (λ ne.
            let np : line_index s v * 16 ≡ data_offset line w → ⊥ = λ e.
            let se : s ≡ set_of line = omega arith in
            let ve : v ≡ w = omega arith in
            ne (let te : tag ≡ tag_of line = sym h.1 ∙ rw (se, ve) hw.1 in rw (se, te) (line_back line al)) in
            other_line array (data_offset line w) from x (line_index s v * 16) o (omega arith) (omega arith) fx ol np
            ∙ l.same s v tag sl vl h o ol
            ∙ sym (other_line m line from x (address_of s tag) o al (omega arith) fx ol ne));
      }

-- a kept fill of a line that is not held
pub filled_lines : (d : Directory) → Sized d → (m array : List ℕ) → Lines d m array → (line w : ℕ) → line % 16 ≡ 0 → line + 16 ≤ length m → length array ≡ 8192 → w < 4 →
    (x : List ℕ) → length x ≡ 16 → ((o : ℕ) → o < 16 → get_or x o 0 ≡ get_or m (line + o) 0) →
    Lines (after_fill d (set_of line) w (tag_of line)) m (sets array (data_offset line w) x)
filled_lines d z m array l line w al fits a8 wl x xl hx =
    record {
      inside = λ s v tag sl vl h. ⊎_elim (λ n. rw (n.0.0, n.1, line_back line al) fits) (λ n. l.inside s v tag sl vl n.1) (split s v tag vl h);
      same = λ s v tag sl vl h o ol.
          ⊎_elim
          (λ n. rw (n.0.0, n.0.1, n.1, line_back line al) (sets_in array (data_offset line w) x o (rw xl ol) (omega arith) ∙ hx o ol))
          (λ n. other_line s v o vl ol (λ e. n.0 (omega arith, omega arith)) ∙ l.same s v tag sl vl n.1 o ol)
          (split s v tag vl h);
    }
  where
    split : (s v tag : ℕ) → v < 4 → Held (after_fill d (set_of line) w (tag_of line)) s v tag →
        (Same s v (set_of line) w × (tag ≡ tag_of line)) ⊎ ((Same s v (set_of line) w → ⊥) × Held d s v tag)
    split = fill_held d (set_of line) w (tag_of line) z (omega arith) wl

    other_line : (s v o : ℕ) → v < 4 → o < 16 → (line_index s v ≡ line_index (set_of line) w → ⊥) → get_or (sets array (data_offset line w) x) (line_index s v * 16 + o) 0 ≡ get_or array (line_index s v * 16 + o) 0
    other_line s v o vl ol ne =
        elim (dec_lt (line_index s v) (line_index (set_of line) w)) [
          | yes c ↦ sets_below array (data_offset line w) x (line_index s v * 16 + o) (omega arith)
          | no c ↦ sets_above array (data_offset line w) x (line_index s v * 16 + o) (let c2 : line_index (set_of line) w < line_index s v = omega arith in omega arith)
        ]

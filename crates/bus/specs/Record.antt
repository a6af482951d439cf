-- Document 01, 'One doubleword': the three words that a cycle leaves in the log.
use Rattle.std.specs.Prelude.{ℕ, zero, suc, ◌+◌, ◌*◌, ◌/◌, ◌%◌, ◌^◌, Bool, false, cond, List, [], ◌∷◌}
use Rattle.std.proofs.lemmas.List.Edits.{sets}
use Rattle.words.specs.Bytes.{bytes_at, word_in}
use Rattle.memory.specs.Parity.{Memory, wrong_in}
use Rattle.bus.specs.declared.record.Kind.{Kind}
use Rattle.bus.specs.declared.record.Kind.TheVariants.{Plain, Write, Fill}
use Rattle.bus.specs.Bus.{Cycle}

-- "doubleword address; flags; data, unmoved lanes 0": `word` is the third, data.
pub record Record : Type 0 where
  pub address : ℕ
  pub flags : ℕ
  pub word : ℕ

-- "1, 2, 4, 8 for moved bytes 0 to 3": of so many bytes from a lane on.
unfoldable pub lanes_of : ℕ → ℕ → ℕ
lanes_of lane zero = 0
lanes_of lane (suc n) = 2 ^ lane + lanes_of (suc lane) n

-- "16 write; 32 fill"
abbrev pub plain_kind : ℕ
plain_kind = 0

abbrev pub write_kind : ℕ
write_kind = 16

abbrev pub fill_kind : ℕ
fill_kind = 32

abbrev pub kind_flag : Kind → ℕ
kind_flag Plain = plain_kind
kind_flag Write = write_kind
kind_flag Fill = fill_kind

-- "64 the last cycle made for this doubleword of the access, in a fill only its very last; 128 read with wrong parity in a moved byte."
unfoldable pub flags_of : ℕ → ℕ → ℕ → Bool → Bool → ℕ
flags_of lane count kind last wrong = lanes_of lane count + kind + cond last 64 0 + cond wrong 128 0

-- A read cycle's record, of a line that starts at an address.
unfoldable pub read_record : ℕ → Memory → ℕ → Cycle → Record
read_record kind m line c =
    record {
      address = line + c.moved.from / 4 * 4;
      flags =
          flags_of (c.moved.from % 4) c.moved.count kind c.last
          (wrong_in m (line + c.moved.from) c.moved.count);
      word = word_in (c.moved.from % 4) (bytes_at m.ram (line + c.moved.from) c.moved.count);
    }

-- A write cycle's record: it moves bytes of the line buffer and checks no parity.
unfoldable pub write_record : List ℕ → ℕ → Cycle → Record
write_record buffer line c =
    record {
      address = line + c.moved.from / 4 * 4;
      flags = flags_of (c.moved.from % 4) c.moved.count write_kind c.last false;
      word = word_in (c.moved.from % 4) (bytes_at buffer c.moved.from c.moved.count);
    }

-- "Each cycle leaves three 32-bit words in the log", and "Later log words are unchanged.": records from the place of a first one on.
unfoldable pub words_of : List Record → List ℕ
words_of [] = []
words_of (r ∷ rs) = r.address ∷ r.flags ∷ r.word ∷ words_of rs

abbrev pub logged : List ℕ → ℕ → List Record → List ℕ
logged log first rs = sets log (3 * first) (words_of rs)

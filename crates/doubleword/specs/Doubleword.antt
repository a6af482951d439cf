-- Document 01, 'One doubleword': what reads and writes share.
use Rattle.std.specs.Prelude.{ℕ, zero, suc, ◌+◌, ◌*◌, ◌-◌, ◌/◌, ◌%◌, min, List, [], ◌∷◌, take, drop}
use Rattle.directory.specs.declared.steps.Directory.{Directory}
use Rattle.ways.specs.Address.{byte_of, set_of, tag_of}
use Rattle.directory.specs.Steps.{after_use, after_fill}
use Rattle.memory.specs.Parity.{Memory}
use Rattle.bus.specs.Groups.{group_size}
use Rattle.bus.specs.Bus.{Run, run, Cycle, cycles_of}
use Rattle.bus.specs.Record.{Record}
use Rattle.doubleword.specs.declared.change.Change.{Change}
use Rattle.doubleword.specs.declared.change.Change.TheVariants.{Unchanged, Use, Fill}

-- A doubleword of an access: the address of its line, its wanted bytes, their place in the operand, its own answers.
pub record Doubleword : Type 0 where
  pub line : ℕ
  pub wanted : Run
  pub place : ℕ
  pub answers : List ℕ

-- "An access .., little-endian, touches one or two aligned doublewords, the lower one completed first (H)."; C-15: "up to three doublewords".
-- The doublewords that so many bytes from an address touch, at most g of them.
unfoldable pub doublewords_of : ℕ → List ℕ → ℕ → ℕ → ℕ → List Doubleword
doublewords_of zero xs address n place = []
doublewords_of (suc g) xs address zero place = []
doublewords_of (suc g) xs address (suc n) place =
    let here = min (suc n) (4 - address % 4) in
    record {
      line = address / 16 * 16;
      wanted = run (byte_of address) here;
      place = place;
      answers = take group_size xs;
    }
    ∷ doublewords_of g (drop group_size xs) (address + here) (suc n - here) (place + here)

-- What a doubleword does to the directory: `Unchanged` nothing, `Use` a use of a way of the line's set, `Fill` a kept fill of one.
unfoldable pub changed : Directory → ℕ → Change → Directory
changed d line Unchanged = d
changed d line (Use way) = after_use d (set_of line) way
changed d line (Fill way) = after_fill d (set_of line) way (tag_of line)

-- What a doubleword did: to the directory, to memory and to the data array, the bytes that it read, the records of its cycles.
pub record Done : Type 0 where
  pub change : Change
  pub memory : Memory
  pub array : List ℕ
  pub bytes : List ℕ
  pub records : List Record

-- The cycles for the wanted bytes only.
abbrev pub plain_cycles : Doubleword → List Cycle
plain_cycles w = cycles_of w.answers (w.wanted ∷ [])

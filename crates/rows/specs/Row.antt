-- Document 01, 'Board table and program': the header and a row.
use Rattle.std.specs.Prelude.{ℕ, List, [], ◌∷◌, ◌++◌}
use Rattle.fields.specs.Fields.{tab, newline}
use Rattle.rows.specs.Decimal.{decimal}

-- The header line: `event`, `answer`, `value`, `cycles`, with tabs between.
unfoldable pub header : List ℕ
header =
    101 ∷ 118 ∷ 101 ∷ 110 ∷ 116 ∷ tab
    ∷ 97 ∷ 110 ∷ 115 ∷ 119 ∷ 101 ∷ 114 ∷ tab
    ∷ 118 ∷ 97 ∷ 108 ∷ 117 ∷ 101 ∷ tab
    ∷ 99 ∷ 121 ∷ 99 ∷ 108 ∷ 101 ∷ 115 ∷ newline ∷ []

-- A number, the byte that ends its column, and what stands after it.
abbrev pub column : ℕ → ℕ → List ℕ → List ℕ
column n end rest = decimal n ++ end ∷ rest

-- "event (line from 1), answer (0 = done), value, cycles. Each line gives one tab-parted row, ended by a newline."
unfoldable pub row_of : ℕ → ℕ → ℕ → ℕ → List ℕ
row_of event number value cycles = column event tab (column number tab (column value tab (column cycles newline [])))

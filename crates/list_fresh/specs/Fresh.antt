-- What set-up lays down in the columns (document 01, "Rows and parties", first paragraph).
use Rattle.std.specs.Prelude.{List, ℕ, length, set}
use Rattle.columns.specs.Column.{zeros}
use Rattle.list_rows.specs.Table.{Table, tab, head, head_nxt, tail, tail_nxt}

-- a column with four entries for the end rows, in their order
abbrev pub laid : {A : Type 0} → List A → (a b c d : A) → List A
laid column a b c d = set (set (set (set column head a) head_nxt b) tail c) tail_nxt d

-- the same of numbers
abbrev pub ends : List ℕ → (a b c d : ℕ) → List ℕ
ends column a b c d = laid column a b c d

-- columns of these lengths: the end rows have kind 1 and follow each other, the last one itself; all else is 0
abbrev pub fresh_columns : (kinds keys nexts backs : ℕ) → Table
fresh_columns kinds keys nexts backs =
    tab (ends (zeros kinds) 1 1 1 1) (zeros keys) (ends (zeros nexts) head_nxt tail tail_nxt tail_nxt) (zeros backs)

-- an empty list of so many rows
abbrev pub fresh_table : (rows : ℕ) → Table
fresh_table rows = fresh_columns rows rows rows rows

-- each column of a table made that of an empty list, by its own length
abbrev pub emptied : Table → Table
emptied t = fresh_columns (length t.kind) (length t.key) (length t.next) (length t.back)

-- A lent column as the list of its rows' entries: a total read and a total write.
use Rattle.std.specs.Prelude.{List, ℕ, get_or, set, replicate}

-- what stands at a row; past the end, 0
abbrev pub at : List ℕ → ℕ → ℕ
at column row = get_or column row 0

-- the column with a value at a row and all else as it was; past the end, the whole column as it was
abbrev pub put : List ℕ → ℕ → ℕ → List ℕ
put column row value = set column row value

-- a column of so many rows, all 0
abbrev pub zeros : ℕ → List ℕ
zeros rows = replicate rows 0

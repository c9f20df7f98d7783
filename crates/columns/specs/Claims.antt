-- What is proved of columns: each fact once, for entries of every width.
use Rattle.std.specs.Prelude.{◌≡◌, ◌≢◌, List, ℕ, ◌<◌, ◌≤◌, length}
use Rattle.columns.specs.Column.{at, put}

-- a read past the end gives 0
abbrev pub ReadsZeroPast : Type 0
ReadsZeroPast = (column : List ℕ) (row : ℕ) → length column ≤ row → at column row ≡ 0

-- a write past the end does nothing
abbrev pub WritesNothingPast : Type 0
WritesNothingPast = (column : List ℕ) (row value : ℕ) → length column ≤ row → put column row value ≡ column

-- what was written at a row of the column is read there
abbrev pub ReadsWhatWasPut : Type 0
ReadsWhatWasPut = (column : List ℕ) (row value : ℕ) → row < length column → at (put column row value) row ≡ value

-- a write changes no other row
abbrev pub KeepsOtherRows : Type 0
KeepsOtherRows = (column : List ℕ) (row other value : ℕ) → other ≢ row →
    at (put column row value) other ≡ at column other

-- a write changes no length
abbrev pub KeepsLength : Type 0
KeepsLength = (column : List ℕ) (row value : ℕ) → length (put column row value) ≡ length column

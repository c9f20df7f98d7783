-- What is proved of the order of rows: that one number puts them as document 01 does ("Rows and parties").
use Rattle.std.specs.Prelude.{◌≡◌, true, ◌↔◌, ℕ, ◌<◌}
use Rattle.list_rows.specs.Table.{Table, key_at, is_item}
use Rattle.list_rows.specs.Order.{rank, equals_key}

-- a splice, row 0, row 1, an item with any legal key, row 2, row 3: each below the next, whatever stands in the key
-- column of the others
abbrev pub Ordered : Type 0
Ordered = (any row key : ℕ) → key < 4294967296 →
    (rank 3 any row < rank 1 any 0)
    × (rank 1 any 0 < rank 1 any 1)
    × (rank 1 any 1 < rank 2 key row)
    × (rank 2 key row < rank 1 any 2)
    × (rank 1 any 2 < rank 1 any 3)

-- items go by their keys
abbrev pub ItemsByKey : Type 0
ItemsByKey = (key row other_key other : ℕ) → (rank 2 key row < rank 2 other_key other) ↔ (key < other_key)

-- only an item can equal a key
abbrev pub OnlyItemsEqual : Type 0
OnlyItemsEqual = (t : Table) (row key : ℕ) → key < 4294967296 → equals_key t row key ≡ true →
    (is_item t row ≡ true) × (key_at t row ≡ key)

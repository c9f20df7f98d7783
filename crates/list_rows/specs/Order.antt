-- The order of rows as one number (document 01, "Rows and parties"): splices, row 0, row 1, items by key, row 2, row 3.
use Rattle.std.specs.Prelude.{List, Bool, cond, ℕ, zero, suc, ◌+◌, eqb, ltb}
use Rattle.columns.specs.Column.{at}
use Rattle.list_rows.specs.Table.{Table}

-- the end rows go by their numbers; every key is below 4,294,967,296, so that row 2 stands above all items
abbrev pub end_rank : ℕ → ℕ
end_rank zero = 1
end_rank (suc zero) = 2
end_rank (suc (suc zero)) = 4294967299
end_rank (suc (suc (suc row))) = 4294967300

-- the rank of every item with the key
abbrev pub key_rank : ℕ → ℕ
key_rank key = 3 + key

unfoldable pub rank : (kind key row : ℕ) → ℕ
rank kind key row = cond (eqb kind 3) 0 (cond (eqb kind 2) (key_rank key) (end_rank row))

-- of a row in two columns, and in a table
abbrev pub rank_in : (kinds keys : List ℕ) → (row : ℕ) → ℕ
rank_in kinds keys row = rank (at kinds row) (at keys row) row

abbrev pub rank_at : Table → ℕ → ℕ
rank_at t row = rank_in t.kind t.key row

-- ---- comparisons

abbrev pub below : Table → (row other : ℕ) → Bool
below t row other = ltb (rank_at t row) (rank_at t other)

-- below a key: before every item that has it
abbrev pub below_key : Table → (row key : ℕ) → Bool
below_key t row key = ltb (rank_at t row) (key_rank key)

-- no end row and no splice has the rank of a legal key (`OnlyItemsEqual` in Claims)
abbrev pub equals_key : Table → (row key : ℕ) → Bool
equals_key t row key = eqb (rank_at t row) (key_rank key)

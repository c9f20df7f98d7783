-- The chain that a listing follows, and the live keys on it (document 01, "The moves", last paragraph).
use Rattle.std.specs.Prelude.{List, [], ◌∷◌, Bool, true, false, not, cond, ◌&&◌, ◌||◌, ℕ, zero, suc, eqb}
use Rattle.list_rows.specs.Table.{Table, tail, key_at, next_at, is_item, is_splice}
use Rattle.list_rows.specs.Order.{below}

-- the row behind a row, with the splice of a removed row passed over
abbrev pub behind : Table → ℕ → ℕ
behind t row = cond (is_splice t (next_at t row)) (next_at t (next_at t row)) (next_at t row)

-- an item whose next is not a splice
abbrev pub is_live : Table → ℕ → Bool
is_live t row = is_item t row && not (is_splice t (next_at t row))

-- each row is below the one behind it, from this row on to row 2
-- (fuel bounds the walk; `FuelNeverDecides` of `list` says that on good form T is enough)
unfoldable pub rises : Table → (fuel row : ℕ) → Bool
rises t zero row = eqb row tail
rises t (suc fuel) row = eqb row tail || (below t row (behind t row) && rises t fuel (behind t row))

-- a key, if its row is live, before those behind it
abbrev pub with_key : Bool → ℕ → List ℕ → List ℕ
with_key true key later = key ∷ later
with_key false key later = later

-- the live keys from a row on, in the order of the chain, until row 2
unfoldable pub live_from : Table → (fuel row : ℕ) → List ℕ
live_from t zero row = []
live_from t (suc fuel) row =
    cond (eqb row tail) [] (with_key (is_live t row) (key_at t row) (live_from t fuel (behind t row)))

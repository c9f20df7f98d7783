-- The order of rows by one number.
-- Assumes nothing.
use Prim.Native.Nat.{ℕ, zero, suc, ◌+◌, ◌<◌}
use mathlib.Core.Path.{◌≡◌, refl}
use mathlib.Core.Bool.{Bool, true, false, cond}
use native.Mathlib.Omega.{arith}
use lib.Dec.{eqb}
use borrow.Author.Tests.{eqb-true}
use Rattle.list_rows.specs.Order.{end_rank, rank, rank_at}
use Rattle.list_rows.specs.Table.{kind_at, key_at}
use Rattle.list_rows.specs.Claims.{Ordered, ItemsByKey, OnlyItemsEqual}

pub ordered : Ordered
unfolding rank
ordered any row key fits = (omega arith, omega arith, omega arith, omega arith, omega arith)

pub items_by_key : ItemsByKey
unfolding rank
items_by_key key row other_key other = ((λ h. omega (arith, h)), (λ h. omega (arith, h)))

-- no end row has the rank of a legal key
end_differs : (row key : ℕ) → key < 4294967296 → end_rank row ≡ 3 + key → ⊥
end_differs zero key fits e = omega (arith, fits, e)
end_differs (suc zero) key fits e = omega (arith, fits, e)
end_differs (suc (suc zero)) key fits e = omega (arith, fits, e)
end_differs (suc (suc (suc row))) key fits e = omega (arith, fits, e)

-- by the outcomes of the two tests of the kind
item_alone : (splice item : Bool) (key row wanted : ℕ) → wanted < 4294967296 →
    cond splice 0 (cond item (3 + key) (end_rank row)) ≡ 3 + wanted → (item ≡ true) × (key ≡ wanted)
item_alone true item key row wanted fits e = absurd (omega (arith, e))
item_alone false true key row wanted fits e = (refl, omega (arith, e))
item_alone false false key row wanted fits e = absurd (end_differs row wanted fits e)

pub only_items_equal : OnlyItemsEqual
unfolding rank
only_items_equal t row key fits e =
    item_alone (eqb (kind_at t row) 3) (eqb (kind_at t row) 2) (key_at t row) row key fits (eqb-true (rank_at t row) (3 + key) e)

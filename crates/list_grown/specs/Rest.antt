-- The list at rest: where all parties are idle, no splice stands on the chain.
use Rattle.std.specs.Prelude.{◌≡◌, true, false, ℕ, zero, suc, ◌<◌}
use Rattle.list_rows.specs.Table.{Table, next_at, is_splice}
use Rattle.list_unchecked.specs.Unchecked.{Machine, party_of}
use Rattle.list_party.specs.Party.{is_idle}
use Rattle.list_chain.specs.Chain.{behind}
use Rattle.list_grown.specs.History.{History, Grows, grown}

-- the row after so many steps of the chain from row 1
unfoldable pub row_after : Table → (steps : ℕ) → ℕ
row_after t zero = 1
row_after t (suc steps) = behind t (row_after t steps)

-- the next of no row on it is a splice
abbrev pub AtRest : Type 0
AtRest = (came : Machine) (parties : ℕ) (history : History) → Grows came parties history →
    let m = grown came parties history in
    ((party : ℕ) → party < parties → is_idle (party_of m party).place ≡ true) →
    (steps : ℕ) → is_splice m.table (next_at m.table (row_after m.table steps)) ≡ false

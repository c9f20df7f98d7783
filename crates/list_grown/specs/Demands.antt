-- What is proved of every list grown from set-up: demands 2 and 3, and what they stand on. (In words: docs/PROOFS.md.)
use Rattle.std.specs.Prelude.{◌≡◌, List, true, false, ◌↔◌, ℕ, ◌+◌, ◌-◌, ◌*◌, ◌<◌, ◌≤◌, ltb, length}
use Rattle.refusal.specs.Answer.{accepted, left, passed, refusing, leaving}
use Rattle.list_rows.specs.Table.{key_at, back_at, is_splice}
use Rattle.list_party.specs.declared.Party.{Party}
use Rattle.list_unchecked.specs.Unchecked.{Machine, party_of}
use Rattle.list_form.specs.Form.{good_form}
use Rattle.list_chain.specs.Chain.{is_live}
use Rattle.logic.specs.Sum.{one_if, sum}
use Rattle.list.specs.Engine.{bad_table, live_keys, places_with, list_of}
use Rattle.list.specs.Run.{Event, event_of, run}
use Rattle.logic.specs.Keys.{Rising, has, placed, without}
use Rattle.list_grown.specs.History.{History, accepts, AllAccepted, heeded, keys_are_32, start, Grows, grown}
use Rattle.list_grown.specs.Deeds.{Deed, called, read, add_won, mark_won, clean_won, lost, deed_of, counts_of}

-- ---- refused events

-- they leave no trace: a history with keys of 32 bits leaves the machine that its accepted events alone leave
abbrev pub AllHeeded : Type 0
AllHeeded = (m : Machine) (history : History) → keys_are_32 history ≡ true →
    (run m history ≡ run m (heeded m history)) × AllAccepted m (heeded m history)

-- ---- good form

-- whatever has happened since set-up, the state has good form, and the columns have a length that the engine takes
abbrev pub GoodFormKept : Type 0
GoodFormKept = (came : Machine) (parties : ℕ) (history : History) → Grows came parties history →
    (good_form (grown came parties history) ≡ true) × (bad_table (grown came parties history).table ≡ false)

-- ---- the listing

-- a party that has not published its own row holds it
abbrev pub HoldsRow : Party → ℕ → Type 0
HoldsRow q row = (q.unpublished ≡ true) × (q.own ≡ row)

-- taken, and held by no party
abbrev pub Published : Machine → ℕ → Type 0
Published m row = (row < m.state.taken) × ((party : ℕ) → HoldsRow (party_of m party) row → ⊥)

-- a published item with this key that nobody has removed
pub record LiveRow (m : Machine) (key : ℕ) : Type 0 where
  pub row : ℕ
  pub published : Published m row
  pub live : is_live m.table row ≡ true
  pub keyed : key_at m.table row ≡ key

-- of the refusals of a listing only 10 is left; what is listed rises, and is exactly the keys of the live rows
abbrev pub ListsLiveKeys : Type 0
ListsLiveKeys = (came : Machine) (parties : ℕ) (history : History) → Grows came parties history →
    let m = grown came parties history in
    let count = length (live_keys m) in
    ((places : List ℕ) → list_of m places
    ≡ leaving (refusing (ltb (length places) count) 10 passed) places
    (left (places_with (live_keys m) places) (accepted count)))
    × Rising (live_keys m)
    × ((key : ℕ) → (has key (live_keys m) ≡ true) ↔ LiveRow m key)

-- ---- the second demand

-- what an event does to the live keys, given as the lists before and after it
abbrev pub Changes : Deed → (before after : List ℕ) → Type 0
Changes called before after = after ≡ before
Changes read before after = after ≡ before
Changes (add_won key) before after = (has key before ≡ false) × (after ≡ placed key before)
Changes (mark_won key) before after = (has key before ≡ true) × (after ≡ without key before)
Changes clean_won before after = after ≡ before
Changes lost before after = after ≡ before

-- every accepted event after every accepted history: a won add swap brings in its key alone, a won mark swap takes out
-- its key alone
abbrev pub Demand2 : Type 0
Demand2 = (came : Machine) (parties : ℕ) (history : History) (event : Event) → Grows came parties history →
    let m = grown came parties history in
    accepts m event ≡ true → Changes (deed_of m event) (live_keys m) (live_keys (event_of m event).memory)

-- ---- the third demand

-- for every number of parties that set-up accepts, which is 1 to 16
abbrev pub Demand3 : Type 0
Demand3 = (came : Machine) (parties : ℕ) (history : History) → Grows came parties history →
    let m = grown came parties history in
    let counts = counts_of (start came parties) history in
    (counts.lost ≤ (parties - 1) * counts.won)
    × (counts.won ≤ counts.ins + 2 * counts.outs)
    × (m.state.tallies.moves ≡ counts.moves)
    × (m.state.tallies.won ≡ counts.won)
    × (m.state.tallies.lost ≡ counts.lost)

-- ---- the rows

-- how many rows the parties hold unpublished
abbrev pub rows_held : Machine → ℕ
rows_held m = sum (λ party. one_if (party_of m party).unpublished) m.state.count

-- document 01, "The moves", of T: as many rows are taken as there are ends, add swaps and mark swaps won, and rows held
abbrev pub RowsTaken : Type 0
RowsTaken = (came : Machine) (parties : ℕ) (history : History) → Grows came parties history →
    let m = grown came parties history in
    let counts = counts_of (start came parties) history in
    m.state.taken ≡ 4 + counts.adds + counts.marks + rows_held m

-- document 01, "Rows and parties": only a splice has a back, and 0 means none
abbrev pub Backs : Type 0
Backs = (came : Machine) (parties : ℕ) (history : History) → Grows came parties history →
    let m = grown came parties history in
    (row : ℕ) → is_splice m.table row ≡ false → back_at m.table row ≡ 0

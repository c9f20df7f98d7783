-- A call and a move without any test: what document 01 says of an accepted one ("The moves").
use Rattle.std.specs.Prelude.{true, cond, ℕ}
use Rattle.calls.specs.declared.Call.{Call}
use Rattle.calls.specs.declared.Call.TheVariants.{Add, Remove, Contains}
use Rattle.calls.specs.declared.Said.{Said}
use Rattle.calls.specs.Tallies.{one_more}
use Rattle.list_party.specs.declared.Place.TheVariants.{Walk, Look}
use Rattle.list_party.specs.declared.Party.{Party}
use Rattle.list_party.specs.declared.State.{State}
use Rattle.list_party.specs.Party.{party_record, goes_to}
use Rattle.list_party.specs.State.{party_at, with_party, with_taken, tallied}
use Rattle.list_rows.specs.declared.Write.TheVariants.{Untouched, Item}
use Rattle.list_rows.specs.declared.ColumnsMut.{ColumnsMut}
use Rattle.list_rows.specs.Table.{Table, table_held, head, head_nxt}
use Rattle.list_rows.specs.Writes.{written}
use Rattle.list_moves.specs.declared.Moved.{Moved}
use Rattle.list_moves.specs.Moves.{move_at}
use Rattle.list_unchecked.specs.declared.Begun.{Begun}
use Rattle.list_unchecked.specs.declared.Engine.{Engine}

-- all that the engine works on: the table and the state
pub record Machine : Type 0 where
  pub table : Table
  pub state : State

abbrev pub machine : Table → State → Machine
machine table state = record { table = table; state = state }

-- the four lent columns of an engine
abbrev pub columns_of : Engine → ColumnsMut
columns_of engine = record { kind = engine.kind; key = engine.key; next = engine.next; back = engine.back }

-- what the code works on: the four lent columns and the state
abbrev pub machine_of : Engine → Machine
machine_of engine = machine (table_held (columns_of engine)) engine.state

-- party i of the machine
abbrev pub party_of : Machine → ℕ → Party
party_of m i = party_at m.state i

-- ---- a call

-- the row of an ADD or a REMOVE: the party's spare, which is an unpublished own, else row T
abbrev pub own_row : State → Party → ℕ
own_row st q = cond q.unpublished q.own st.taken

-- T is one more if row T is taken
abbrev pub taken_then : State → Party → ℕ
taken_then st q = cond q.unpublished st.taken (one_more 65535 st.taken)

-- the start: p = 0, n = 1, c = 1, place WALK; own is unpublished
abbrev pub starting : Call → (key own : ℕ) → Party
starting call key own =
    party_record (Walk call key) (record { p = head; n = head_nxt; c = head_nxt; s = 0; r = 0 }) own true

-- the own row becomes an item with the call's key, next 0 and back 0
abbrev pub start_of : State → Party → Call → ℕ → Begun
start_of st q call key =
    let own = own_row st q in
    record { party = starting call key own; write = Item own key; taken = taken_then st q }

-- what a call comes to: the party after it, what is written, how many rows are then taken; a CONTAINS takes none
unfoldable pub begun_of : State → Party → Call → ℕ → Begun
begun_of st q Add key = start_of st q Add key
begun_of st q Remove key = start_of st q Remove key
begun_of st q Contains key =
    let looks = goes_to q (Look Contains key) (record { p = 0; n = 0; c = head_nxt; s = 0; r = 0 }) in
    record { party = looks; write = Untouched; taken = st.taken }

-- put into the table and the state
abbrev pub started : Machine → ℕ → Begun → Machine
started m i begun =
    machine (written begun.write m.table) (with_taken (with_party m.state i begun.party) begun.taken)

unfoldable pub unchecked_call : Machine → ℕ → Call → ℕ → Machine
unchecked_call m i call key = started m i (begun_of m.state (party_of m i) call key)

-- ---- a move

-- what a move leaves, and what it says (`word_of` of `calls` reads it in the document's words)
pub record Made : Type 0 where
  pub after : Machine
  pub said : Said

abbrev pub made : Machine → Said → Made
made after said = record { after = after; said = said }

-- what the place's definition gives, put into the table, the party's record and the tallies
abbrev pub settled : State → ℕ → Moved → State
settled st i moved = tallied moved.access (with_party st i moved.party)

abbrev pub carried : Machine → ℕ → Moved → Made
carried m i moved = made (machine (written moved.write m.table) (settled m.state i moved)) moved.said

unfoldable pub unchecked_move : Machine → ℕ → Made
unchecked_move m i = carried m i (move_at (party_of m i).place m.table (party_of m i))

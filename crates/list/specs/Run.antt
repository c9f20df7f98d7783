-- Events, which are calls and moves, one after another: the state that they leave and what each is answered.
use Rattle.std.specs.Prelude.{List, [], ◌∷◌, ℕ}
use Rattle.refusal.specs.Answer.{Answer, accepted, refused, Left, Tests}
use Rattle.calls.specs.Words.{Word, nothing}
use Rattle.columns.specs.Column.{zeros}
use Rattle.list_rows.specs.Table.{Table, tab}
use Rattle.list_party.specs.State.{resting_state}
use Rattle.list_unchecked.specs.Unchecked.{Machine, machine}
use Rattle.list.specs.Engine.{set_up_of, call_of, move_of}

-- what the engine is asked for: a call of a party by its code and key, or a move
pub data Event : Type 0 where
  calls : (party code key : ℕ) → Event
  moves : (party : ℕ) → Event

-- an accepted call says nothing
abbrev pub quiet : Tests → Answer Word
quiet (accepted done) = accepted nothing
quiet (refused number) = refused number

-- what an event leaves, and its answer
abbrev pub event_of : Machine → Event → Left Machine Word
event_of m (calls party code key) =
    record { memory = (call_of m party code key).memory; answer = quiet (call_of m party code key).answer }
event_of m (moves party) = move_of m party

-- the state after all of them
unfoldable pub run : Machine → List Event → Machine
run m [] = m
run m (first ∷ rest) = run (event_of m first).memory rest

-- what each of them is answered
unfoldable pub replies : Machine → List Event → List (Answer Word)
replies m [] = []
replies m (first ∷ rest) = (event_of m first).answer ∷ replies (event_of m first).memory rest

-- accepted, and no answer of a call yet
abbrev pub going : Answer Word
going = accepted nothing

-- columns of so many rows, all zeros
abbrev pub zero_table : (rows : ℕ) → Table
zero_table rows = tab (zeros rows) (zeros rows) (zeros rows) (zeros rows)

-- what a program has before its first set-up, in columns of so many rows
abbrev pub unset : (rows : ℕ) → Machine
unset rows = machine (zero_table rows) (resting_state 0 0)

-- a fresh list of so many rows
abbrev pub fresh : (rows parties : ℕ) → Machine
fresh rows parties = (set_up_of (unset rows) parties).memory

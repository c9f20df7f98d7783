-- A line on the list: what it asks, what that leaves, and the answer (document 01, "The schedule program").
use Rattle.std.specs.Prelude.{List, [], ◌∷◌, ℕ, get_or}
use Rattle.refusal.specs.Answer.{Answer, accepted, refused, Left, left, leaving}
use Rattle.calls.specs.Words.{Word}
use Rattle.list_unchecked.specs.Unchecked.{Machine, unchecked_call, unchecked_move}
use Rattle.list_form.specs.Form.{rows_in}
use Rattle.field.specs.Field.{load_of}
use Rattle.list.specs.Engine.{call_asks, move_asks, accepting}
use Rattle.calls.specs.Calls.{call_named}
use Rattle.list.specs.Run.{Event, calls, moves, going}
use Rattle.script.specs.declared.CallLine.{CallLine}
use Rattle.script.specs.declared.Line.{Line}
use Rattle.script.specs.declared.Line.TheVariants.{Call, Step, End, Bad}

-- ---- one event

-- how an engine takes an event: `event_of` of `list`, which tests everything, or `plain_event`
abbrev pub TakesEvent : Type 0
TakesEvent = Machine → Event → Left Machine Word

-- an event without the tests for 1 and 3
unfoldable pub plain_event : TakesEvent
plain_event m (calls party code key) =
    leaving (call_asks m.state (rows_in m.table) party code) m
    (left (unchecked_call m party (call_named code) key) going)
plain_event m (moves party) = leaving (move_asks m.state party) m (accepting (unchecked_move m party))

-- ---- one line

-- the four bytes of the field, as they stand in the line
abbrev pub field_in : CallLine → List ℕ
field_in c = get_or c.field 0 0 ∷ get_or c.field 1 0 ∷ get_or c.field 2 0 ∷ get_or c.field 3 0 ∷ []

-- the party that a line names; where it names none, 0
abbrev pub party_in : Line → ℕ
party_in (Call c) = c.party
party_in (Step party next) = party
party_in (End count next) = 0
party_in Bad = 0

-- the load of the key comes before the call; what refuses it refuses the line
unfoldable pub loaded : TakesEvent → Machine → CallLine → Answer ℕ → Left Machine Word
loaded takes m c (accepted key) = takes m (calls c.party c.code key)
loaded takes m c (refused number) = left m (refused number)

-- what a line leaves, and its answer; the order is the code of the byte order that the head names
unfoldable pub line_of : TakesEvent → (order : ℕ) → Machine → Line → Left Machine Word
line_of takes order m (Call c) = loaded takes m c (load_of (field_in c) 0 order)
line_of takes order m (Step party next) = takes m (moves party)
line_of takes order m (End count next) = left m going
line_of takes order m Bad = left m going

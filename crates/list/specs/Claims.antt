-- What is proved of the entry points, beside their contracts.
use Rattle.std.specs.Prelude.{◌≡◌, true, false, List, ℕ, ◌+◌, Result}
use Rattle.refusal.specs.Answer.{accepted, refused, left, passed, leaving}
use Rattle.calls.specs.Calls.{call_named}
use Rattle.calls.specs.Words.{Word}
use Rattle.list_rows.specs.Table.{Table, head_nxt}
use Rattle.list_party.specs.State.{resting_state}
use Rattle.list_unchecked.specs.Unchecked.{Machine, machine, unchecked_call, unchecked_move}
use Rattle.list_form.specs.Form.{rows_in, good_form}
use Rattle.list_chain.specs.Chain.{rises, live_from}
use Rattle.refusal.specs.declared.Refusal.{Refusal}
use Rattle.list.specs.Answers.{listed_is}
use Rattle.list.specs.Engine.{bad_table, set_up_of, call_asks, call_of, move_asks, accepting, move_of, list_of}

-- ---- good form is kept

-- an accepted set-up gives good form, whatever stood in the columns and the state
abbrev pub SetUpIsGood : Type 0
SetUpIsGood = (m : Machine) (parties : ℕ) → (set_up_of m parties).answer ≡ passed →
    good_form (set_up_of m parties).memory ≡ true

-- the state of no party and no row, which a program has before its first set-up, has not good form, with any columns
abbrev pub UnsetIsBad : Type 0
UnsetIsBad = (t : Table) → good_form (machine t (resting_state 0 0)) ≡ true → ⊥

-- an accepted call keeps good form, on any state
abbrev pub CallKeeps : Type 0
CallKeeps = (m : Machine) (party code key : ℕ) → (call_of m party code key).answer ≡ passed →
    good_form (call_of m party code key).memory ≡ true

-- an accepted move keeps good form, on any state
abbrev pub MoveKeeps : Type 0
MoveKeeps = (m : Machine) (party : ℕ) (word : Word) → (move_of m party).answer ≡ accepted word →
    good_form (move_of m party).memory ≡ true

-- ---- on good form, and with no more rows than a table may have, a call and a move need no test of the form

-- of the refusals of a call only 4, 5, 6 and 7 are left, and an accepted call is the unchecked one
abbrev pub CallOnGoodForm : Type 0
CallOnGoodForm = (m : Machine) (party code key : ℕ) → bad_table m.table ≡ false → good_form m ≡ true →
    call_of m party code key
    ≡ leaving (call_asks m.state (rows_in m.table) party code) m
    (left (unchecked_call m party (call_named code) key) passed)

-- of the refusals of a move only 4, 8 and 9 are left, and an accepted move is the unchecked one
abbrev pub MoveOnGoodForm : Type 0
MoveOnGoodForm = (m : Machine) (party : ℕ) → bad_table m.table ≡ false → good_form m ≡ true →
    move_of m party ≡ leaving (move_asks m.state party) m (accepting (unchecked_move m party))

-- ---- fuel never decides

-- a chain that rises visits a row once, so T rows are fuel enough: more fuel finds no other answer and no other key
abbrev pub FuelNeverDecides : Type 0
FuelNeverDecides = (m : Machine) (more : ℕ) → good_form m ≡ true →
    let T = m.state.taken in
    (rises m.table (T + more) head_nxt ≡ rises m.table T head_nxt)
    × (rises m.table T head_nxt ≡ true → live_from m.table (T + more) head_nxt ≡ live_from m.table T head_nxt)

-- ---- what a refusal leaves is what came

abbrev pub RefusedSetUpLeaves : Type 0
RefusedSetUpLeaves = (m : Machine) (parties number : ℕ) → (set_up_of m parties).answer ≡ refused number →
    (set_up_of m parties).memory ≡ m

abbrev pub RefusedCallLeaves : Type 0
RefusedCallLeaves = (m : Machine) (party code key number : ℕ) → (call_of m party code key).answer ≡ refused number →
    (call_of m party code key).memory ≡ m

abbrev pub RefusedMoveLeaves : Type 0
RefusedMoveLeaves = (m : Machine) (party number : ℕ) → (move_of m party).answer ≡ refused number →
    (move_of m party).memory ≡ m

abbrev pub RefusedListingLeaves : Type 0
RefusedListingLeaves = (m : Machine) (places : List ℕ) (number : ℕ) → (list_of m places).answer ≡ refused number →
    (list_of m places).memory ≡ places

-- ---- an answer tells its case: the promises, made in the document's terms, determine the enums

abbrev pub ListedDiffer : Type 0
ListedDiffer = (a b : Result ℕ Refusal) → listed_is a ≡ listed_is b → a ≡ b

-- The entry points: what each leaves and answers on every input
-- (document 01, "Rows and parties", "The moves", "Refusal numbers").
use Prim.{Unit}
use Rattle.std.specs.Prelude.{List, ◌++◌, Bool, not, ◌&&◌, ◌||◌, ℕ, length, drop, eqb, ltb, leb}
use Rattle.refusal.specs.Answer.{accepted, Left, left, Tests, passed, refusing, leaving}
use Rattle.calls.specs.declared.Call.{Call}
use Rattle.calls.specs.Calls.{call_named, is_contains}
use Rattle.calls.specs.Words.{Word, word_of}
use Rattle.list_rows.specs.Table.{Table, head_nxt}
use Rattle.list_party.specs.declared.State.{State}
use Rattle.list_party.specs.Party.{is_idle}
use Rattle.list_party.specs.State.{party_at, resting_state}
use Rattle.list_unchecked.specs.Unchecked.{Machine, machine, Made, unchecked_call, unchecked_move}
use Rattle.list_fresh.specs.Fresh.{fresh_table}
use Rattle.list_form.specs.Form.{rows_in, columns_agree, good_form}
use Rattle.list_chain.specs.Chain.{rises, live_from}

-- ---- tests that several entry points share

-- the test for 1, of the columns' lengths
abbrev pub bad_columns : (kind key next back : ℕ) → Bool
bad_columns kind key next back = not (columns_agree kind key next back && (leb 4 kind && leb kind 4096))

abbrev pub bad_table : Table → Bool
bad_table t = bad_columns (length t.kind) (length t.key) (length t.next) (length t.back)

-- 1, then 3, then what the entry point itself asks
abbrev pub form_tests : Machine → (later : Tests) → Tests
form_tests m later = refusing (bad_table m.table) 1 (refusing (not (good_form m)) 3 later)

-- ---- set-up: 1, 2

-- the test for 2
abbrev pub bad_parties : ℕ → Bool
bad_parties parties = eqb parties 0 || ltb 16 parties

abbrev pub set_up_tests : Table → ℕ → Tests
set_up_tests t parties = refusing (bad_table t) 1 (refusing (bad_parties parties) 2 passed)

-- whatever came: an empty list in the columns, all parties idle without a spare, T at 4 and all tallies at 0
unfoldable pub set_up_of : Machine → (parties : ℕ) → Left Machine (Unit {0})
set_up_of m parties =
    leaving (set_up_tests m.table parties) m
    (left (machine (fresh_table (rows_in m.table)) (resting_state parties 4)) passed)

-- ---- call: 1, 3, 4, 5, 6, 7

-- the test for 7: a row is needed, and there is neither a spare nor one to take
abbrev pub no_row : (unpublished : Bool) (taken rows : ℕ) → Call → Bool
no_row unpublished taken rows call = not (is_contains call) && (not unpublished && eqb taken rows)

-- 4, 5, 6, 7
abbrev pub call_asks : State → (rows party code : ℕ) → Tests
call_asks st rows party code =
    refusing (leb st.count party) 4
    (refusing (not (is_idle (party_at st party).place)) 5
    (refusing (ltb 2 code) 6
    (refusing (no_row (party_at st party).unpublished st.taken rows (call_named code)) 7 passed)))

abbrev pub call_tests : Machine → (party code : ℕ) → Tests
call_tests m party code = form_tests m (call_asks m.state (rows_in m.table) party code)

unfoldable pub call_of : Machine → (party code key : ℕ) → Left Machine (Unit {0})
call_of m party code key =
    leaving (call_tests m party code) m (left (unchecked_call m party (call_named code) key) passed)

-- ---- move: 1, 3, 4, 8, 9

-- 4, 8, 9
abbrev pub move_asks : State → (party : ℕ) → Tests
move_asks st party =
    refusing (leb st.count party) 4
    (refusing (is_idle (party_at st party).place) 8
    (refusing (eqb st.tallies.moves 16777216) 9 passed))

abbrev pub move_tests : Machine → (party : ℕ) → Tests
move_tests m party = form_tests m (move_asks m.state party)

-- a move is answered by what it says
abbrev pub accepting : Made → Left Machine Word
accepting made = left made.after (accepted (word_of made.said))

unfoldable pub move_of : Machine → (party : ℕ) → Left Machine Word
move_of m party = leaving (move_tests m party) m (accepting (unchecked_move m party))

-- ---- listing: 1, 3, 10

-- the chain starts at row 1, and no more than T rows are on it
abbrev pub chain_rises : Machine → Bool
chain_rises m = rises m.table m.state.taken head_nxt

abbrev pub live_keys : Machine → List ℕ
live_keys m = live_from m.table m.state.taken head_nxt

-- 3, 10
abbrev pub list_asks : Machine → (places : ℕ) → Tests
list_asks m places =
    refusing (not (chain_rises m)) 3
    (refusing (ltb places (length (live_keys m))) 10 passed)

abbrev pub list_tests : Machine → (places : ℕ) → Tests
list_tests m places = form_tests m (list_asks m places)

-- the first places hold the keys, and no other place is written
abbrev pub places_with : List ℕ → List ℕ → List ℕ
places_with keys places = keys ++ drop (length keys) places

-- what a listing leaves in its places, and how many keys it has listed; the table and the state are only read
unfoldable pub list_of : Machine → List ℕ → Left (List ℕ) ℕ
list_of m places =
    leaving (list_tests m (length places)) places
    (left (places_with (live_keys m) places) (accepted (length (live_keys m))))

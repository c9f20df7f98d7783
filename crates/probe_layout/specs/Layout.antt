-- The layout of a question: what stands at which byte, what fits, how a table is read, and how a state is written back.
use Rattle.std.specs.Prelude.{List, ◌++◌, Bool, cond, ◌&&◌, ℕ, ◌+◌, ◌*◌, length, eqb, ltb, leb}
use Rattle.logic.specs.Every.{every}
use Rattle.list_rows.specs.Table.{Table, tab}
use Rattle.calls.specs.declared.Tallies.{Tallies}
use Rattle.list_party.specs.declared.State.{State}
use Rattle.list_unchecked.specs.Unchecked.{Machine, machine}
use Rattle.probe_layout.specs.declared.Question.{Question}
use Rattle.probe_layout.specs.Bytes.{byte_at, two_at, four_at, each, low, lows}
use Rattle.probe_layout.specs.Records.{record_at, record_fits, records_bytes}

-- ---- what is asked

-- 0 set-up, 1 call, 2 move, 3 listing
abbrev pub what_in : List ℕ → ℕ
what_in bytes = byte_at bytes 0

-- the party; of a set-up, the number of parties
abbrev pub party_in : List ℕ → ℕ
party_in bytes = four_at bytes 1

abbrev pub code_in : List ℕ → ℕ
code_in bytes = four_at bytes 5

abbrev pub key_in : List ℕ → ℕ
key_in bytes = four_at bytes 9

abbrev pub places_in : List ℕ → ℕ
places_in bytes = two_at bytes 13

-- ---- the columns: four lengths, and behind the party records the entries

abbrev pub kinds_in : List ℕ → ℕ
kinds_in bytes = two_at bytes 15

abbrev pub keys_in : List ℕ → ℕ
keys_in bytes = two_at bytes 17

abbrev pub nexts_in : List ℕ → ℕ
nexts_in bytes = two_at bytes 19

abbrev pub backs_in : List ℕ → ℕ
backs_in bytes = two_at bytes 21

-- the question: all of these numbers
abbrev pub question_in : List ℕ → Question
question_in bytes = record {
  what = what_in bytes;
  party = party_in bytes;
  code = code_in bytes;
  key = key_in bytes;
  places = places_in bytes;
  kinds = kinds_in bytes;
  keys = keys_in bytes;
  nexts = nexts_in bytes;
  backs = backs_in bytes;
}

abbrev pub keys_from : List ℕ → ℕ
keys_from bytes = 363 + kinds_in bytes

abbrev pub nexts_from : List ℕ → ℕ
nexts_from bytes = keys_from bytes + 4 * keys_in bytes

abbrev pub backs_from : List ℕ → ℕ
backs_from bytes = nexts_from bytes + 2 * nexts_in bytes

abbrev pub end_of : List ℕ → ℕ
end_of bytes = backs_from bytes + 2 * backs_in bytes

unfoldable pub table_in : List ℕ → Table
table_in bytes =
    tab
    (each (byte_at bytes) 1 (kinds_in bytes) 363)
    (each (four_at bytes) 4 (keys_in bytes) (keys_from bytes))
    (each (two_at bytes) 2 (nexts_in bytes) (nexts_from bytes))
    (each (two_at bytes) 2 (backs_in bytes) (backs_from bytes))

-- the lengths of these columns are those of the layout
unfoldable pub rooms_fit : List ℕ → Table → Bool
rooms_fit bytes t =
    eqb (length t.kind) (kinds_in bytes)
    && eqb (length t.key) (keys_in bytes)
    && eqb (length t.next) (nexts_in bytes)
    && eqb (length t.back) (backs_in bytes)

-- a table is read into columns of its lengths, and others stay
unfoldable pub table_into : List ℕ → Table → Table
table_into bytes t = cond (rooms_fit bytes t) (table_in bytes) t

-- ---- the state; P and T have four bytes each, of which one and two may differ from 0

abbrev pub tallies_in : List ℕ → Tallies
tallies_in bytes = record { moves = four_at bytes 31; won = four_at bytes 35; lost = four_at bytes 39 }

unfoldable pub state_in : List ℕ → State
state_in bytes = record {
  parties = each (record_at bytes) 20 16 43;
  count = byte_at bytes 23;
  taken = two_at bytes 27;
  tallies = tallies_in bytes;
}

abbrev pub machine_in : List ℕ → Machine
machine_in bytes = machine (table_in bytes) (state_in bytes)

-- ---- what fits

abbrev pub few : ℕ → Bool
few count = leb count 4200

unfoldable pub fits : List ℕ → Bool
fits bytes =
    leb (what_in bytes) 3
    && (few (places_in bytes) && few (kinds_in bytes) && few (keys_in bytes) && few (nexts_in bytes)
    && few (backs_in bytes))
    && eqb (length bytes) (end_of bytes)
    && (ltb (four_at bytes 23) 256 && ltb (four_at bytes 27) 65536)
    && every (λ i. record_fits bytes (43 + 20 * i)) 16

-- ---- a state written back, from the lengths of the columns on

unfoldable pub state_bytes : State → List ℕ
state_bytes st =
    low 4 st.count ++ low 4 st.taken
    ++ low 4 st.tallies.moves ++ low 4 st.tallies.won ++ low 4 st.tallies.lost
    ++ records_bytes st.parties

unfoldable pub machine_bytes : Machine → List ℕ
machine_bytes m =
    let t = m.table in
    low 2 (length t.kind) ++ low 2 (length t.key) ++ low 2 (length t.next) ++ low 2 (length t.back)
    ++ state_bytes m.state
    ++ lows 1 t.kind ++ lows 4 t.key ++ lows 2 t.next ++ lows 2 t.back

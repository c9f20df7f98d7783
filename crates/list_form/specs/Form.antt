-- Good form as one test that computes: a definition for each thing that it asks (document 01, "Rows and parties").
use Rattle.std.specs.Prelude.{List, Bool, true, false, not, cond, ◌&&◌, ◌||◌, ℕ, ◌+◌, length, eqb, ltb, leb}
use Rattle.std.specs.List.{list_all, enumerate_from}
use Rattle.logic.specs.Every.{every}
use Rattle.columns.specs.Column.{at}
use Rattle.list_rows.specs.Table.{Table}
use Rattle.calls.specs.declared.Tallies.{Tallies}
use Rattle.calls.specs.Calls.{is_add, is_remove, is_contains}
use Rattle.list_party.specs.declared.Place.{Place}
use Rattle.list_party.specs.declared.Place.TheVariants.{Idle, Walk, Skip, AddSwap, Mark, Reread, Clean, Back, Look}
use Rattle.list_party.specs.declared.Party.{Party}
use Rattle.list_party.specs.declared.State.{State}
use Rattle.list_party.specs.Party.{is_idle, asked_at}
use Rattle.list_party.specs.State.{party_at}
use Rattle.list_unchecked.specs.Unchecked.{Machine}
use Rattle.list_form.specs.declared.Kept.{Kept}

-- ---- the rows

-- how long the columns are: N
abbrev pub rows_in : Table → ℕ
rows_in t = length t.kind

-- all four columns, given by their lengths, are as long as the kinds
abbrev pub columns_agree : (kind key next back : ℕ) → Bool
columns_agree kind key next back = eqb key kind && eqb next kind && eqb back kind

-- 4 ≤ T ≤ N
abbrev pub taken_fits : (taken rows : ℕ) → Bool
taken_fits taken rows = leb 4 taken && leb taken rows

-- rows 0 to 3 have kind 1, rows 4 to T − 1 kind 2 or 3, rows from T on 0
abbrev pub kind_fits : (taken row kind : ℕ) → Bool
kind_fits taken row kind =
    cond (ltb row 4) (eqb kind 1)
    (cond (ltb row taken) (eqb kind 2 || eqb kind 3)
    (eqb kind 0))

-- rows from T on have key 0; a taken row may have any
abbrev pub key_fits : (taken row key : ℕ) → Bool
key_fits taken row key = ltb row taken || eqb key 0

-- every next and back is below T, and 0 in rows from T on
abbrev pub link_fits : (taken row to : ℕ) → Bool
link_fits taken row to = cond (ltb row taken) (ltb to taken) (eqb to 0)

-- of each entry, with its place, from the first on
abbrev pub all_pass : {A : Type 0} → (fits : ℕ → A → Bool) → List A → Bool
all_pass fits column = list_all (λ entry. fits entry.0 entry.1) (enumerate_from 0 column)

unfoldable pub kinds_fit : List ℕ → (taken : ℕ) → Bool
kinds_fit kind taken = every (λ row. kind_fits taken row (at kind row)) (length kind)

unfoldable pub keys_fit : List ℕ → (taken : ℕ) → Bool
keys_fit key taken = every (λ row. key_fits taken row (at key row)) (length key)

unfoldable pub links_fit : List ℕ → (taken : ℕ) → Bool
links_fit links taken = every (λ row. link_fits taken row (at links row)) (length links)

-- the rows' part of good form, with T rows taken
unfoldable pub good_rows : Table → (taken : ℕ) → Bool
good_rows t taken =
    columns_agree (length t.kind) (length t.key) (length t.next) (length t.back)
    && taken_fits taken (rows_in t)
    && kinds_fit t.kind taken
    && keys_fit t.key taken
    && links_fit t.next taken
    && links_fit t.back taken

-- ---- a party record

-- every row number in it is below T
abbrev pub rows_below : (taken : ℕ) → Party → Bool
rows_below taken q =
    ltb q.p taken && ltb q.n taken && ltb q.c taken
    && ltb q.s taken && ltb q.r taken && ltb q.own taken

-- which of p, n, c, s and r a place keeps (own has rules of its own)
abbrev pub kept_at : Place → Kept
kept_at Idle = record { p = false; n = false; c = false; s = false; r = false }
kept_at (Walk call key) = record { p = true; n = true; c = true; s = false; r = false }
kept_at (Skip call key) = record { p = true; n = true; c = true; s = false; r = false }
kept_at (AddSwap call key) = record { p = true; n = true; c = false; s = false; r = false }
kept_at (Mark call key) = record { p = true; n = true; c = true; s = true; r = false }
kept_at (Reread call key) = record { p = true; n = true; c = true; s = false; r = false }
kept_at (Clean call key) = record { p = true; n = true; c = false; s = false; r = true }
kept_at (Back call key) = record { p = true; n = false; c = false; s = false; r = false }
kept_at (Look call key) = record { p = false; n = false; c = true; s = false; r = false }

abbrev pub removing : Place → Bool
removing place = is_remove (asked_at place).call

-- a REMOVE is marked exactly if its own is published
abbrev pub marked : Party → Bool
marked q = removing q.place && not q.unpublished

-- values that the place does not keep are 0; a marked REMOVE also keeps r
abbrev pub others_zero : Kept → Party → Bool
others_zero kept q =
    (kept.p || eqb q.p 0)
    && (kept.n || eqb q.n 0)
    && (kept.c || eqb q.c 0)
    && (kept.s || eqb q.s 0)
    && (kept.r || marked q || eqb q.r 0)

-- each place is one that the party's call can reach
abbrev pub can_reach : Place → Bool
can_reach Idle = true
can_reach (Walk call key) = is_add call || is_remove call
can_reach (Skip call key) = is_add call
can_reach (AddSwap call key) = is_add call
can_reach (Mark call key) = is_remove call
can_reach (Reread call key) = is_remove call
can_reach (Clean call key) = is_remove call
can_reach (Back call key) = is_add call || is_remove call
can_reach (Look call key) = is_contains call

-- own is 0, or an unpublished own of at least 4 (own 0 never is unpublished)
abbrev pub none_or_spare : (own : ℕ) (unpublished : Bool) → Bool
none_or_spare own unpublished = cond unpublished (leb 4 own) (eqb own 0)

-- Own is at least 4 in every place of ADD and REMOVE: published in CLEAN and in a REMOVE's BACK, unpublished in MARK,
-- REREAD and all of ADD, either in a REMOVE's WALK. An idle or looking party has none or a spare.
abbrev pub own_fits : Place → (own : ℕ) (unpublished : Bool) → Bool
own_fits Idle own unpublished = none_or_spare own unpublished
own_fits (Walk call key) own unpublished = leb 4 own && (unpublished || not (is_add call))
own_fits (Skip call key) own unpublished = leb 4 own && unpublished
own_fits (AddSwap call key) own unpublished = leb 4 own && unpublished
own_fits (Mark call key) own unpublished = leb 4 own && unpublished
own_fits (Reread call key) own unpublished = leb 4 own && unpublished
own_fits (Clean call key) own unpublished = leb 4 own && not unpublished
own_fits (Back call key) own unpublished = leb 4 own && cond (is_add call) unpublished (not unpublished)
own_fits (Look call key) own unpublished = none_or_spare own unpublished

unfoldable pub record_fits : (taken : ℕ) → Party → Bool
record_fits taken q =
    rows_below taken q
    && others_zero (kept_at q.place) q
    && can_reach q.place
    && own_fits q.place q.own q.unpublished

-- ---- the parties

-- 1 ≤ P ≤ 16
abbrev pub count_fits : (count : ℕ) → Bool
count_fits count = leb 1 count && leb count 16

-- parties beyond P are idle without a spare
abbrev pub party_fits : (taken count i : ℕ) → Party → Bool
party_fits taken count i q = record_fits taken q && (ltb i count || is_idle q.place && eqb q.own 0)

unfoldable pub parties_fit : State → Bool
parties_fit st = every (λ i. party_fits st.taken st.count i (party_at st i)) 16

-- won + lost ≤ moves ≤ 16,777,216
abbrev pub tallies_fit : Tallies → Bool
tallies_fit t = leb (t.won + t.lost) t.moves && leb t.moves 16777216

-- the parties' part of good form
unfoldable pub good_parties : State → Bool
good_parties st = count_fits st.count && parties_fit st && tallies_fit st.tallies

-- ---- the whole

unfoldable pub good_form : Machine → Bool
good_form m = good_rows m.table m.state.taken && good_parties m.state

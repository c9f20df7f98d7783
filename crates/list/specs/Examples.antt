-- Refusals, the ends of their ranges and listings in numbers, computed by the checker. (E1 to E11: crate `examples`.)
use Rattle.std.specs.Prelude.{◌≡◌, List, [], ◌∷◌, ℕ, true}
use Rattle.refusal.specs.Answer.{accepted, refused, left, passed}
use Rattle.columns.specs.Column.{zeros}
use Rattle.list_rows.specs.Table.{tab}
use Rattle.list_unchecked.specs.Unchecked.{Machine, machine}
use Rattle.list_form.specs.Form.{good_form}
use Rattle.list_party.specs.State.{resting_state, with_tallies}
use Rattle.list.specs.Engine.{set_up_of, list_of}
use Rattle.list.specs.Run.{calls, moves, run, replies, going, unset, fresh}

-- by their numbers: no such party, an idle party's move, an unknown call, a busy party's call; no row left, none needed
abbrev pub Refusals : Type 0
Refusals =
    (replies (fresh 5 1) (calls 1 0 5 ∷ moves 1 ∷ moves 0 ∷ calls 0 3 5 ∷ calls 0 0 5 ∷ calls 0 3 5 ∷ [])
    ≡ refused 4 ∷ refused 4 ∷ refused 8 ∷ refused 6 ∷ going ∷ refused 5 ∷ [])
    × (replies (fresh 4 1) (calls 0 0 5 ∷ calls 0 1 5 ∷ calls 0 2 5 ∷ []) ≡ refused 7 ∷ refused 7 ∷ going ∷ [])

-- a list at work: party 0 has an ADD under way
abbrev pub at_work : Machine
at_work = run (fresh 8 1) (calls 0 0 5 ∷ [])

-- the same after so many moves
abbrev pub spent : ℕ → Machine
spent made =
    let m = at_work in
    machine m.table (with_tallies m.state (record { moves = made; won = 0; lost = 0 }))

-- the last move is number 16,777,216
abbrev pub LastMove : Type 0
LastMove =
    (replies (spent 16777215) (moves 0 ∷ moves 0 ∷ []) ≡ going ∷ refused 9 ∷ [])
    × ((run (spent 16777215) (moves 0 ∷ moves 0 ∷ [])).state.tallies.moves ≡ 16777216)

-- the ends of both ranges, columns of different lengths, 1 before 2, and a list at work that a refused set-up leaves
abbrev pub SetUps : Type 0
SetUps =
    ((set_up_of (unset 4) 16).answer ≡ passed)
    × ((set_up_of (unset 4) 17).answer ≡ refused 2)
    × ((set_up_of (unset 4) 0).answer ≡ refused 2)
    × ((set_up_of (unset 3) 17).answer ≡ refused 1)
    × ((set_up_of (unset 4096) 1).answer ≡ passed)
    × ((set_up_of (unset 4097) 1).answer ≡ refused 1)
    × ((set_up_of (machine (tab (zeros 8) (zeros 8) (zeros 8) (zeros 9)) (resting_state 0 0)) 1).answer ≡ refused 1)
    × (set_up_of at_work 17 ≡ left at_work (refused 2))

-- a table of two items, rows 4 and 5, linked in that order
abbrev pub pair : (first second : ℕ) → Machine
pair first second =
    let kinds : List ℕ = 1 ∷ 1 ∷ 1 ∷ 1 ∷ 2 ∷ 2 ∷ [] in
    let keys : List ℕ = 0 ∷ 0 ∷ 0 ∷ 0 ∷ first ∷ second ∷ [] in
    let nexts : List ℕ = 1 ∷ 4 ∷ 3 ∷ 3 ∷ 5 ∷ 2 ∷ [] in
    machine (tab kinds keys nexts (zeros 6)) (resting_state 1 6)

-- good form says nothing of sorting, but a listing has to rise: equal neighbours are refused with 3; two places are
-- enough for two keys, one is not, and a third is not written
abbrev pub Listings : Type 0
Listings =
    (good_form (pair 5 5) ≡ true)
    × (list_of (pair 5 5) (9 ∷ 9 ∷ []) ≡ left (9 ∷ 9 ∷ []) (refused 3))
    × (list_of (pair 5 7) (9 ∷ 9 ∷ 9 ∷ []) ≡ left (5 ∷ 7 ∷ 9 ∷ []) (accepted 2))
    × (list_of (pair 5 7) (9 ∷ 9 ∷ []) ≡ left (5 ∷ 7 ∷ []) (accepted 2))
    × (list_of (pair 5 7) (9 ∷ []) ≡ left (9 ∷ []) (refused 10))

abbrev pub Examples : Type 0
Examples = Refusals × LastMove × SetUps × Listings

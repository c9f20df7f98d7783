-- The state: the party table, P (`count`), T (`taken`), the tallies (document 01, "Rows and parties").
use Rattle.std.specs.Prelude.{ℕ, set, get_or, replicate}
use Rattle.calls.specs.declared.Access.{Access}
use Rattle.calls.specs.declared.Tallies.{Tallies}
use Rattle.calls.specs.Tallies.{no_tallies, counted}
use Rattle.list_party.specs.declared.Party.{Party}
use Rattle.list_party.specs.declared.State.{State}
use Rattle.list_party.specs.Party.{blank}

-- all sixteen places idle without a spare, nothing counted yet
abbrev pub resting_state : (parties taken : ℕ) → State
resting_state parties taken =
    record { parties = replicate 16 blank; count = parties; taken = taken; tallies = no_tallies }

-- party i; past the sixteen places of the table, a blank one
abbrev pub party_at : State → ℕ → Party
party_at st i = get_or st.parties i blank

-- one element of the party table changed
abbrev pub with_party : State → ℕ → Party → State
with_party st i q =
    record { parties = set st.parties i q; count = st.count; taken = st.taken; tallies = st.tallies }

-- so many rows taken
abbrev pub with_taken : State → ℕ → State
with_taken st taken = record { parties = st.parties; count = st.count; taken = taken; tallies = st.tallies }

-- these tallies
abbrev pub with_tallies : State → Tallies → State
with_tallies st tallies = record { parties = st.parties; count = st.count; taken = st.taken; tallies = tallies }

-- an access counted
abbrev pub tallied : Access → State → State
tallied access st = with_tallies st (counted access st.tallies)

-- What each event of a history is, and the counts made from that alone: no tally of the state is looked at.
use Rattle.std.specs.Prelude.{[], ◌∷◌, cond, ℕ, eqb}
use Rattle.list_rows.specs.Table.{Table, next_at}
use Rattle.list_party.specs.declared.Place.{Place}
use Rattle.list_party.specs.declared.Place.TheVariants.{Idle, Walk, Skip, AddSwap, Mark, Reread, Clean, Back, Look}
use Rattle.list_party.specs.declared.Party.{Party}
use Rattle.list_unchecked.specs.Unchecked.{Machine, party_of}
use Rattle.list.specs.Engine.{live_keys}
use Rattle.list.specs.Run.{Event, calls, moves, event_of}
use Rattle.logic.specs.Keys.{extra}
use Rattle.list_grown.specs.History.{History}
use Rattle.list_grown.specs.Counts.{Counts, no_counts, with_keys, plus}

-- ---- what an event is

-- a call, a read, a won swap with the key that an add swap or a mark swap is for, a lost swap
pub data Deed : Type 0 where
  called : Deed
  read : Deed
  add_won : ℕ → Deed
  mark_won : ℕ → Deed
  clean_won : Deed
  lost : Deed

-- at a place that swaps, the swap is won if the row still leads where the party expects (document 01, "The moves")
abbrev pub deed_at : Place → Table → Party → Deed
deed_at Idle t q = read
deed_at (Walk call k) t q = read
deed_at (Skip call k) t q = read
deed_at (AddSwap call k) t q = cond (eqb (next_at t q.p) q.n) (add_won k) lost
deed_at (Mark call k) t q = cond (eqb (next_at t q.c) q.s) (mark_won k) lost
deed_at (Reread call k) t q = read
deed_at (Clean call k) t q = cond (eqb (next_at t q.p) q.n) clean_won lost
deed_at (Back call k) t q = read
deed_at (Look call k) t q = read

abbrev pub deed_of : Machine → Event → Deed
deed_of m (calls party code key) = called
deed_of m (moves party) = deed_at (party_of m party).place m.table (party_of m party)

-- ---- what it adds to the counts

abbrev pub deed_counts : Deed → Counts
deed_counts called = record { calls = 1; moves = 0; won = 0; lost = 0; adds = 0; marks = 0; ins = 0; outs = 0 }
deed_counts read = record { calls = 0; moves = 1; won = 0; lost = 0; adds = 0; marks = 0; ins = 0; outs = 0 }
deed_counts (add_won key) = record { calls = 0; moves = 1; won = 1; lost = 0; adds = 1; marks = 0; ins = 0; outs = 0 }
deed_counts (mark_won key) = record { calls = 0; moves = 1; won = 1; lost = 0; adds = 0; marks = 1; ins = 0; outs = 0 }
deed_counts clean_won = record { calls = 0; moves = 1; won = 1; lost = 0; adds = 0; marks = 0; ins = 0; outs = 0 }
deed_counts lost = record { calls = 0; moves = 1; won = 0; lost = 1; adds = 0; marks = 0; ins = 0; outs = 0 }

-- a key is brought in if it is live after the event and was not before, and taken out if it was and is not any more
abbrev pub event_counts : Machine → Event → Counts
event_counts m event =
    let before = live_keys m in
    let after = live_keys (event_of m event).memory in
    with_keys (extra after before) (extra before after) (deed_counts (deed_of m event))

unfoldable pub counts_of : Machine → History → Counts
counts_of m [] = no_counts
counts_of m (first ∷ rest) = plus (event_counts m first) (counts_of (event_of m first).memory rest)

-- Histories in numbers: the theorems are about something, and their bounds are reached.
use Rattle.std.specs.Prelude.{◌≡◌, ℕ, ◌+◌, ◌-◌, ◌*◌, List, [], ◌∷◌, true, false}
use Rattle.calls.specs.Words.{no}
use Rattle.list_rows.specs.Table.{next_at}
use Rattle.list.specs.Engine.{live_keys, chain_rises}
use Rattle.list.specs.Run.{calls, moves, unset}
use Rattle.logic.specs.Keys.{has}
use Rattle.list_grown.specs.History.{History, start, Grows, grown}
use Rattle.list_grown.specs.Counts.{Counts}
use Rattle.list_grown.specs.Deeds.{counts_of}
use Rattle.list_grown.specs.Answers.{Pending, at_call, at_answer, Answered}

-- the run of document 01
abbrev pub collision : History
collision =
    calls 0 0 5 ∷ calls 1 0 7 ∷ moves 0 ∷ moves 0 ∷ moves 1 ∷ moves 1 ∷ moves 0 ∷ moves 1 ∷ moves 1 ∷ moves 1
    ∷ moves 1 ∷ moves 1 ∷ []

-- 2 calls, 10 moves, 2 swaps won, 1 lost; both won swaps are add swaps; 2 keys in, none out
pub record RunOf01 : Type 0 where
  pub grows : Grows (unset 16) 2 collision
  pub counts : counts_of (start (unset 16) 2) collision
      ≡ record { calls = 2; moves = 10; won = 2; lost = 1; adds = 2; marks = 0; ins = 2; outs = 0 }

-- three parties stand at the same swap: one wins, two lose
abbrev pub race : History
race =
    calls 0 0 5 ∷ calls 1 0 6 ∷ calls 2 0 7 ∷ moves 0 ∷ moves 0 ∷ moves 1 ∷ moves 1 ∷ moves 2 ∷ moves 2
    ∷ moves 0 ∷ moves 1 ∷ moves 2 ∷ []

-- lost = (P − 1) × won
pub record MostLost : Type 0 where
  pub grows : Grows (unset 16) 3 race
  pub counts : counts_of (start (unset 16) 3) race
      ≡ record { calls = 3; moves = 9; won = 1; lost = 2; adds = 1; marks = 0; ins = 1; outs = 0 }
  pub reached : let c = counts_of (start (unset 16) 3) race in c.lost ≡ (3 - 1) * c.won

-- a key comes by one swap and goes by two
abbrev pub come_and_go : History
come_and_go = calls 0 0 5 ∷ moves 0 ∷ moves 0 ∷ moves 0 ∷ calls 0 1 5 ∷ moves 0 ∷ moves 0 ∷ moves 0 ∷ moves 0 ∷ []

-- won = keys in + 2 × keys out
pub record MostWon : Type 0 where
  pub grows : Grows (unset 8) 1 come_and_go
  pub counts : counts_of (start (unset 8) 1) come_and_go
      ≡ record { calls = 2; moves = 7; won = 3; lost = 0; adds = 1; marks = 1; ins = 1; outs = 1 }
  pub reached : let c = counts_of (start (unset 8) 1) come_and_go in c.won ≡ c.ins + 2 * c.outs

-- two parties come to take out the same key, and one is too late: it was live at the call and is not any more
abbrev pub late : Pending
late =
    record {
      came = unset 12;
      parties = 2;
      before = calls 0 0 5 ∷ moves 0 ∷ moves 0 ∷ moves 0 ∷ calls 0 1 5 ∷ [];
      party = 1;
      code = 1;
      key = 5;
      since = moves 0 ∷ moves 0 ∷ moves 1 ∷ moves 1 ∷ moves 0 ∷ moves 1 ∷ [];
    }

pub record TooLate : Type 0 where
  pub answered : Answered late no
  pub live_at_call : has 5 (live_keys (at_call late)) ≡ true
  pub gone_at_answer : has 5 (live_keys (at_answer late)) ≡ false

-- ---- runs in which an engine with one wrong move goes wrong

-- a run by two parties: it is accepted, and leaves these keys and counts, and a chain that rises
pub record Leaves (history : History) (keys : List ℕ) (counts : Counts) : Type 0 where
  pub grows : Grows (unset 16) 2 history
  pub keys_then : live_keys (grown (unset 16) 2 history) ≡ keys
  pub chain_then : chain_rises (grown (unset 16) 2 history) ≡ true
  pub counts_then : counts_of (start (unset 16) 2) history ≡ counts

-- an ADD of a key that is being taken out leads its row on to what stands behind the removed row, not to that row
abbrev pub over_removed : History
over_removed =
    calls 0 0 5 ∷ moves 0 ∷ moves 0 ∷ moves 0 ∷ calls 0 1 5 ∷ moves 0 ∷ moves 0 ∷ moves 0 ∷ calls 1 0 5
    ∷ moves 1 ∷ moves 1 ∷ moves 1 ∷ moves 1 ∷ []

-- an ADD that passes a removed row keeps p where it was, and wins its first swap
abbrev pub past_removed : History
past_removed =
    calls 0 0 1 ∷ moves 0 ∷ moves 0 ∷ moves 0 ∷ calls 0 1 1 ∷ moves 0 ∷ moves 0 ∷ moves 0 ∷ calls 1 0 2
    ∷ moves 1 ∷ moves 1 ∷ moves 1 ∷ moves 1 ∷ []

-- a party whose p has been removed goes back to what the splice leads back to
abbrev pub back_through_splice : History
back_through_splice =
    calls 1 0 1 ∷ calls 0 0 0 ∷ moves 0 ∷ moves 0 ∷ moves 0 ∷ calls 0 1 0 ∷ moves 1 ∷ moves 0 ∷ moves 1
    ∷ moves 0 ∷ moves 0
    ∷ moves 1 ∷ moves 1 ∷ moves 1 ∷ moves 1 ∷ moves 1 ∷ moves 1 ∷ moves 1 ∷ []

-- a REMOVE that has read a new next leads its splice there, so that the key behind is not lost
abbrev pub read_again : History
read_again =
    calls 0 0 2 ∷ moves 0 ∷ moves 0 ∷ moves 0 ∷ calls 1 0 3 ∷ moves 1 ∷ moves 1 ∷ calls 0 1 2 ∷ moves 1
    ∷ moves 0 ∷ moves 0 ∷ moves 1
    ∷ moves 0 ∷ moves 0 ∷ moves 0 ∷ []

-- a REMOVE that finds its row again cleans up before it says yes
abbrev pub found_again : History
found_again =
    calls 1 0 1 ∷ moves 1 ∷ moves 1 ∷ moves 1 ∷ calls 1 0 0 ∷ calls 0 1 1 ∷ moves 0 ∷ moves 1 ∷ moves 0
    ∷ moves 1 ∷ moves 1
    ∷ moves 0 ∷ moves 0 ∷ moves 0 ∷ moves 0 ∷ moves 0 ∷ moves 0 ∷ []

pub record Traps : Type 0 where
  pub over_removed_leaves : Leaves over_removed (5 ∷ [])
      (record { calls = 3; moves = 10; won = 3; lost = 0; adds = 2; marks = 1; ins = 2; outs = 1 })
  pub past_removed_leaves : Leaves past_removed (2 ∷ [])
      (record { calls = 3; moves = 10; won = 3; lost = 0; adds = 2; marks = 1; ins = 2; outs = 1 })
  pub back_through : Leaves back_through_splice (1 ∷ [])
      (record { calls = 3; moves = 15; won = 3; lost = 1; adds = 2; marks = 1; ins = 2; outs = 1 })
  pub read_again_leaves : Leaves read_again (3 ∷ [])
      (record { calls = 3; moves = 12; won = 3; lost = 1; adds = 2; marks = 1; ins = 2; outs = 1 })
  pub found_again_leaves : Leaves found_again (0 ∷ [])
      (record { calls = 3; moves = 14; won = 4; lost = 1; adds = 2; marks = 1; ins = 2; outs = 1 })
  -- and then row 1 leads to the one key that is left, and that to row 2
  pub cleaned_up : let t = (grown (unset 16) 2 found_again).table in next_at t (next_at t 1) ≡ 2

pub record Instances : Type 0 where
  pub run_of_01 : RunOf01
  pub most_lost : MostLost
  pub most_won : MostWon
  pub too_late : TooLate
  pub traps : Traps

-- What each answer means: the call that it answers, the states since that call, and what the answer says of them.
use Rattle.std.specs.Prelude.{◌≡◌, [], ◌∷◌, ◌++◌, Bool, true, false, not, ◌&&◌, ℕ, eqb}
use Rattle.refusal.specs.Answer.{accepted}
use Rattle.calls.specs.Words.{Word, yes, no}
use Rattle.list_unchecked.specs.Unchecked.{Machine}
use Rattle.list.specs.Engine.{live_keys}
use Rattle.list.specs.Run.{Event, calls, moves, event_of, run}
use Rattle.logic.specs.Keys.{has}
use Rattle.list_grown.specs.History.{History, Grows, grown}
use Rattle.list_grown.specs.Deeds.{add_won, mark_won, deed_of}

-- the party makes no call in these events
unfoldable pub calls_not : ℕ → History → Bool
calls_not party [] = true
calls_not party (calls other code key ∷ rest) = not (eqb other party) && calls_not party rest
calls_not party (moves other ∷ rest) = calls_not party rest

-- a call in a history: what came to set-up and for how many parties, events, the call, and events since, in which the
-- party does not call again (`waits` of `Answered` asks that)
pub record Pending : Type 0 where
  pub came : Machine
  pub parties : ℕ
  pub before : History
  pub party : ℕ
  pub code : ℕ
  pub key : ℕ
  pub since : History

abbrev pub call : Pending → Event
call a = calls a.party a.code a.key

-- the state right after the call
abbrev pub at_call : Pending → Machine
at_call a = grown a.came a.parties (a.before ++ call a ∷ [])

-- the state that the next move of the party finds
abbrev pub at_answer : Pending → Machine
at_answer a = grown a.came a.parties (a.before ++ call a ∷ a.since)

-- that move is answered
pub record Answered (a : Pending) (word : Word) : Type 0 where
  pub grows : Grows a.came a.parties (a.before ++ call a ∷ a.since)
  pub waits : calls_not a.party a.since ≡ true
  pub answer : (event_of (at_answer a) (moves a.party)).answer ≡ accepted word

-- the key is live where the answer is given
abbrev pub Present : Pending → Type 0
Present a = has a.key (live_keys (at_answer a)) ≡ true

-- in some state from the call to the answer the key was not live
pub record Excused (a : Pending) : Type 0 where
  pub early : History
  pub late : History
  pub split : early ++ late ≡ a.since
  pub absent : has a.key (live_keys (run (at_call a) early)) ≡ false

-- a mark swap of the party since the call took the key out
pub record TakenOut (a : Pending) : Type 0 where
  pub early : History
  pub late : History
  pub split : early ++ moves a.party ∷ late ≡ a.since
  pub mark : deed_of (run (at_call a) early) (moves a.party) ≡ mark_won a.key

-- by the call's code: 0 ADD, 1 REMOVE, 2 CONTAINS
pub record Answers : Type 0 where
  -- the answering move brings the key in
  pub add_yes : (a : Pending) → a.code ≡ 0 → Answered a yes → deed_of (at_answer a) (moves a.party) ≡ add_won a.key
  pub add_no : (a : Pending) → a.code ≡ 0 → Answered a no → Present a
  pub remove_yes : (a : Pending) → a.code ≡ 1 → Answered a yes → TakenOut a
  pub remove_no : (a : Pending) → a.code ≡ 1 → Answered a no → Excused a
  pub contains_yes : (a : Pending) → a.code ≡ 2 → Answered a yes → Present a
  pub contains_no : (a : Pending) → a.code ≡ 2 → Answered a no → Excused a

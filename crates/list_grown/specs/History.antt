-- Histories: the events after a set-up, and which of them the engine accepts.
use Rattle.std.specs.Prelude.{◌≡◌, List, [], ◌∷◌, Bool, true, false, cond, ◌&&◌, ℕ, ltb}
use Rattle.refusal.specs.Answer.{Answer, accepted, refused, passed}
use Rattle.calls.specs.Words.{Word}
use Rattle.list_unchecked.specs.Unchecked.{Machine}
use Rattle.list.specs.Engine.{set_up_of}
use Rattle.list.specs.Run.{Event, calls, moves, event_of, run}

-- the first event comes first
abbrev pub History : Type 0
History = List Event

-- the key of a call is a number of 32 bits, as everywhere in the code
abbrev pub key_is_32 : Event → Bool
key_is_32 (calls party code key) = ltb key 4294967296
key_is_32 (moves party) = true

abbrev pub is_accepted : Answer Word → Bool
is_accepted (accepted word) = true
is_accepted (refused number) = false

-- the key fits, and the engine does not refuse the event
abbrev pub accepts : Machine → Event → Bool
accepts m event = key_is_32 event && is_accepted (event_of m event).answer

-- it accepts every event of a history
unfoldable pub accepts_all : Machine → History → Bool
accepts_all m [] = true
accepts_all m (first ∷ rest) = accepts m first && accepts_all (event_of m first).memory rest

abbrev pub AllAccepted : Machine → History → Type 0
AllAccepted m history = accepts_all m history ≡ true

-- the events of a history that are accepted; a refused one is passed over
unfoldable pub heeded : Machine → History → History
heeded m [] = []
heeded m (first ∷ rest) = cond (accepts m first) (first ∷ heeded (event_of m first).memory rest) (heeded m rest)

unfoldable pub keys_are_32 : History → Bool
keys_are_32 [] = true
keys_are_32 (first ∷ rest) = key_is_32 first && keys_are_32 rest

-- ---- lists grown from set-up

-- what set-up leaves, whatever came
abbrev pub start : (came : Machine) → (parties : ℕ) → Machine
start came parties = (set_up_of came parties).memory

-- set-up and every event of the history are accepted
pub record Grows (came : Machine) (parties : ℕ) (history : History) : Type 0 where
  pub set : (set_up_of came parties).answer ≡ passed
  pub accepted : AllAccepted (start came parties) history

-- the list then
abbrev pub grown : (came : Machine) → (parties : ℕ) → History → Machine
grown came parties history = run (start came parties) history

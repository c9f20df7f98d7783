-- What an example of document 01 says, and what its input gives by the functions that the contracts cite.
use Prim.{Unit}
use Rattle.std.specs.Prelude.{◌≡◌, List, [], ◌∷◌, ◌++◌, ℕ, length, take, replicate}
use Rattle.columns.specs.Column.{zeros}
use Rattle.refusal.specs.Answer.{Answer, accepted, Left, left}
use Rattle.list_party.specs.declared.Place.{Place}
use Rattle.list_party.specs.declared.Party.{Party}
use Rattle.calls.specs.declared.Tallies.{Tallies}
use Rattle.calls.specs.Words.{Word}
use Rattle.list_unchecked.specs.Unchecked.{Machine}
use Rattle.list.specs.Engine.{list_of}
use Rattle.list.specs.Run.{Event, calls, moves, run, replies, going, fresh}
use Rattle.field.specs.Field.{load_of}
use Rattle.list_replay.specs.Output.{output_of}

-- ---- what an example says

-- how things stand: where each party is in its work, what a listing leaves and answers, T, and the tallies
pub record Standing : Type 0 where
  pub places : List Place
  pub listing : Left (List ℕ) ℕ
  pub taken : ℕ
  pub tallies : Tallies

-- one stage of a run: its events, the answer to each, and how things stand behind the last of them
pub record Stage : Type 0 where
  pub events : List Event
  pub answers : List (Answer Word)
  pub after : Standing

pub data Example : Type 0 where
  -- the bytes of a field, and what a load answers in either order
  field : (stored : List ℕ) (low_first high_first : Answer ℕ) → Example
  -- a fresh list of so many rows for so many parties, and the stages that it goes through
  list : (rows parties : ℕ) → List Stage → Example
  -- a text for the schedule program, and its whole output
  schedule : (text output : List ℕ) → Example

-- ---- what its input gives

abbrev pub places_of : List Party → List Place
places_of [] = []
places_of (first ∷ rest) = first.place ∷ places_of rest

-- how things stand on a list, with so many places for a listing
abbrev pub standing_of : Machine → (room : ℕ) → Standing
standing_of m room = record {
  places = places_of (take m.state.count m.state.parties);
  listing = list_of m (zeros room);
  taken = m.state.taken;
  tallies = m.state.tallies;
}

-- the events of a stage on a list; a listing gets as many places as the stage has keys
abbrev pub stage_of : Machine → Stage → Stage
stage_of m stage = record {
  events = stage.events;
  answers = replies m stage.events;
  after = standing_of (run m stage.events) (length stage.after.listing.memory);
}

-- each stage starts where the one before has ended
abbrev pub stages_of : Machine → List Stage → List Stage
stages_of m [] = []
stages_of m (stage ∷ later) = stage_of m stage ∷ stages_of (run m stage.events) later

abbrev pub given : Example → Example
given (field stored low_first high_first) = field stored (load_of stored 0 1) (load_of stored 0 0)
given (list rows parties stages) = list rows parties (stages_of (fresh rows parties) stages)
given (schedule text output) = schedule text (output_of text)

-- the example says what its input gives
abbrev pub Holds : Example → Type 0
Holds example = given example ≡ example

abbrev pub AllHold : List Example → Type 0
AllHold [] = Unit {0}
AllHold (first ∷ rest) = Holds first × AllHold rest

-- ---- short names for the table

-- a listing that is accepted, and leaves these keys
abbrev pub listed : List ℕ → Left (List ℕ) ℕ
listed keys = left keys (accepted (length keys))

-- a call, and so many moves of its party with nobody else's in between
abbrev pub alone : (party code key number : ℕ) → List Event
alone party code key number = calls party code key ∷ replicate number (moves party)

-- so many moves, and no swap among them
abbrev pub only_moves : (number : ℕ) → Tallies
only_moves number = record { moves = number; won = 0; lost = 0 }

-- nothing is said so many times
abbrev pub silent : (number : ℕ) → List (Answer Word)
silent number = replicate number going

-- the answers to a call and its moves: nothing is said, by the call or by a move, until the move of this number says it
abbrev pub by_move : (number : ℕ) → Word → List (Answer Word)
by_move number word = silent number ++ (accepted word ∷ [])

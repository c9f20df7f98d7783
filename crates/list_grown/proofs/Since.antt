-- What holds in every state since a call: its party serves it, or has marked; and it follows its key as long as that is live.
-- Assumes nothing.
use Prim.Native.Nat.{ℕ, ◌+◌}
use mathlib.Core.Path.{◌≡◌, refl, sym, ap}
use mathlib.Core.Logic.{◌⊎◌, inl, inr, ⊎_elim, ◌≢◌}
use mathlib.Core.List.{[], ◌∷◌, ◌++◌}
use mathlib.Core.Bool.{true, false, not}
use lib.Dec.{eqb}
use borrow.Author.Tests.{eqb-false, not-true}
use Rattle.logic.proofs.Tests.{and_left, and_right}
use Rattle.calls.specs.declared.Call.{Call}
use Rattle.list_party.specs.declared.Party.{Party}
use Rattle.calls.specs.declared.Said.TheVariants.{Nothing}
use Rattle.list_moves.specs.Moves.{move_at}
use Rattle.list_unchecked.specs.Unchecked.{Machine, party_of, unchecked_move}
use Rattle.calls.specs.Calls.{is_remove}
use Rattle.list_party.specs.Party.{is_idle}
use Rattle.list.specs.Engine.{live_keys}
use Rattle.list.specs.Run.{Event, calls, moves, event_of, run}
use Rattle.list_world.proofs.Live.{LiveRank}
use Rattle.logic.specs.Keys.{has}
use Rattle.logic.proofs.Cases.{by_row, by_test}
use Rattle.list_grown.specs.History.{History, accepts, accepts_all, AllAccepted}
use Rattle.list_grown.specs.Deeds.{mark_won, deed_of}
use Rattle.list_grown.specs.Answers.{calls_not}
use Rattle.list_grown.proofs.Machine.{world_of}
use Rattle.list_grown.proofs.Does.{Does, does}
use Rattle.list_grown.proofs.Listing.{keys_live}
use Rattle.list_grown.proofs.Replies.{said_by}
use Rattle.list_grown.proofs.Track.{Tracks, track_goes}
use Rattle.list_grown.proofs.Advance.{party_after}
use Rattle.list_grown.proofs.Events.{whose, happens, move_is, move_tests_lem, move_asked}
use Rattle.list_grown.proofs.Grown.{Healthy, inside, advance_of, healthy_event}
use Rattle.list_grown.proofs.SetUp.{none}
use Rattle.list_grown.proofs.Serves.{Serves, Goes, does_goes, marks_or_serves, does_silent}

-- ---- from state to state

-- P holds of some event of a history in the state that it finds
pub record Sometime (P : Machine → Event → Type 0) (m : Machine) (history : History) : Type 0 where
  pub early : History
  pub event : Event
  pub late : History
  pub split : early ++ event ∷ late ≡ history
  pub holds : P (run m early) event

module _ {P : Machine → Event → Type 0} {m : Machine} {first : Event} {rest : History} where
  at_once : P m first → Sometime P m (first ∷ rest)
  unfolding run
  at_once p = record { early = []; event = first; late = rest; split = refl; holds = p }

  later : Sometime P (event_of m first).memory rest → Sometime P m (first ∷ rest)
  unfolding run
  later s = record { early = first ∷ s.early; event = s.event; late = s.late; split = ap (λ l. first ∷ l) s.split; holds = s.holds }

-- an event of a history in which party i does not call: a move of i, or a event of another party
data NoCall (i : ℕ) : Event → Type 0 where
  own : NoCall i (moves i)
  other : {event : Event} → i ≢ whose event → NoCall i event

no_call : (i : ℕ) (first : Event) (rest : History) → calls_not i (first ∷ rest) ≡ true → NoCall i first × (calls_not i rest ≡ true)
unfolding calls_not
no_call i (calls j code key) rest quiet =
    let apart : eqb j i ≡ false = not-true (eqb j i) (and_left (not (eqb j i)) (calls_not i rest) quiet) in
    (other (λ e. eqb-false j i apart (sym e)), and_right (not (eqb j i)) (calls_not i rest) quiet)
no_call i (moves j) rest quiet = (by_row j i (λ e. rw e own) (λ n. other (λ e. n (sym e))), quiet)

module _ (parties i : ℕ) (P : Machine → Event → Type 0) (Q : Machine → Type 0)
    (keeps : (m : Machine) (event : Event) → Healthy none parties m → accepts m event ≡ true → NoCall i event → Q m →
    P m event ⊎ Q (event_of m event).memory) where
  -- Q lasts until an event of which P holds
  until : (history : History) (m : Machine) → Healthy none parties m → AllAccepted m history → calls_not i history ≡ true → Q m →
      Sometime P m history ⊎ Q (run m history)
  unfolding run accepts_all
  until [] m s ok quiet q = inr q
  until (first ∷ rest) m s ok quiet q =
      let this : accepts m first ≡ true = and_left (accepts m first) (accepts_all (event_of m first).memory rest) ok in
      let by = no_call i first rest quiet in
      let m' = (event_of m first).memory in
      ⊎_elim (λ p. inl (at_once p))
      (λ q'. ⊎_elim (λ l. inl (later l)) (λ e. inr e)
      (until rest m' (healthy_event none parties m first s this) (and_right (accepts m first) (accepts_all m' rest) ok) by.1 q'))
      (keeps m first s this by.0 q)

-- ---- a move of the party

module _ (parties i : ℕ) (m : Machine) (s : Healthy none parties m) (e : accepts m (moves i) ≡ true) where
  abbrev q : Party
  q = party_of m i

  abbrev q' : Party
  q' = party_of (event_of m (moves i)).memory i

  busy : is_idle q.place ≡ false
  busy = (move_asked m i (move_tests_lem m i e)).1

  moved_is : q' ≡ (move_at q.place m.table q).party
  unfolding unchecked_move
  moved_is = rw (move_is m i (move_tests_lem m i e)) (party_after m i (inside none parties m (moves i) s e) (move_at q.place m.table q))

  it : Does m.table q q.place (move_at q.place m.table q) (deed_of m (moves i))
  it = does m.table q (world_of none m) q.place busy (s.inv.holds i)

  own_goes : {k : ℕ} {call : Call} → Serves q k call q.place → Goes k call (deed_of m (moves i)) (said_by m i) q'
  own_goes r = rw moved_is (does_goes it r)

  own_silent : (k : ℕ) → Tracks (world_of none m) q (3 + k) → is_idle q'.place ≡ false → said_by m i ≡ Nothing
  own_silent k r still = does_silent k it r.seeks (rw moved_is at still)

-- ---- what lasts until the answer

module _ (i k : ℕ) where
  -- until it answers, the party is at a place of the call
  abbrev pub Serving : Call → Machine → Type 0
  Serving call m = is_idle (party_of m i).place ≡ false → Serves (party_of m i) k call (party_of m i).place

  -- a REMOVE's mark swap
  abbrev pub Marks : Call → Machine → Event → Type 0
  Marks call m event = (is_remove call ≡ true) × (event ≡ moves i) × (deed_of m (moves i) ≡ mark_won k)

  -- until it answers, the party has the key's row before it if the key is live
  abbrev pub Following : Machine → Type 0
  Following m = is_idle (party_of m i).place ≡ false → LiveRank (world_of none m) (3 + k) → Tracks (world_of none m) (party_of m i) (3 + k)

  abbrev pub Absent : Machine → Event → Type 0
  Absent m event = has k (live_keys m) ≡ false

  -- ---- the states since the call

  module _ (parties : ℕ) where
    serving_event : (call : Call) (m : Machine) (event : Event) → Healthy none parties m → accepts m event ≡ true → NoCall i event → Serving call m →
        Marks call m event ⊎ Serving call (event_of m event).memory
    serving_event call m event s e own r =
        ⊎_elim (λ d. inl (d.0, refl, d.1)) (λ r. inr r) (marks_or_serves (own_goes parties i m s e (r (busy parties i m s e))))
    serving_event call m event s e (other n) r = inr (rw ((advance_of none parties m event s e).others i n) r)

    pub serving_since : (call : Call) (history : History) (m : Machine) → Healthy none parties m → AllAccepted m history → calls_not i history ≡ true →
        Serving call m →
        Sometime (Marks call) m history ⊎ Serving call (run m history)
    serving_since call = until parties i (Marks call) (Serving call) (serving_event call)

    -- a REMOVE that marks leaves the key absent, so that nothing is to be shown of it
    live_event : (m : Machine) (event : Event) → Healthy none parties m → accepts m event ≡ true → NoCall i event → LiveRank (world_of none m) (3 + k) →
        Following m →
        Following (event_of m event).memory
    live_event m event s e own live f still l =
        let t = f (busy parties i m s e) live in
        track_goes none m s.inv i (inside none parties m event s e) (happens m event e).advance (advance_of none parties m event s e) i
        (λ is. own_silent parties i m s e k t still) t l
    live_event m event s e (other n) live f still l =
        let advance = advance_of none parties m event s e in
        track_goes none m s.inv (whose event) (inside none parties m event s e) (happens m event e).advance advance i (λ is. absurd (n is))
        (f (rw (advance.others i n) at still) live) l

    following_event : (m : Machine) (event : Event) → Healthy none parties m → accepts m event ≡ true → NoCall i event → Following m →
        Absent m event ⊎ Following (event_of m event).memory
    following_event m event s e by f = by_test (λ b. Absent m event ⊎ Following (event_of m event).memory) (has k (live_keys m))
        (λ is. inr (live_event m event s e by (keys_live none m s.inv k is) f)) (λ is. inl is)

    pub following_since : (history : History) (m : Machine) → Healthy none parties m → AllAccepted m history → calls_not i history ≡ true → Following m →
        Sometime Absent m history ⊎ Following (run m history)
    following_since = until parties i Absent Following following_event

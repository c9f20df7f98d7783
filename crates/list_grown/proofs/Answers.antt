-- What each answer means, from what holds since its call and what is known where it is given.
-- Assumes nothing.
use Prim.Native.Nat.{ℕ, ◌+◌, ◌<◌}
use mathlib.Core.Path.{◌≡◌, refl, sym, ap, subst, ◌∙◌}
use mathlib.Core.Logic.{◌⊎◌, inl, inr, ⊎_elim}
use mathlib.Core.List.{[], ◌∷◌, ◌++◌, append-nil}
use mathlib.Core.Bool.{true, false, true≢false}
use lib.ListN.{length}
use lib.Seq.{get_or-set_same}
use Rattle.refusal.specs.Answer.{accepted, passed}
use Rattle.logic.proofs.Tests.{and_left, and_right, and_both}
use Rattle.calls.specs.declared.Call.{Call}
use Rattle.calls.specs.declared.Call.TheVariants.{Add, Remove, Contains}
use Rattle.list_party.specs.declared.Party.{Party}
use Rattle.list_party.specs.Party.{blank, is_idle}
use Rattle.list_unchecked.specs.Unchecked.{starting}
use Rattle.list_grown.proofs.Places.{looking}
use Rattle.calls.specs.declared.Said.{Said}
use Rattle.calls.specs.declared.Said.TheVariants.{Yes, No}
use Rattle.calls.specs.Words.{word_of}
use Rattle.calls.proofs.Told.{words_differ}
use Rattle.list_unchecked.specs.Unchecked.{Machine, party_of, own_row, taken_then, begun_of, unchecked_call, unchecked_move}
use Rattle.calls.specs.Calls.{is_remove, call_named}
use Rattle.list.specs.Engine.{live_keys, call_of, move_tests}
use Rattle.list.specs.Run.{calls, quiet, event_of, run}
use Rattle.list_world.proofs.Live.{LiveRank}
use Rattle.logic.specs.Keys.{has}
use Rattle.list_grown.specs.History.{History, key_is_32, is_accepted, accepts, accepts_all, AllAccepted, start, grown}
use Rattle.list_grown.specs.Answers.{Pending, call, at_call, at_answer, Answered, Present, Excused, TakenOut, Answers}
use Rattle.list_grown.proofs.Machine.{world_of}
use Rattle.logic.proofs.Cases.{by_test}
use Rattle.list_grown.proofs.Listing.{keys_live, live_keys_lem}
use Rattle.list_grown.proofs.Replies.{Told, said_by, move_reply}
use Rattle.list_grown.proofs.Track.{Starts, removes, asks_for, no_missed, track_starts}
use Rattle.list_grown.proofs.Events.{move_is, move_tests_lem, move_asked, call_is, call_tests_lem}
use Rattle.list_grown.proofs.Grown.{Healthy, inside, healthy_event, healthy_along}
use Rattle.list_grown.proofs.SetUp.{none, set_up}
use Rattle.list_grown.proofs.Serves.{Serves, walk, look, add_told, found_told, look_told, cut_told}
use Rattle.list_grown.proofs.Since.{Sometime, Serving, Marks, Following, Absent, serving_since, following_since}

-- ---- two histories, one after the other

run_both : (early late : History) (m : Machine) → run m (early ++ late) ≡ run (run m early) late
unfolding run
run_both [] late m = refl
run_both (first ∷ early) late m = run_both early late (event_of m first).memory

accepted_both : (early late : History) (m : Machine) → AllAccepted m (early ++ late) → AllAccepted m early × AllAccepted (run m early) late
unfolding run accepts_all
accepted_both [] late m ok = (refl, ok)
accepted_both (first ∷ early) late m ok =
    let m' = (event_of m first).memory in
    let rest = accepted_both early late m' (and_right (accepts m first) (accepts_all m' (early ++ late)) ok) in
    (and_both (and_left (accepts m first) (accepts_all m' (early ++ late)) ok) rest.0, rest.1)

-- ---- the call

module _ (m : Machine) (i k : ℕ) where
  call_serves : (name : Call) → i < length m.state.parties → Serving i k name (unchecked_call m i name k)
  unfolding unchecked_call begun_of
  call_serves Add h busy = rw (get_or-set_same m.state.parties i (starting Add k (own_row m.state (party_of m i))) blank h) (walk refl)
  call_serves Remove h busy = rw (get_or-set_same m.state.parties i (starting Remove k (own_row m.state (party_of m i))) blank h) (walk refl)
  call_serves Contains h busy = rw (get_or-set_same m.state.parties i (looking (party_of m i) Contains k 1) blank h) look

  -- a REMOVE or a CONTAINS
  call_starts : (code : ℕ) → (code ≡ 1) ⊎ (code ≡ 2) → Starts m i k (unchecked_call m i (call_named code) k)
  unfolding unchecked_call begun_of
  call_starts code (inl e) = rw e (removes (own_row m.state (party_of m i)) (taken_then m.state (party_of m i)))
  call_starts code (inr e) = rw e asks_for

  call_leaves : (code : ℕ) → accepts m (calls i code k) ≡ true → (event_of m (calls i code k)).memory ≡ unchecked_call m i (call_named code) k
  call_leaves code e =
      let ok : is_accepted (quiet (call_of m i code k).answer) ≡ true =
      and_right (key_is_32 (calls i code k)) (is_accepted (quiet (call_of m i code k).answer)) e in
      ap (λ l. l.memory) (call_is m i code k (call_tests_lem m i code k ok))

-- ---- what the states since the call make of the answer

taken_out : (a : Pending) → Sometime (Marks a.party a.key Remove) (at_call a) a.since → TakenOut a
taken_out a p = record { early = p.early; late = p.late; split = rw p.holds.1 at p.split; mark = p.holds.2 }

was_absent : (a : Pending) → Sometime (Absent a.party a.key) (at_call a) a.since → Excused a
was_absent a p = record { early = p.early; late = p.event ∷ p.late; split = p.split; absent = p.holds }

-- ---- from the call to the answer

module _ (a : Pending) (said : Said) (w : Answered a (word_of said)) where
  abbrev i : ℕ
  i = a.party

  abbrev k : ℕ
  k = a.key

  -- what the call finds, and what it leaves
  abbrev m : Machine
  m = grown a.came a.parties a.before

  abbrev m' : Machine
  m' = (event_of m (call a)).memory

  all : AllAccepted (start a.came a.parties) a.before × AllAccepted m (call a ∷ a.since)
  all = accepted_both a.before (call a ∷ a.since) (start a.came a.parties) w.grows.accepted

  this : accepts m (call a) ≡ true
  unfolding accepts_all
  this = and_left (accepts m (call a)) (accepts_all m' a.since) all.1

  rest : AllAccepted m' a.since
  unfolding accepts_all
  rest = and_right (accepts m (call a)) (accepts_all m' a.since) all.1

  called_is : at_call a ≡ m'
  unfolding run
  called_is = run_both a.before (call a ∷ []) (start a.came a.parties)

  found_is : at_answer a ≡ run m' a.since
  unfolding run
  found_is = run_both a.before (call a ∷ a.since) (start a.came a.parties)

  healthy : Healthy none a.parties m
  healthy = healthy_along none a.parties a.before (start a.came a.parties) (set_up a.came a.parties w.grows.set).healthy all.0

  healthy' : Healthy none a.parties m'
  healthy' = healthy_event none a.parties m (call a) healthy this

  known : i < length m.state.parties
  known = inside none a.parties m (call a) healthy this

  leaves : m' ≡ unchecked_call m i (call_named a.code) k
  leaves = call_leaves m i k a.code this

  -- ---- where the answer is given

  abbrev q : Party
  q = party_of (at_answer a) i

  sound : Healthy none a.parties (at_answer a)
  sound = rw found_is (healthy_along none a.parties a.since m' healthy' rest)

  passes : move_tests (at_answer a) i ≡ passed
  passes = move_tests_lem (at_answer a) i (rw w.answer)

  busy : is_idle q.place ≡ false
  busy = (move_asked (at_answer a) i passes).1

  said_is : said_by (at_answer a) i ≡ said
  unfolding unchecked_move
  said_is =
      let e : accepted (word_of (said_by (at_answer a) i)) ≡ accepted (word_of said) =
      sym (ap (λ l. l.answer) (move_is (at_answer a) i passes)) ∙ w.answer in
      let same : word_of (said_by (at_answer a) i) ≡ word_of said = cc in
      words_differ (said_by (at_answer a) i) said same

  told : Told (world_of none (at_answer a)) q q.place said
  told = subst (Told (world_of none (at_answer a)) q q.place) said_is (move_reply none (at_answer a) sound.inv i busy)

  -- ---- the states between

  -- where the answer is given a REMOVE may have marked; any other call is still served
  marks_or_serves : (name : Call) → call_named a.code ≡ name → Sometime (Marks i k name) (at_call a) a.since ⊎ Serves q k name q.place
  marks_or_serves name is = ⊎_elim (λ p. inl (rw called_is p)) (λ r. inr ((rw (← found_is) at r) busy))
      (serving_since i k a.parties name a.since m' healthy' rest w.waits (rw (leaves, is) (call_serves m i k name known)))

  serves : (name : Call) → call_named a.code ≡ name → is_remove name ≡ false → Serves q k name q.place
  serves name is other = ⊎_elim (λ p. absurd (true≢false (sym p.holds.0 ∙ other))) (λ r. r) (marks_or_serves name is)

  starts : (a.code ≡ 1) ⊎ (a.code ≡ 2) → Starts m i k m'
  starts e = rw leaves (call_starts m i k a.code e)

  absent_or_follows : (a.code ≡ 1) ⊎ (a.code ≡ 2) → Sometime (Absent i k) (at_call a) a.since ⊎ Following i k (at_answer a)
  absent_or_follows e = ⊎_elim (λ p. inl (rw called_is p)) (λ r. inr (rw found_is r))
      (following_since i k a.parties a.since m' healthy' rest w.waits
      (λ busy l. track_starts none m healthy.inv i known (starts e) healthy'.inv l))

  -- ---- what the answer says

  live_present : LiveRank (world_of none (at_answer a)) (3 + k) → Present a
  live_present live = live_keys_lem none (at_answer a) sound.inv k live

  -- a party that follows a live key does not say no
  is_absent : Following i k (at_answer a) → said ≡ No → has k (live_keys (at_answer a)) ≡ false
  is_absent follows e = by_test (λ b. b ≡ false) (has k (live_keys (at_answer a)))
      (λ is. absurd (no_missed none (at_answer a) sound.inv i (follows busy (keys_live none (at_answer a) sound.inv k is)) (said_is ∙ e))) (λ is. refl)

  excused : (a.code ≡ 1) ⊎ (a.code ≡ 2) → said ≡ No → Excused a
  excused code e = ⊎_elim (was_absent a)
      (λ follows. record { early = a.since; late = []; split = append-nil a.since; absent = rw (called_is, ← found_is) (is_absent follows e) })
      (absent_or_follows code)

pub answers : Answers
answers = record {
  add_yes = λ a e w. add_told none (at_answer a) (told a Yes w) (serves a Yes w Add (ap call_named e) refl);
  add_no = λ a e w. live_present a No w (found_told none (at_answer a) (told a No w) (serves a No w Add (ap call_named e) refl));
  remove_yes = λ a e w. ⊎_elim (taken_out a) (λ r. absurd (cut_told none (at_answer a) (told a Yes w) r)) (marks_or_serves a Yes w Remove (ap call_named e));
  remove_no = λ a e w. excused a No w (inl e) refl;
  contains_yes = λ a e w. live_present a Yes w (look_told none (at_answer a) (told a Yes w) (serves a Yes w Contains (ap call_named e) refl));
  contains_no = λ a e w. excused a No w (inr e) refl;
}

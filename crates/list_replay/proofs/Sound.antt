-- Every list that a schedule has grown: on it an event without tests of the form is the checked one, and a listing lists the live keys.
-- Assumes nothing.
use mathlib.Core.Path.{◌≡◌, refl, ap, sym, ◌∙◌}
use mathlib.Core.Bool.{Bool, true, false}
use mathlib.Core.List.{List, [], ◌∷◌, ◌++◌}
use Prim.Native.Nat.{ℕ, zero, suc, ◌≤◌}
use native.Mathlib.Omega.{arith}
use lib.ListN.{length}
use lib.Dec.{eqb}
use borrow.Author.Tests.{le-ltb}
use Rattle.refusal.specs.Answer.{accepted, left, passed, refusing, leaving}
use Rattle.logic.proofs.Tests.{and_left, and_right, and_both}
use Rattle.list_rows.specs.Table.{Table}
use Rattle.list_unchecked.specs.Unchecked.{Machine}
use Rattle.list_form.specs.Form.{good_form}
use Rattle.list_form.proofs.Good.{good}
use Rattle.list_chain.specs.Chain.{with_key, is_live, behind, live_from}
use Rattle.list.specs.Engine.{bad_table, set_up_of, live_keys, places_with, list_of}
use Rattle.list.specs.Run.{Event, event_of, run}
use Rattle.list.proofs.Laws.{table_fits}
use Rattle.list_grown.specs.History.{History, key_is_32, keys_are_32, heeded, start, Grows, grown}
use Rattle.list_grown.proofs.Heeded.{all_heeded}
use Rattle.list_grown.proofs.Demands.{good_form_kept, lists_live_keys}
use Rattle.logic.proofs.Cases.{on_cond}
use Rattle.list_play.specs.Play.{plain_event}
use Rattle.list_play.proofs.Checked.{plain_is_checked}

-- a list grown from a set-up by events whose keys have 32 bits; some of them may have been refused
pub record Sound (m : Machine) : Type 0 where
  pub came : Machine
  pub parties : ℕ
  pub history : History
  pub set : (set_up_of came parties).answer ≡ passed
  pub fit : keys_are_32 history ≡ true
  pub path : m ≡ run (start came parties) history

-- ---- one event more

run_more : (m : Machine) (history : History) (event : Event) → run m (history ++ (event ∷ [])) ≡ (event_of (run m history) event).memory
unfolding run
run_more m [] event = refl
run_more m (first ∷ rest) event = run_more (event_of m first).memory rest event

fit_more : (history : History) (event : Event) → keys_are_32 history ≡ true → key_is_32 event ≡ true → keys_are_32 (history ++ (event ∷ [])) ≡ true
unfolding keys_are_32
fit_more [] event h e = rw e
fit_more (first ∷ rest) event h e =
    and_both (and_left (key_is_32 first) (keys_are_32 rest) h) (fit_more rest event (and_right (key_is_32 first) (keys_are_32 rest) h) e)

pub sound_event : (m : Machine) (event : Event) → Sound m → key_is_32 event ≡ true → Sound (event_of m event).memory
sound_event m event s e =
    record {
      came = s.came;
      parties = s.parties;
      history = s.history ++ (event ∷ []);
      set = s.set;
      fit = fit_more s.history event s.fit e;
      path = ap (λ (x : Machine). (event_of x event).memory) s.path ∙ sym (run_more (start s.came s.parties) s.history event);
    }

-- ---- what is known of grown lists

module _ (m : Machine) (s : Sound m) where
  -- the events that were accepted
  abbrev heard : History
  heard = heeded (start s.came s.parties) s.history

  grows : Grows s.came s.parties heard
  grows = record { set = s.set; accepted = (all_heeded (start s.came s.parties) s.history s.fit).1 }

  is_grown : m ≡ grown s.came s.parties heard
  is_grown = s.path ∙ (all_heeded (start s.came s.parties) s.history s.fit).0

  pub sound_form : good_form m ≡ true
  sound_form = rw is_grown (good_form_kept s.came s.parties heard grows).0

  pub sound_fits : bad_table m.table ≡ false
  sound_fits = rw is_grown (good_form_kept s.came s.parties heard grows).1

  pub plain_same : (event : Event) → plain_event m event ≡ event_of m event
  plain_same event = plain_is_checked m event sound_fits sound_form

-- ---- the listing

with_key_short : (live : Bool) (key : ℕ) (keys : List ℕ) (n : ℕ) → length keys ≤ n → length (with_key live key keys) ≤ suc n
with_key_short true key keys n h = omega arith
with_key_short false key keys n h = omega arith

live_short : (t : Table) (fuel row : ℕ) → length (live_from t fuel row) ≤ fuel
unfolding live_from
live_short t zero row = omega arith
live_short t (suc fuel) row =
    on_cond (λ (keys : List ℕ). length keys ≤ suc fuel) (eqb row 2) [] _ (λ e. omega arith)
    (λ e. with_key_short (is_live t row) _ _ fuel (live_short t fuel (behind t row)))

module _ (m : Machine) (s : Sound m) where
  -- T rows at most are on the chain, and they are in the columns
  pub few_keys : length (live_keys m) ≤ 4096
  few_keys =
      let short = live_short m.table m.state.taken 1 in
      let room = (good m (sound_form m s)).rows.room in
      let most = (table_fits m.table (sound_fits m s)).4 in
      omega (arith, short, room, most)

  pub sound_listing : (places : List ℕ) → 4096 ≤ length places → list_of m places ≡ left (places_with (live_keys m) places) (accepted
      (length (live_keys m)))
  sound_listing places enough =
      let g = is_grown m s in
      let few : length (live_keys m) ≤ length places = omega (arith, few_keys) in
      let told = rw (← g) at ((lists_live_keys s.came s.parties (heard m s) (grows m s)).0 places) in
      told ∙ ap (λ (b : Bool). leaving (refusing b 10 passed) places (left (places_with (live_keys m) places) (accepted (length
      (live_keys m))))) (le-ltb (length places) (length (live_keys m)) few)

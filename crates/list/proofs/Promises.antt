-- On good form an accepted call or move is the unchecked one; what a refusal leaves is what came; an answer tells its case.
-- Assumes nothing.
use mathlib.Core.Path.{◌≡◌, refl, ap}
use mathlib.Core.Bool.{true, false}
use Prim.Native.Nat.{ℕ}
use lib.ListN.{length}
use Rattle.refusal.specs.Answer.{accepted, refused, left, Tests, passed, leaving}
use Rattle.refusal.proofs.Laws.{not_both}
use Rattle.list_unchecked.specs.Unchecked.{Machine, machine, unchecked_call, unchecked_move}
use Rattle.list_form.specs.Form.{rows_in, good_form}
use Rattle.refusal.proofs.Told.{answers_differ}
use Rattle.calls.specs.Words.{word_of}
use Rattle.list_fresh.specs.Fresh.{fresh_table}
use Rattle.list_party.specs.State.{resting_state}
use Rattle.list.specs.Engine.{
  bad_table,
  form_tests,
  set_up_tests,
  set_up_of,
  call_asks,
  call_tests,
  call_of,
  move_asks,
  move_tests,
  accepting,
  move_of,
  live_keys,
  list_tests,
  places_with,
  list_of,
}
use Rattle.calls.specs.Calls.{call_named}
use Rattle.list.specs.Claims.{
  CallOnGoodForm,
  MoveOnGoodForm,
  RefusedSetUpLeaves,
  RefusedCallLeaves,
  RefusedMoveLeaves,
  RefusedListingLeaves,
  ListedDiffer,
}

-- ---- on good form

-- on good form 1 and 3 do not apply
form_passes : (m : Machine) (asked : Tests) → bad_table m.table ≡ false → good_form m ≡ true → form_tests m asked ≡ asked
form_passes m asked fits good = rw (fits, good)

pub call_on_good_form : CallOnGoodForm
unfolding call_of
call_on_good_form m party code key fits good =
    ap (λ (tests : Tests). leaving tests m (left (unchecked_call m party (call_named code) key) passed))
    (form_passes m (call_asks m.state (rows_in m.table) party code) fits good)

pub move_on_good_form : MoveOnGoodForm
unfolding move_of
move_on_good_form m party fits good =
    ap (λ (tests : Tests). leaving tests m (accepting (unchecked_move m party))) (form_passes m (move_asks m.state party) fits good)

-- ---- refusals

-- what changes is accepted, so a refusal comes from the tests, and they leave what was found
refusal_leaves : {M A : Type 0} (tests : Tests) (found changed : M) (value : A) (number : ℕ) →
    (leaving tests found (left changed (accepted value))).answer ≡ refused number → (leaving tests found (left changed (accepted value))).memory ≡ found
refusal_leaves (accepted done) found changed value number e = absurd (not_both e)
refusal_leaves (refused stop) found changed value number e = refl

pub refused_set_up_leaves : RefusedSetUpLeaves
unfolding set_up_of
refused_set_up_leaves m parties =
    refusal_leaves (set_up_tests m.table parties) m (machine (fresh_table (rows_in m.table)) (resting_state parties 4)) _

pub refused_call_leaves : RefusedCallLeaves
unfolding call_of
refused_call_leaves m party code key = refusal_leaves (call_tests m party code) m (unchecked_call m party (call_named code) key) _

pub refused_move_leaves : RefusedMoveLeaves
unfolding move_of
refused_move_leaves m party = refusal_leaves (move_tests m party) m (unchecked_move m party).after (word_of (unchecked_move m party).said)

pub refused_listing_leaves : RefusedListingLeaves
unfolding list_of
refused_listing_leaves m places = refusal_leaves (list_tests m (length places)) places (places_with (live_keys m) places) (length (live_keys m))

-- ---- answers

pub listed_differ : ListedDiffer
listed_differ = answers_differ _ _ (λ count. count) (λ x y same. same)

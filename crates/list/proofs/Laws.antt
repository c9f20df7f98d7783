-- What the tests of the entry points tell, and what is then answered and left.
-- Assumes nothing.
use mathlib.Core.Path.{◌≡◌, ◌∙◌}
use mathlib.Core.Bool.{Bool, true, false, not, ◌&&◌}
use mathlib.Core.List.{List}
use Prim.Native.Nat.{ℕ, ◌≤◌}
use native.Mathlib.Nat.{zero-add}
use lib.ListN.{length}
use lib.Seq.{sets, sets-eq}
use lib.Dec.{eqb, ltb, leb}
use borrow.Author.Tests.{ltb-false, leb-true, eqb-true, not-false}
use Rattle.refusal.specs.Answer.{accepted, refused, left, Tests, passed, refusing}
use Rattle.refusal.proofs.Laws.{past_test, leaves_changed, leaves_found}
use Rattle.list_rows.specs.Table.{Table}
use Rattle.list_unchecked.specs.Unchecked.{Machine, unchecked_call}
use Rattle.logic.proofs.Tests.{and_parts}
use Rattle.list_form.specs.Form.{rows_in, good_form}
use Rattle.list.specs.Engine.{
  bad_table,
  form_tests,
  bad_parties,
  set_up_tests,
  call_asks,
  call_tests,
  call_of,
  chain_rises,
  live_keys,
  list_asks,
  list_tests,
  places_with,
  list_of,
}
use Rattle.calls.specs.Calls.{call_named}

-- where the tests of a machine pass, the table does, the form does, and what is asked beside them
pub past_form : (m : Machine) (asked : Tests) → form_tests m asked ≡ passed → (bad_table m.table ≡ false) × (good_form m ≡ true) × (asked ≡ passed)
past_form m asked passes =
    let first = past_test (bad_table m.table) 1 (refusing (not (good_form m)) 3 asked) passes in
    let second = past_test (not (good_form m)) 3 asked first.1 in
    (first.0, not-false (good_form m) second.0, second.1)

-- a table that passes has columns of one length, from 4 to 4,096
pub table_fits : (t : Table) → bad_table t ≡ false →
    (length t.key ≡ rows_in t) × (length t.next ≡ rows_in t) × (length t.back ≡ rows_in t) × (4 ≤ rows_in t) × (rows_in t ≤ 4096)
table_fits t fits =
    let N : ℕ = length t.kind in
    let key : Bool = eqb (length t.key) N in
    let next : Bool = eqb (length t.next) N in
    let back : Bool = eqb (length t.back) N in
    let all = and_parts (key && next && back) (leb 4 N && leb N 4096) (not-false (key && next && back && (leb 4 N && leb N 4096)) fits) in
    let agree = and_parts (key && next) back all.0 in
    let first = and_parts key next agree.0 in
    let inside = and_parts (leb 4 N) (leb N 4096) all.1 in (
      eqb-true (length t.key) N first.0,
      eqb-true (length t.next) N first.1,
      eqb-true (length t.back) N agree.1,
      leb-true 4 N inside.0,
      leb-true N 4096 inside.1,
    )

-- ---- set-up

module _ (t : Table) (parties : ℕ) where
  pub past_set_up : set_up_tests t parties ≡ passed → (bad_table t ≡ false) × (bad_parties parties ≡ false)
  past_set_up passes =
      let first = past_test (bad_table t) 1 (refusing (bad_parties parties) 2 passed) passes in
      (first.0, (past_test (bad_parties parties) 2 passed first.1).0)

-- where 1 and 3 pass, what is asked beside them decides
pub form_on : (m : Machine) (asked : Tests) → form_tests m passed ≡ passed → form_tests m asked ≡ asked
form_on m asked passes = let past = past_form m passed passes in rw (past.0, past.1)

pub call_refuses : (m : Machine) (party code key : ℕ) {number : ℕ} → form_tests m passed ≡ passed →
    call_asks m.state (rows_in m.table) party code ≡ refused number → left m (refused number) ≡ call_of m party code key
unfolding call_of
call_refuses m party code key forms asks =
    leaves_found (call_tests m party code) m (left (unchecked_call m party (call_named code) key) passed) (form_on m _ forms ∙ asks)

pub list_accepts : (m : Machine) (places : List ℕ) {after : List ℕ} → form_tests m passed ≡ passed → list_asks m (length places) ≡ passed →
    after ≡ sets places 0 (live_keys m) → left after (accepted (length (live_keys m))) ≡ list_of m places
unfolding list_of
list_accepts m places forms asks writes =
    let past_rise = (past_test (not (chain_rises m)) 3 (refusing (ltb (length places) (length (live_keys m))) 10 passed) asks).1 in
    let room : length (live_keys m) ≤ length places =
    ltb-false (length places) (length (live_keys m)) (past_test (ltb (length places) (length (live_keys m))) 10 passed past_rise).0 in
    let listed : sets places 0 (live_keys m) ≡ places_with (live_keys m) places =
    rw zero-add at (sets-eq (live_keys m) places 0 (rw zero-add room)) in
    rw (writes, listed) (leaves_changed (list_tests m (length places)) places
    (left (places_with (live_keys m) places) (accepted (length (live_keys m)))) (form_on m _ forms ∙ asks))

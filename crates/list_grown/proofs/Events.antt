-- An accepted event is a event of its party, made in a state that passed the engine's tests.
-- Assumes nothing.
use Prim.Native.Nat.{ℕ, ◌≤◌, ◌<◌}
use mathlib.Core.Path.{◌≡◌, refl, ap, ◌∙◌}
use mathlib.Core.Bool.{Bool, true, false, not, cond, ◌&&◌, false≢true}
use native.Mathlib.Omega.{arith}
use lib.Dec.{eqb, ltb, leb}
use lib.ListN.{length-set}
use borrow.Author.Tests.{leb-false, ltb-true, eqb-false, not-false, lt-ltb}
use Rattle.refusal.specs.Answer.{accepted, refused, Left, left, Tests, passed, refusing, leaving}
use Rattle.refusal.proofs.Laws.{past_test}
use Rattle.logic.proofs.Tests.{and_left, and_right}
use Rattle.list_rows.specs.declared.Write.{Write}
use Rattle.list_rows.specs.declared.Write.TheVariants.{Untouched, Link, Splice, Item}
use Rattle.list_rows.specs.Table.{Table}
use Rattle.list_rows.specs.Writes.{written}
use Rattle.calls.specs.declared.Call.{Call}
use Rattle.calls.specs.declared.Call.TheVariants.{Add, Remove, Contains}
use Rattle.list_party.specs.declared.Place.{Place}
use Rattle.list_party.specs.declared.Place.TheVariants.{Idle, Walk, Skip, AddSwap, Mark, Reread, Clean, Back, Look}
use Rattle.calls.specs.Tallies.{one_more}
use Rattle.calls.specs.Words.{Word, word_of}
use Rattle.list_moves.specs.Moves.{move_at}
use Rattle.list_unchecked.specs.Unchecked.{Machine, party_of, start_of, begun_of, started, unchecked_call, unchecked_move}
use Rattle.list_form.specs.Form.{rows_in, good_form}
use Rattle.calls.specs.Calls.{is_contains, call_named}
use Rattle.list_party.specs.Party.{is_idle}
use Rattle.list_form.proofs.Good.{Good, good}
use Rattle.list.specs.Engine.{bad_table, no_row, call_asks, call_tests, call_of, move_asks, move_tests, accepting, move_of}
use Rattle.list.specs.Run.{Event, calls, moves, quiet, event_of}
use Rattle.list.proofs.Laws.{past_form, table_fits}
use Rattle.list.proofs.Kept.{call_keeps, move_keeps}
use Rattle.list_grown.specs.History.{is_accepted, accepts}
use Rattle.list_grown.specs.Deeds.{called, deed_of}
use Rattle.logic.proofs.Cases.{by_test}
use Rattle.list_grown.proofs.Advance.{begun, Advances, moves as move_event, spares, takes, asks}

abbrev pub whose : Event → ℕ
whose (calls party code key) = party
whose (moves party) = party

-- what is known of an accepted event
pub record Happens (m : Machine) (event : Event) : Type 0 where
  pub fits : bad_table m.table ≡ false
  pub form : good_form m ≡ true
  pub known : whose event < m.state.count
  pub kept : good_form (event_of m event).memory ≡ true
  pub still_fits : bad_table (event_of m event).memory.table ≡ false
  pub advance : Advances m (whose event) (event_of m event).memory (deed_of m event)

-- ---- what is written leaves the columns as long as they were

same_fits : (write : Write) (t : Table) → bad_table (written write t) ≡ bad_table t
same_fits Untouched t = refl
same_fits (Link row to) t = rw (length-set t.next row to)
same_fits (Splice row to from) t = rw (length-set t.kind row 3, length-set t.key row 0, length-set t.next row to, length-set t.back row from)
same_fits (Item row key) t = rw (length-set t.kind row 2, length-set t.key row key, length-set t.next row 0, length-set t.back row 0)

-- ---- a move

move_passed : (tests : Tests) (m : Machine) (after : Left Machine Word) → is_accepted (leaving tests m after).answer ≡ true → tests ≡ passed
move_passed (accepted done) m after e = refl
move_passed (refused number) m after e = absurd (false≢true e)

module _ (m : Machine) (i : ℕ) where
  pub move_is : move_tests m i ≡ passed → move_of m i ≡ accepting (unchecked_move m i)
  unfolding move_of
  move_is passes = rw passes

  pub move_tests_lem : is_accepted (move_of m i).answer ≡ true → move_tests m i ≡ passed
  unfolding move_of
  move_tests_lem e = move_passed (move_tests m i) m (accepting (unchecked_move m i)) e

  unchecked_fits : bad_table m.table ≡ false → bad_table (unchecked_move m i).after.table ≡ false
  unfolding unchecked_move
  unchecked_fits fits = same_fits (move_at (party_of m i).place m.table (party_of m i)).write m.table ∙ fits

  unchecked_event : is_idle (party_of m i).place ≡ false → Advances m i (unchecked_move m i).after (deed_of m (moves i))
  unfolding unchecked_move
  unchecked_event busy = move_event busy

  -- a party that moves is known, and has a call to answer
  pub move_asked : move_tests m i ≡ passed → (i < m.state.count) × (is_idle (party_of m i).place ≡ false)
  move_asked passes =
      let idle : Bool = is_idle (party_of m i).place in
      let form = past_form m (move_asks m.state i) passes in
      let first = past_test (leb m.state.count i) 4 (refusing idle 8 (refusing (eqb m.state.tallies.moves 16777216) 9 passed)) form.2 in
      let second = past_test idle 8 (refusing (eqb m.state.tallies.moves 16777216) 9 passed) first.1 in
      (leb-false m.state.count i first.0, second.0)

  move_happens : is_accepted (move_of m i).answer ≡ true → Happens m (moves i)
  move_happens e =
      let passes : move_tests m i ≡ passed = move_tests_lem e in
      let is : move_of m i ≡ accepting (unchecked_move m i) = move_is passes in
      let form = past_form m (move_asks m.state i) passes in
      record {
        fits = form.0;
        form = form.1;
        known = (move_asked passes).0;
        kept = move_keeps m i (word_of (unchecked_move m i).said) (ap (λ l. l.answer) is);
        still_fits = rw is (unchecked_fits form.0);
        advance = rw is (unchecked_event (move_asked passes).1);
      }

-- ---- a call

call_passed : (tests : Tests) (m after : Machine) → is_accepted (quiet (leaving tests m (left after passed)).answer) ≡ true → tests ≡ passed
call_passed (accepted done) m after e = refl
call_passed (refused number) m after e = absurd (false≢true e)

-- an idle party is at no other place
pub idle_is : (place : Place) → is_idle place ≡ true → place ≡ Idle
idle_is Idle e = refl
idle_is (Walk call k) e = absurd (false≢true e)
idle_is (Skip call k) e = absurd (false≢true e)
idle_is (AddSwap call k) e = absurd (false≢true e)
idle_is (Mark call k) e = absurd (false≢true e)
idle_is (Reread call k) e = absurd (false≢true e)
idle_is (Clean call k) e = absurd (false≢true e)
idle_is (Back call k) e = absurd (false≢true e)
idle_is (Look call k) e = absurd (false≢true e)

module _ (m : Machine) (i key : ℕ) (fits : key < 4294967296) (g : Good m) (idle : (party_of m i).place ≡ Idle) (small : rows_in m.table ≤ 4096) where
  abbrev T : ℕ
  T = m.state.taken

  -- with the spare, or with the first row that is not taken
  starts : (call : Call) → is_contains call ≡ false → not (party_of m i).unpublished && eqb T (rows_in m.table) ≡ false →
      Advances m i (started m i (start_of m.state (party_of m i) call key)) called
  starts call is room = by_test
      (λ u. (party_of m i).unpublished ≡ u → not u && eqb T (rows_in m.table) ≡ false →
      Advances m i (begun m i (cond u (party_of m i).own T) (cond u T (one_more 65535 T)) call key) called)
      (party_of m i).unpublished
      (λ e hidden full. spares call key is fits idle hidden)
      (λ e shown full.
      let there : T < rows_in m.table = omega (arith, eqb-false T (rows_in m.table) full, g.rows.room) in
      rw (lt-ltb T 65535 (omega arith)) (takes call key is fits idle shown there))
      refl room

  call_event : (call : Call) → no_row (party_of m i).unpublished T (rows_in m.table) call ≡ false → Advances m i (unchecked_call m i call key) called
  unfolding unchecked_call begun_of
  call_event Add room = starts Add refl room
  call_event Remove room = starts Remove refl room
  call_event Contains room = asks key fits idle

module _ (m : Machine) (i code key : ℕ) where
  pub call_is : call_tests m i code ≡ passed → call_of m i code key ≡ left (unchecked_call m i (call_named code) key) passed
  unfolding call_of
  call_is passes = rw passes

  pub call_tests_lem : is_accepted (quiet (call_of m i code key).answer) ≡ true → call_tests m i code ≡ passed
  unfolding call_of
  call_tests_lem e = call_passed (call_tests m i code) m (unchecked_call m i (call_named code) key) e

  call_fits : (call : Call) → bad_table m.table ≡ false → bad_table (unchecked_call m i call key).table ≡ false
  unfolding unchecked_call
  call_fits call fits = same_fits (begun_of m.state (party_of m i) call key).write m.table ∙ fits

  call_happens : key < 4294967296 → is_accepted (quiet (call_of m i code key).answer) ≡ true → Happens m (calls i code key)
  call_happens fits e =
      let passes : call_tests m i code ≡ passed = call_tests_lem e in
      let is : call_of m i code key ≡ left (unchecked_call m i (call_named code) key) passed = call_is passes in
      let form = past_form m (call_asks m.state (rows_in m.table) i code) passes in
      let idle : Bool = is_idle (party_of m i).place in
      let full : Bool = no_row (party_of m i).unpublished m.state.taken (rows_in m.table) (call_named code) in
      let first = past_test (leb m.state.count i) 4 (refusing (not idle) 5 (refusing (ltb 2 code) 6 (refusing full 7 passed))) form.2 in
      let second = past_test (not idle) 5 (refusing (ltb 2 code) 6 (refusing full 7 passed)) first.1 in
      let third = past_test (ltb 2 code) 6 (refusing full 7 passed) second.1 in
      let fourth = past_test full 7 passed third.1 in
      record {
        fits = form.0;
        form = form.1;
        known = leb-false m.state.count i first.0;
        kept = call_keeps m i code key (ap (λ l. l.answer) is);
        still_fits = rw is (call_fits (call_named code) form.0);
        advance = rw is (call_event m i key fits (good m form.1) (idle_is (party_of m i).place (not-false idle second.0))
            (table_fits m.table form.0).4 (call_named code) fourth.0);
      }

pub happens : (m : Machine) (event : Event) → accepts m event ≡ true → Happens m event
happens m (calls i code key) e = call_happens m i code key
    (ltb-true key 4294967296 (and_left (ltb key 4294967296) (is_accepted (quiet (call_of m i code key).answer)) e))
    (and_right (ltb key 4294967296) (is_accepted (quiet (call_of m i code key).answer)) e)
happens m (moves i) e = move_happens m i e

-- Good form is kept: an accepted set-up gives it, and an accepted call or move leaves it.
-- Assumes nothing.
use Prim.{tt}
use mathlib.Core.Path.{◌≡◌, refl}
use mathlib.Core.Bool.{Bool, true, false, not, cond, ◌&&◌, ◌||◌, true≢false, false≢true, or-true}
use mathlib.Core.Logic.{◌≢◌, dite}
use mathlib.Core.List.{◌∷◌}
use Prim.Native.Nat.{ℕ, zero, suc, ◌+◌, ◌<◌, ◌≤◌}
use native.Mathlib.Decide.{dec_lt}
use native.Mathlib.Omega.{arith}
use lib.Dec.{eqb, ltb, leb}
use lib.ListN.{length}
use borrow.Author.Tests.{leb-true, leb-false, ltb-false, eqb-false, lt-ltb, le-ltb, le-leb, not-false}
use Rattle.refusal.specs.Answer.{accepted, Left, left, Tests, passed, refusing, leaving}
use Rattle.refusal.proofs.Laws.{past_test, change_past}
use Rattle.columns.specs.Column.{zeros}
use Rattle.logic.proofs.Tests.{and_left, and_both}
use Rattle.list_rows.specs.declared.Write.TheVariants.{Item}
use Rattle.list_rows.specs.Table.{Table, head_nxt}
use Rattle.list_rows.specs.Writes.{written}
use Rattle.calls.specs.declared.Call.{Call}
use Rattle.calls.specs.declared.Call.TheVariants.{Add, Remove, Contains}
use Rattle.list_party.specs.declared.Place.{Place}
use Rattle.list_party.specs.declared.Place.TheVariants.{Idle, Walk, Skip, AddSwap, Mark, Reread, Clean, Back, Look}
use Rattle.list_party.specs.declared.Party.{Party}
use Rattle.list_party.specs.declared.State.{State}
use Rattle.calls.specs.declared.Access.{Access}
use Rattle.calls.specs.declared.Access.TheVariants.{None, Read, Won, Lost}
use Rattle.list_party.specs.Party.{blank, goes_to, is_idle}
use Rattle.calls.specs.Tallies.{one_more, tally_plus}
use Rattle.list_party.specs.State.{party_at, with_party, with_taken, with_tallies, tallied, resting_state}
use Rattle.list_moves.specs.declared.Moved.{Moved}
use Rattle.list_moves.specs.Moves.{move_at}
use Rattle.list_unchecked.specs.Unchecked.{Machine, machine, party_of, starting, start_of, begun_of, started, unchecked_call, unchecked_move}
use Rattle.list_form.specs.Form.{kind_fits, key_fits, link_fits, none_or_spare, own_fits, record_fits, party_fits, rows_in, good_form}
use Rattle.calls.specs.Calls.{is_add, is_remove, call_named}
use Rattle.list_fresh.specs.Fresh.{fresh_table}
use Rattle.list.specs.Engine.{bad_parties, set_up_tests, set_up_of, no_row, call_asks, call_tests, call_of, move_asks, move_tests, accepting, move_of}
use Rattle.list.proofs.Laws.{past_form, table_fits, past_set_up}
use Rattle.logic.proofs.Tests.{neither}
use Rattle.logic.proofs.Lists.{repeat_at}
use Rattle.list.specs.Claims.{SetUpIsGood, UnsetIsBad, CallKeeps, MoveKeeps}
use Rattle.list_form.proofs.Good.{Each, Rows, Fits, fits, Good, good, good_form_lem}
use Rattle.list.proofs.Keeps.{row_keeps, item_fits, write_keeps, party_keeps, FitMove, move_fits}

-- ---- what the tests tell

-- what holds of a changed memory holds of what is left, where the answer is a value
kept_past : {M A : Type 0} (P : M → Type 0) (tests : Tests) (found : M) (changed : Left M A) (value : A) →
    (leaving tests found changed).answer ≡ accepted value → (tests ≡ passed → P changed.memory) → P (leaving tests found changed).memory
kept_past P tests found changed value e h =
    let passes : tests ≡ passed = change_past tests found changed value e in
    rw passes (h passes)

-- ---- set-up

-- four entries, and zeros behind them
four_and_zeros : (test : ℕ → ℕ → Bool) (a b c d rows : ℕ) → test 0 a ≡ true → test 1 b ≡ true → test 2 c ≡ true → test 3 d ≡ true →
    ((row : ℕ) → 4 ≤ row → test row 0 ≡ true) → Each test (a ∷ b ∷ c ∷ d ∷ zeros rows)
four_and_zeros test a b c d rows ha hb hc hd h zero below = ha
four_and_zeros test a b c d rows ha hb hc hd h (suc zero) below = hb
four_and_zeros test a b c d rows ha hb hc hd h (suc (suc zero)) below = hc
four_and_zeros test a b c d rows ha hb hc hd h (suc (suc (suc zero))) below = hd
four_and_zeros test a b c d rows ha hb hc hd h (suc (suc (suc (suc row)))) below = rw (repeat_at {A = ℕ} 0 rows row)
    (h (suc (suc (suc (suc row)))) (omega arith))

fresh_rows : (rows : ℕ) → 4 ≤ rows → Rows 4 (fresh_table rows)
fresh_rows zero enough = absurd (omega arith)
fresh_rows (suc zero) enough = absurd (omega arith)
fresh_rows (suc (suc zero)) enough = absurd (omega arith)
fresh_rows (suc (suc (suc zero))) enough = absurd (omega arith)
fresh_rows (suc (suc (suc (suc rows)))) enough =
    record {
      key_long = refl;
      next_long = refl;
      back_long = refl;
      ends = omega arith;
      room = omega arith;
      kinds = four_and_zeros (kind_fits 4) 1 1 1 1 rows refl refl refl refl (λ row past. rw (le-ltb row 4 past));
      keys = four_and_zeros (key_fits 4) 0 0 0 0 rows refl refl refl refl (λ row past. rw (le-ltb row 4 past));
      nexts = four_and_zeros (link_fits 4) 1 2 3 3 rows refl refl refl refl (λ row past. rw (le-ltb row 4 past));
      backs = four_and_zeros (link_fits 4) 0 0 0 0 rows refl refl refl refl (λ row past. rw (le-ltb row 4 past));
    }

blank_fits : (count i : ℕ) → party_fits 4 count i blank ≡ true
unfolding record_fits
blank_fits count i = or-true (ltb i count)

fresh_good : (rows parties : ℕ) → 4 ≤ rows → bad_parties parties ≡ false → Good (machine (fresh_table rows) (resting_state parties 4))
fresh_good rows parties enough fair =
    let apart = neither (eqb parties 0) (ltb 16 parties) fair in
    let some : parties ≢ 0 = eqb-false parties 0 apart.0 in
    record {
      rows = fresh_rows rows enough;
      some = omega arith;
      few = ltb-false 16 parties apart.1;
      parties = λ i small. rw (repeat_at blank 16 i) (blank_fits parties i);
      tallies = omega arith;
      spent = omega arith;
    }

pub set_up_is_good : SetUpIsGood
unfolding set_up_of
set_up_is_good m parties e =
    let t = m.table in
    let set : Machine = machine (fresh_table (rows_in t)) (resting_state parties 4) in
    kept_past (λ (m : Machine). good_form m ≡ true) (set_up_tests t parties) m (left set passed) tt e
    (λ (passes : set_up_tests t parties ≡ passed).
    let fair = past_set_up t parties passes in
    good_form_lem set (fresh_good (rows_in t) parties (table_fits t fair.0).3 fair.1))

pub unset_is_bad : UnsetIsBad
unset_is_bad t h = let ends : 4 ≤ 0 = (good (machine t (resting_state 0 0)) h).rows.ends in omega arith

-- ---- a party's new record, with its table

with_party_lem : (m : Machine) (i taken : ℕ) (t : Table) (q : Party) → Good m → m.state.taken ≤ taken → i < m.state.count →
    Rows taken t → Fits taken q → Good (machine t (with_taken (with_party m.state i q) taken))
with_party_lem m i taken t q g more known rows f =
    record {
      rows = rows;
      some = g.some;
      few = g.few;
      parties = party_keeps m.state.taken taken m.state.count m.state.parties i q more known f g.parties;
      tallies = g.tallies;
      spent = g.spent;
    }

-- the record of a party that there is
party_of_lem : (m : Machine) (i : ℕ) → Good m → i < m.state.count → Fits m.state.taken (party_of m i)
party_of_lem m i g known =
    fits m.state.taken (party_of m i) (and_left (record_fits m.state.taken (party_of m i)) _ (g.parties i (omega arith)))

-- ---- a move

one_more_lem : (test : Bool) (count : ℕ) → cond test (count + 1) count ≤ count + 1
one_more_lem true count = omega arith
one_more_lem false count = omega arith

-- one more move, and at most one more swap
counted_good : (t : Table) (st : State) (won lost : ℕ) → Good (machine t st) → st.tallies.moves < 16777216 →
    won + lost ≤ st.tallies.moves + 1 →
    Good (machine t (with_tallies st (record { moves = tally_plus st.tallies.moves; won = won; lost = lost })))
counted_good t st won lost g left fair =
    rw (lt-ltb st.tallies.moves 4294967295 (omega arith))
    (record { rows = g.rows; some = g.some; few = g.few; parties = g.parties; tallies = fair; spent = omega arith })

at_most_more : (count : ℕ) → tally_plus count ≤ count + 1
at_most_more count = one_more_lem (ltb count 4294967295) count

tallied_good : (access : Access) (t : Table) (st : State) → Good (machine t st) → st.tallies.moves < 16777216 →
    Good (machine t (tallied access st))
tallied_good None t st g left = g
tallied_good Read t st g left = counted_good t st st.tallies.won st.tallies.lost g left (omega arith)
tallied_good Won t st g left =
    counted_good t st (tally_plus st.tallies.won) st.tallies.lost g left (omega (arith, at_most_more st.tallies.won))
tallied_good Lost t st g left =
    counted_good t st st.tallies.won (tally_plus st.tallies.lost) g left (omega (arith, at_most_more st.tallies.lost))

moved_good : (m : Machine) (i : ℕ) → Good m → i < m.state.count → m.state.tallies.moves < 16777216 → Good (unchecked_move m i).after
unfolding unchecked_move
moved_good m i g known left =
    let T : ℕ = m.state.taken in
    let q : Party = party_of m i in
    let moved : Moved = move_at q.place m.table q in
    let f : FitMove T moved = move_fits T m.table g.rows q (party_of_lem m i g known) in
    let t : Table = written moved.write m.table in
    tallied_good moved.access t (with_party m.state i moved.party)
    (with_party_lem m i T t moved.party g (omega arith) known (write_keeps T m.table moved.write f.write g.rows) f.party) left

pub move_keeps : MoveKeeps
unfolding move_of
move_keeps m party said e =
    kept_past (λ (after : Machine). good_form after ≡ true) (move_tests m party) m (accepting (unchecked_move m party)) said e
    (λ (passes : move_tests m party ≡ passed).
    let form = past_form m (move_asks m.state party) passes in
    let g : Good m = good m form.1 in
    let idle : Bool = is_idle (party_at m.state party).place in
    let first = past_test (leb m.state.count party) 4 (refusing idle 8 (refusing (eqb m.state.tallies.moves 16777216) 9 passed)) form.2 in
    let second = past_test idle 8 (refusing (eqb m.state.tallies.moves 16777216) 9 passed) first.1 in
    let third = past_test (eqb m.state.tallies.moves 16777216) 9 passed second.1 in
    let left : m.state.tallies.moves ≢ 16777216 = eqb-false m.state.tallies.moves 16777216 third.0 in
    good_form_lem (unchecked_move m party).after (moved_good m party g (leb-false m.state.count party first.0) (omega (arith, g.spent))))

-- ---- a call

-- an idle party has no own, or a spare
idle_own : (place : Place) (own : ℕ) (unpublished : Bool) → is_idle place ≡ true → own_fits place own unpublished ≡ true → none_or_spare own unpublished ≡ true
idle_own Idle own unpublished idle h = h
idle_own (Walk call k) own unpublished idle h = absurd (false≢true idle)
idle_own (Skip call k) own unpublished idle h = absurd (false≢true idle)
idle_own (AddSwap call k) own unpublished idle h = absurd (false≢true idle)
idle_own (Mark call k) own unpublished idle h = absurd (false≢true idle)
idle_own (Reread call k) own unpublished idle h = absurd (false≢true idle)
idle_own (Clean call k) own unpublished idle h = absurd (false≢true idle)
idle_own (Back call k) own unpublished idle h = absurd (false≢true idle)
idle_own (Look call k) own unpublished idle h = absurd (false≢true idle)

start_fits : (T own key : ℕ) (call : Call) → is_add call || is_remove call ≡ true → 4 ≤ own → own < T → Fits T (starting call key own)
start_fits T own key call reach from inside =
    record { below = omega arith; others = or-true (is_remove call && false); reach = reach; keeps_own = and_both (le-leb 4 own from) refl }

-- one more row taken is no other row than T
same_below : (T other : ℕ) → other ≢ T → ltb other (T + 1) ≡ ltb other T
same_below T other apart =
    dite (dec_lt other T)
    (λ (inside : other < T). rw (lt-ltb other T inside, lt-ltb other (T + 1) (omega arith)))
    (λ (past : other < T → ⊥). rw (le-ltb other T (omega arith), le-ltb other (T + 1) (omega arith)))

module _ (m : Machine) (i key : ℕ) (g : Good m) (known : i < m.state.count) where
  abbrev T : ℕ
  T = m.state.taken

  -- with a spare, or with row T, which is there
  start_good : (call : Call) (own : ℕ) (unpublished : Bool) → is_add call || is_remove call ≡ true → length m.table.kind ≤ 4096 →
      own < T → none_or_spare own unpublished ≡ true → (unpublished ≡ false → T < length m.table.kind) →
      Good
      (machine (written (Item (cond unpublished own T) key) m.table)
      (with_taken (with_party m.state i (starting call key (cond unpublished own T))) (cond unpublished T (one_more 65535 T))))
  start_good call own true reach small inside spare room =
      let from : 4 ≤ own = leb-true 4 own spare in
      with_party_lem m i T (written (Item own key) m.table) (starting call key own) g (omega arith) known
      (write_keeps T m.table (Item own key) (omega arith) g.rows) (start_fits T own key call reach from inside)
  start_good call own false reach small inside spare room =
      let there : T < length m.table.kind = room refl in
      let from : 4 ≤ T = g.rows.ends in
      rw (lt-ltb T 65535 (omega arith))
      (with_party_lem m i (T + 1) (written (Item T key) m.table) (starting call key T) g (omega arith) known
      (row_keeps T (T + 1) m.table T 2 key 0 0 g.rows (omega arith) (omega arith) (same_below T) (omega arith)
      (item_fits (T + 1) T from (omega arith)) (omega arith) (omega arith))
      (start_fits (T + 1) T key call reach from (omega arith)))

  -- where a row is needed, refusal 7 has asked for it
  row_there : (unpublished : Bool) → not unpublished && eqb T (length m.table.kind) ≡ false → unpublished ≡ false → T < length m.table.kind
  row_there true h e = absurd (true≢false e)
  row_there false h e =
      let apart : T ≢ length m.table.kind = eqb-false T (length m.table.kind) h in
      omega (arith, g.rows.room)

  begin_good : (call : Call) → is_add call || is_remove call ≡ true → length m.table.kind ≤ 4096 → is_idle (party_of m i).place ≡ true →
      not (party_of m i).unpublished && eqb T (rows_in m.table) ≡ false → Good (started m i (start_of m.state (party_of m i) call key))
  begin_good call reach small idle room =
      let q : Party = party_of m i in
      let f : Fits T q = party_of_lem m i g known in
      start_good call q.own q.unpublished reach small f.below.own (idle_own q.place q.own q.unpublished idle f.keeps_own)
      (row_there q.unpublished room)

  call_good : (call : Call) → length m.table.kind ≤ 4096 → is_idle (party_of m i).place ≡ true →
      no_row (party_of m i).unpublished T (rows_in m.table) call ≡ false → Good (unchecked_call m i call key)
  unfolding unchecked_call begun_of
  call_good Add small idle room = begin_good Add refl small idle room
  call_good Remove small idle room = begin_good Remove refl small idle room
  call_good Contains small idle room =
      let q : Party = party_of m i in
      let f : Fits T q = party_of_lem m i g known in
      let from : 4 ≤ T = g.rows.ends in
      with_party_lem m i T m.table (goes_to q (Look Contains key) (record { p = 0; n = 0; c = head_nxt; s = 0; r = 0 })) g (omega arith) known g.rows
      (record {
        below = omega (arith, f.below.own);
        others = refl;
        reach = refl;
        keeps_own = idle_own q.place q.own q.unpublished idle f.keeps_own;
      })

pub call_keeps : CallKeeps
unfolding call_of
call_keeps m party code key e =
    kept_past (λ (after : Machine). good_form after ≡ true) (call_tests m party code) m (left (unchecked_call m party (call_named code) key) passed) tt e
    (λ (passes : call_tests m party code ≡ passed).
    let form = past_form m (call_asks m.state (rows_in m.table) party code) passes in
    let g : Good m = good m form.1 in
    let idle : Bool = is_idle (party_at m.state party).place in
    let full : Bool = no_row (party_at m.state party).unpublished m.state.taken (rows_in m.table) (call_named code) in
    let first = past_test (leb m.state.count party) 4 (refusing (not idle) 5 (refusing (ltb 2 code) 6 (refusing full 7 passed))) form.2 in
    let second = past_test (not idle) 5 (refusing (ltb 2 code) 6 (refusing full 7 passed)) first.1 in
    let third = past_test (ltb 2 code) 6 (refusing full 7 passed) second.1 in
    let fourth = past_test full 7 passed third.1 in
    good_form_lem (unchecked_call m party (call_named code) key)
    (call_good m party key g (leb-false m.state.count party first.0) (call_named code) (table_fits m.table form.0).4
    (not-false idle second.0) fourth.0))

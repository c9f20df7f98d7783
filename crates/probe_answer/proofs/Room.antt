-- How long an output can be.
-- Assumes nothing.
use mathlib.Core.Path.{◌≡◌, refl, sym, ◌∙◌}
use mathlib.Core.Bool.{Bool, true, false, not}
use mathlib.Core.List.{List}
use Prim.Native.Nat.{ℕ, zero, suc, ◌+◌, ◌*◌, ◌≤◌}
use native.Mathlib.Omega.{arith}
use lib.ListN.{length, length-append, length-drop, length-set, length-replicate}
use lib.Dec.{ltb}
use borrow.Author.Tests.{ltb-false}
use Rattle.refusal.specs.Answer.{accepted, refused, Left, left, Tests, passed, refusing, leaving}
use Rattle.refusal.proofs.Laws.{past_test}
use Rattle.list_rows.specs.declared.Write.{Write}
use Rattle.list_rows.specs.declared.Write.TheVariants.{Untouched, Link, Splice, Item}
use Rattle.list_rows.specs.Table.{Table}
use Rattle.list_rows.specs.Writes.{written}
use Rattle.list_party.specs.declared.State.{State}
use Rattle.list_party.specs.State.{resting_state}
use Rattle.list_moves.specs.Moves.{move_at}
use Rattle.list_unchecked.specs.Unchecked.{Machine, machine, party_of, begun_of, unchecked_call, unchecked_move}
use Rattle.list_form.specs.Form.{rows_in}
use Rattle.list_fresh.specs.Fresh.{fresh_table}
use Rattle.list.specs.Engine.{set_up_tests, set_up_of, call_tests, call_of, move_tests, move_of, accepting, chain_rises, live_keys, list_tests}
use Rattle.list.specs.Engine.{places_with, list_of}
use Rattle.calls.specs.Calls.{call_named}
use Rattle.list.proofs.Laws.{past_form, table_fits, past_set_up}
use Rattle.probe_layout.specs.Bytes.{low, byte_at, two_at, four_at}
use Rattle.probe_layout.specs.Records.{record_at}
use Rattle.probe_layout.specs.Layout.{
  what_in,
  party_in,
  code_in,
  key_in,
  places_in,
  kinds_in,
  keys_in,
  nexts_in,
  backs_in,
  keys_from,
  nexts_from,
  backs_from,
  table_in,
  state_in,
  machine_in,
  fits,
}
use Rattle.probe_answer.specs.Probe.{Seen, unwritten, done_shown, move_shown, list_shown, seen_by, seen_of, seen_bytes, probe_of}
use Rattle.probe_answer.specs.Claims.{OutputFits}
use Rattle.probe_layout.proofs.Fitting.{fit_of}
use Rattle.probe_answer.proofs.Laws.{probe_fits, probe_none}
use Rattle.probe_layout.proofs.Written.{long_each}
use Rattle.probe_layout.proofs.Long.{long_low, long_row, long_machine}

-- ---- lengths are kept

-- columns as long as those of another machine, and as many party records
record Alike (m m' : Machine) : Type 0 where
  kinds : length m'.table.kind ≡ length m.table.kind
  keys : length m'.table.key ≡ length m.table.key
  nexts : length m'.table.next ≡ length m.table.next
  backs : length m'.table.back ≡ length m.table.back
  parties : length m'.state.parties ≡ length m.state.parties

same : (m : Machine) → Alike m m
same m = record { kinds = refl; keys = refl; nexts = refl; backs = refl; parties = refl }

written_alike : (write : Write) (t : Table) (st st' : State) → length st'.parties ≡ length st.parties →
    Alike (machine t st) (machine (written write t) st')
written_alike Untouched t st st' parties = record { kinds = refl; keys = refl; nexts = refl; backs = refl; parties = parties }
written_alike (Link row to) t st st' parties =
    record { kinds = refl; keys = refl; nexts = length-set t.next row to; backs = refl; parties = parties }
written_alike (Splice row to from) t st st' parties = record {
  kinds = length-set t.kind row 3;
  keys = length-set t.key row 0;
  nexts = length-set t.next row to;
  backs = length-set t.back row from;
  parties = parties;
}
written_alike (Item row key) t st st' parties = record {
  kinds = length-set t.kind row 2;
  keys = length-set t.key row key;
  nexts = length-set t.next row 0;
  backs = length-set t.back row 0;
  parties = parties;
}

call_alike : (m : Machine) (party code key : ℕ) → Alike m (unchecked_call m party (call_named code) key)
unfolding unchecked_call
call_alike m party code key =
    let begun = begun_of m.state (party_of m party) (call_named code) key in
    written_alike begun.write m.table m.state _ (length-set m.state.parties party begun.party)

move_alike : (m : Machine) (party : ℕ) → Alike m (unchecked_move m party).after
unfolding unchecked_move
move_alike m party =
    let moved = move_at (party_of m party).place m.table (party_of m party) in
    written_alike moved.write m.table m.state _ (length-set m.state.parties party moved.party)

-- what tests leave is what was found or what is changed
left_alike : {A : Type 0} (m : Machine) (tests : Tests) (changed : Left Machine A) → (tests ≡ passed → Alike m changed.memory) →
    Alike m (leaving tests m changed).memory
left_alike m (accepted done) changed alike = alike refl
left_alike m (refused number) changed alike = same m

fresh_alike : (m : Machine) (parties : ℕ) → length m.state.parties ≡ 16 → set_up_tests m.table parties ≡ passed →
    Alike m (machine (fresh_table (rows_in m.table)) (resting_state parties 4))
fresh_alike m parties sixteen passes =
    let fit = table_fits m.table (past_set_up m.table parties passes).0 in
    let long = length-replicate {A = ℕ} (rows_in m.table) 0 in
    record {
      kinds = simp length-set long;
      keys = long ∙ sym fit.0;
      nexts = simp length-set (long ∙ sym fit.1);
      backs = long ∙ sym fit.2;
      parties = sym sixteen;
    }

-- ---- what is seen

record Sized (m : Machine) (places : List ℕ) (seen : Seen) : Type 0 where
  after : Alike m seen.after
  room : length seen.places ≡ length places

module _ (m : Machine) (places : List ℕ) (sixteen : length m.state.parties ≡ 16) where
  set_up_sized : (parties : ℕ) → Sized m places (done_shown places (set_up_of m parties))
  unfolding done_shown set_up_of
  set_up_sized parties = record {
    after = left_alike m (set_up_tests m.table parties) (left (machine (fresh_table (rows_in m.table)) (resting_state parties 4)) passed)
        (fresh_alike m parties sixteen);
    room = refl;
  }

  call_sized : (party code key : ℕ) → Sized m places (done_shown places (call_of m party code key))
  unfolding done_shown call_of
  call_sized party code key = record {
    after = left_alike m (call_tests m party code) (left (unchecked_call m party (call_named code) key) passed) (λ passes. call_alike m party code key);
    room = refl;
  }

  move_sized : (party : ℕ) → Sized m places (move_shown places (move_of m party))
  unfolding move_shown move_of
  move_sized party = record {
    after = left_alike m (move_tests m party) (accepting (unchecked_move m party)) (λ passes. move_alike m party);
    room = refl;
  }

  -- keys in the first places leave as many places
  places_kept : (tests : Tests) → (tests ≡ passed → length (live_keys m) ≤ length places) →
      length (leaving tests places (left (places_with (live_keys m) places) (accepted (length (live_keys m))))).memory ≡ length places
  places_kept (accepted done) enough = let few = enough refl in simp (length-append, length-drop) (omega arith)
  places_kept (refused number) enough = refl

  enough_places : list_tests m (length places) ≡ passed → length (live_keys m) ≤ length places
  enough_places passes =
      let asked = (past_form m (refusing (not (chain_rises m)) 3 (refusing (ltb (length places) (length (live_keys m))) 10 passed)) passes).2 in
      let last = (past_test (not (chain_rises m)) 3 (refusing (ltb (length places) (length (live_keys m))) 10 passed) asked).1 in
      ltb-false (length places) (length (live_keys m)) (past_test (ltb (length places) (length (live_keys m))) 10 passed last).0

  listing_sized : Sized m places (list_shown m (list_of m places))
  unfolding list_shown list_of
  listing_sized = record { after = same m; room = places_kept (list_tests m (length places)) enough_places }

  seen_sized : (what party code key : ℕ) → Sized m places (seen_by what m party code key places)
  seen_sized zero party code key = set_up_sized party
  seen_sized (suc zero) party code key = call_sized party code key
  seen_sized (suc (suc zero)) party code key = move_sized party
  seen_sized (suc (suc (suc more))) party code key = listing_sized

  seen_long : (seen : Seen) → Sized m places seen → length (seen_bytes seen) ≡ 352 + 4 * length places
      + length m.table.kind + 4 * length m.table.key + 2 * length m.table.next + 2 * length m.table.back
  unfolding seen_bytes
  seen_long seen sized =
      let after = sized.after in
      simp length-append
      (omega (
        arith,
        long_low 2 seen.listed,
        long_row (low 4) 4 (long_low 4) seen.places,
        sized.room,
        long_machine seen.after,
        after.kinds,
        after.keys,
        after.nexts,
        after.backs,
        after.parties,
      ))

fitting_long : (bytes : List ℕ) → fits bytes ≡ true → length (probe_of bytes) ≤ 54952
unfolding seen_of table_in state_in
fitting_long bytes fit =
    let f = fit_of bytes fit in
    let sixteen = long_each (record_at bytes) 20 16 43 in
    let long = seen_long (machine_in bytes) (unwritten (places_in bytes)) sixteen (seen_of bytes)
    (seen_sized (machine_in bytes) (unwritten (places_in bytes)) sixteen (what_in bytes) (party_in bytes) (code_in bytes) (key_in bytes)) in
    rw (← probe_fits bytes fit)
    (omega (
      arith,
      long,
      f.places,
      f.kinds,
      f.keys,
      f.nexts,
      f.backs,
      length-replicate {A = ℕ} (places_in bytes) 4008636142,
      long_each (byte_at bytes) 1 (kinds_in bytes) 363,
      long_each (four_at bytes) 4 (keys_in bytes) (keys_from bytes),
      long_each (two_at bytes) 2 (nexts_in bytes) (nexts_from bytes),
      long_each (two_at bytes) 2 (backs_in bytes) (backs_from bytes),
    ))

short_by : (bytes : List ℕ) (test : Bool) → fits bytes ≡ test → length (probe_of bytes) ≤ 54952
short_by bytes true fit = fitting_long bytes fit
short_by bytes false none = rw (← probe_none bytes none) (omega arith)

pub output_fits : OutputFits
output_fits bytes = short_by bytes (fits bytes) refl

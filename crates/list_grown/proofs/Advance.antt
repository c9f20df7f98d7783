-- A event of a party is an accepted call or move; what every event keeps and changes, once for all.
-- Assumes nothing.
use Prim.{tt}
use Prim.Native.Nat.{ℕ, ◌+◌, ◌*◌, ◌≤◌, ◌<◌}
use mathlib.Core.Path.{◌≡◌, refl, sym, ◌∙◌}
use mathlib.Core.Logic.{◌⊎◌, inl, inr, ◌≢◌, dite}
use mathlib.Core.List.{List}
use mathlib.Core.Bool.{Bool, true, false, true≢false}
use native.Mathlib.Decide.{dec_lt}
use native.Mathlib.Omega.{arith}
use lib.ListN.{length, get_or, set, length-set}
use lib.Seq.{set_out, get_or-set_same, get_or-set_other}
use borrow.Author.Tests.{lt-ltb}
use Rattle.columns.specs.Column.{at, put}
use Rattle.list_rows.specs.declared.Write.{Write}
use Rattle.list_rows.specs.declared.Write.TheVariants.{Untouched, Link, Splice, Item}
use Rattle.list_rows.specs.Table.{Table, key_at, next_at, with_row}
use Rattle.list_rows.specs.Writes.{written}
use Rattle.list_rows.specs.Order.{rank, rank_at}
use Rattle.calls.specs.declared.Call.{Call}
use Rattle.calls.specs.declared.Call.TheVariants.{Add, Remove, Contains}
use Rattle.list_party.specs.declared.Place.TheVariants.{Idle, Walk}
use Rattle.list_party.specs.declared.Party.{Party}
use Rattle.list_party.specs.declared.State.{State}
use Rattle.calls.specs.declared.Access.{Access}
use Rattle.calls.specs.declared.Access.TheVariants.{None, Read, Won, Lost}
use Rattle.list_party.specs.Party.{blank, is_idle}
use Rattle.list_unchecked.specs.Unchecked.{starting}
use Rattle.list_grown.proofs.Places.{looking}
use Rattle.list_party.specs.State.{with_party, with_taken, tallied}
use Rattle.list_moves.specs.declared.Moved.{Moved}
use Rattle.list_moves.specs.Moves.{move_at}
use Rattle.list_unchecked.specs.Unchecked.{Machine, machine, party_of, carried}
use Rattle.list_form.specs.Form.{rows_in}
use Rattle.calls.specs.Calls.{is_contains}
use Rattle.list_form.proofs.Good.{Rows}
use Rattle.logic.specs.Sum.{one_if}
use Rattle.list_world.proofs.World.{World}
use Rattle.list_world.proofs.Walk.{OnWay}
use Rattle.list_world.proofs.Live.{still}
use Rattle.logic.proofs.Cases.{by_row}
use Rattle.list_world.proofs.WalkLaws.{walking_ext, walk_start}
use Rattle.list_grown.specs.Deeds.{Deed, called, read, add_won, mark_won, clean_won, lost, deed_at, deed_counts}
use Rattle.list_grown.proofs.Party.{At}
use Rattle.list_grown.proofs.View.{Inv, Steady, inv_quiet, key_of}
use Rattle.list_grown.proofs.Machine.{view_of, world_of, change_of, ins_of, outs_of}
use Rattle.list_grown.proofs.Does.{does}
use Rattle.list_grown.proofs.Steps.{row_off, quiet, read as reads_only, does_steady}
use Rattle.list_grown.proofs.Books.{miss_same, stale, owes, access_of, NoItem, Booked, does_booked}

-- ---- events

-- an ADD or a REMOVE that starts with row own, and then so many rows taken
abbrev pub begun : Machine → (i own taken : ℕ) → Call → (key : ℕ) → Machine
begun m i own taken call key = machine (with_row m.table own 2 key 0 0) (with_taken (with_party m.state i (starting call key own)) taken)

abbrev pub asking : Machine → (i key : ℕ) → Machine
asking m i key = machine m.table (with_taken (with_party m.state i (looking (party_of m i) Contains key 1)) m.state.taken)

-- a move; a call with a spare; a call that takes a row; a CONTAINS
pub data Advances (m : Machine) (i : ℕ) : Machine → Deed → Type 0 where
  moves : is_idle (party_of m i).place ≡ false →
      Advances m i (carried m i (move_at (party_of m i).place m.table (party_of m i))).after (deed_at (party_of m i).place m.table (party_of m i))
  spares : (call : Call) (key : ℕ) → is_contains call ≡ false → key < 4294967296 → (party_of m i).place ≡ Idle → (party_of m i).unpublished ≡ true →
      Advances m i (begun m i (party_of m i).own m.state.taken call key) called
  takes : (call : Call) (key : ℕ) → is_contains call ≡ false → key < 4294967296 → (party_of m i).place ≡ Idle → (party_of m i).unpublished ≡ false →
      m.state.taken < rows_in m.table → Advances m i (begun m i m.state.taken (m.state.taken + 1) call key) called
  asks : (key : ℕ) → key < 4294967296 → (party_of m i).place ≡ Idle → Advances m i (asking m i key) called

-- ---- what a event does to the books

abbrev pub stale_of : Machine → ℕ → ℕ
stale_of m j = stale (λ row. next_at m.table row) (party_of m j) (party_of m j).place

abbrev pub owes_of : Machine → ℕ → ℕ
owes_of m j = owes (party_of m j).place (party_of m j).unpublished

abbrev pub held_of : Machine → ℕ → ℕ
held_of m j = one_if (party_of m j).unpublished

-- the keys of a table are numbers of 32 bits
abbrev pub KeysSmall : Table → Type 0
KeysSmall t = (row : ℕ) → key_at t row < 4294967296

pub record Advanced (orphan : ℕ → Bool) (m : Machine) (i : ℕ) (m' : Machine) (deed : Deed) : Type 0 where
  pub steady : Steady (view_of orphan m) (view_of orphan m') (change_of deed (party_of m i).own)
  pub others : (j : ℕ) → j ≢ i → party_of m' j ≡ party_of m j
  pub mine : stale_of m' i + (deed_counts deed).lost ≤ stale_of m i
  pub cell : ℕ
  pub but : (y : ℕ) → (world_of orphan m).Pub y → (next_at m'.table y ≡ next_at m.table y) ⊎ ((y ≡ cell) × ((deed_counts deed).won ≡ 1))
  pub pays : owes_of m' i + (deed_counts deed).won ≤ owes_of m i + (ins_of deed + 2 * outs_of deed)
  pub rows : m'.state.taken + held_of m i ≡ m.state.taken + held_of m' i + ((deed_counts deed).adds + (deed_counts deed).marks)
  pub small : KeysSmall m.table → KeysSmall m'.table
  pub sixteen : length m'.state.parties ≡ length m.state.parties
  pub count : m'.state.count ≡ m.state.count
  pub made : m'.state.tallies.moves ≡ m.state.tallies.moves + (deed_counts deed).moves
  pub won : m'.state.tallies.won ≡ m.state.tallies.won + (deed_counts deed).won
  pub lost : m'.state.tallies.lost ≡ m.state.tallies.lost + (deed_counts deed).lost

-- ---- the keys

put_small : (column : List ℕ) (row key : ℕ) → key < 4294967296 → ((x : ℕ) → at column x < 4294967296) → (x : ℕ) → at (put column row key) x < 4294967296
put_small column row key fits old x = dite (dec_lt row (length column))
    (λ (l : row < length column). by_row x row (λ e. rw (e, get_or-set_same column row key 0 l) fits) (λ n. rw (get_or-set_other column row x key 0 n) (old x)))
    (λ (l : row < length column → ⊥). rw (set_out column row key (omega arith)) (old x))

plain_small : (write : Write) (t : Table) → NoItem write → KeysSmall t → KeysSmall (written write t)
plain_small Untouched t plain old = old
plain_small (Link row to) t plain old = old
plain_small (Splice row to from) t plain old = put_small t.key row 0 (omega arith) old
plain_small (Item _ _) t plain old = elim plain [ ]

-- ---- the tallies

-- an access changes the tallies only
same_parties : (access : Access) (st : State) → (tallied access st).parties ≡ st.parties
same_parties None st = refl
same_parties Read st = refl
same_parties Won st = refl
same_parties Lost st = refl

same_taken : (access : Access) (st : State) → (tallied access st).taken ≡ st.taken
same_taken None st = refl
same_taken Read st = refl
same_taken Won st = refl
same_taken Lost st = refl

same_count : (access : Access) (st : State) → (tallied access st).count ≡ st.count
same_count None st = refl
same_count Read st = refl
same_count Won st = refl
same_count Lost st = refl

-- the record that a move leaves to its party
pub party_after : (m : Machine) (i : ℕ) → i < length m.state.parties → (moved : Moved) → party_of (carried m i moved).after i ≡ moved.party
party_after m i h moved =
    rw (same_parties moved.access (with_party m.state i moved.party)) (get_or-set_same m.state.parties i moved.party blank h)

-- below their limit the tallies count what the deed counts
module _ (st : State) (below_moves : st.tallies.moves < 4294967295) (below_won : st.tallies.won < 4294967295)
    (below_lost : st.tallies.lost < 4294967295) where
  deed_moves : (deed : Deed) → (tallied (access_of deed) st).tallies.moves ≡ st.tallies.moves + (deed_counts deed).moves
  deed_moves called = omega arith
  deed_moves read = rw (lt-ltb st.tallies.moves 4294967295 below_moves)
  deed_moves (add_won key) = rw (lt-ltb st.tallies.moves 4294967295 below_moves)
  deed_moves (mark_won key) = rw (lt-ltb st.tallies.moves 4294967295 below_moves)
  deed_moves clean_won = rw (lt-ltb st.tallies.moves 4294967295 below_moves)
  deed_moves lost = rw (lt-ltb st.tallies.moves 4294967295 below_moves)

  deed_won : (deed : Deed) → (tallied (access_of deed) st).tallies.won ≡ st.tallies.won + (deed_counts deed).won
  deed_won called = omega arith
  deed_won read = omega arith
  deed_won (add_won key) = rw (lt-ltb st.tallies.won 4294967295 below_won)
  deed_won (mark_won key) = rw (lt-ltb st.tallies.won 4294967295 below_won)
  deed_won clean_won = rw (lt-ltb st.tallies.won 4294967295 below_won)
  deed_won lost = omega arith

  deed_lost : (deed : Deed) → (tallied (access_of deed) st).tallies.lost ≡ st.tallies.lost + (deed_counts deed).lost
  deed_lost called = omega arith
  deed_lost read = omega arith
  deed_lost (add_won key) = omega arith
  deed_lost (mark_won key) = omega arith
  deed_lost clean_won = omega arith
  deed_lost lost = rw (lt-ltb st.tallies.lost 4294967295 below_lost)

-- ---- every event

-- what a start says of its party
start_owes : (call : Call) (key : ℕ) → owes (Walk call key) true ≡ 0
start_owes Add key = refl
start_owes Remove key = refl
start_owes Contains key = refl

start_at : (w : World) (call : Call) (key own : ℕ) → is_contains call ≡ false → OnWay w (3 + key) 0 1 1 → w.rank own ≡ 3 + key →
    At w (starting call key own) (Walk call key)
start_at w Add key own is W e = (W, record { hidden = refl; is = e })
start_at w Remove key own is W e = (W, inl (record { hidden = refl; is = e }))
start_at w Contains key own is W e = absurd (true≢false is)

-- a row made an item has its key's rank
item_rank : (t : Table) (x key next back : ℕ) → x < length t.kind → x < length t.key → rank_at (with_row t x 2 key next back) x ≡ 3 + key
unfolding rank
item_rank t x key next back a c = rw (get_or-set_same t.kind x 2 0 a, get_or-set_same t.key x key 0 c)

module _ (orphan : ℕ → Bool) (m : Machine) (v : Inv (view_of orphan m)) (z : Rows m.state.taken m.table) (i : ℕ)
    (h : i < length m.state.parties) where
  abbrev w : World
  w = world_of orphan m

  abbrev T : ℕ
  T = m.state.taken

  now : (q' : Party) → get_or (set m.state.parties i q') i blank ≡ q'
  now q' = get_or-set_same m.state.parties i q' blank h

  off : (q' : Party) (j : ℕ) → j ≢ i → get_or (set m.state.parties i q') j blank ≡ party_of m j
  off q' j n = get_or-set_other m.state.parties i j q' blank n

  -- ---- a call

  -- every walk starts between rows 0 and 1
  at_start : (key : ℕ) → key < 4294967296 → OnWay w (3 + key) 0 1 1
  at_start key fits = walk_start v.good (key_of v key fits)

  -- a call begins at row 0, whose next is row 1
  next_zero : next_at m.table 0 ≡ 1
  next_zero = let r = v.good.head in (v.good.each 0 r.known).first r.pos v.good.start

  call_spare : (call : Call) (key : ℕ) → is_contains call ≡ false → key < 4294967296 → (party_of m i).unpublished ≡ true →
      Steady (view_of orphan m) (view_of orphan (begun m i (party_of m i).own T call key)) still
  call_spare call key is fits f =
      let own = (party_of m i).own in
      let l = v.inside i own (f, refl) in
      quiet orphan m v z i h (with_row m.table own 2 key 0 0) (starting call key own) (λ x d. (f, d.1)) (λ x d. (refl, d.1))
      (λ x n. let r = row_off m.table own 2 key 0 0 x (λ e. n (f, sym e)) in record { rank = r.0; next = r.1; back = r.2 })
      (λ e. start_at _ call key own is (walking_ext v.good e (at_start key fits)) (item_rank m.table own key 0 0 (omega (arith, z)) (omega (arith, z))))

  call_take : (call : Call) (key : ℕ) → is_contains call ≡ false → key < 4294967296 → (party_of m i).unpublished ≡ false → T < rows_in m.table →
      Steady (view_of orphan m) (view_of orphan (begun m i T (T + 1) call key)) still
  call_take call key is fits f room =
      let q' = starting call key T in
      let e : get_or (set m.state.parties i q') i blank ≡ q' = now q' in
      inv_quiet v i
      (record { others = λ j n. off q' j n; grows = omega arith; same = λ x. refl; holding = λ x d. inr (sym (rw e at d).1, omega arith) })
      (λ x d. absurd (true≢false (sym d.0 ∙ f)))
      (λ x c d. rw e (refl, omega arith))
      (λ x d. let r = row_off m.table T 2 key 0 0 x (λ c. d (rw e (refl, sym c))) in record { rank = r.0; next = r.1; back = r.2 })
      (λ t. rw e (start_at _ call key T is (walking_ext v.good t (at_start key fits)) (item_rank m.table T key 0 0 room (omega (arith, z)))))

  call_look : (key : ℕ) → key < 4294967296 → Steady (view_of orphan m) (view_of orphan (asking m i key)) still
  call_look key fits = reads_only orphan m v z i h (looking (party_of m i) Contains key 1) (λ x d. d) (λ x d. d)
      (key_of v key fits, v.good.one, omega (arith, v.good.order), tt)

  -- a call that makes row x, which is not published, an item of party i
  called_with : (x taken : ℕ) (call : Call) (key : ℕ) → key < 4294967296 → (w.Pub x → ⊥) → (party_of m i).place ≡ Idle → taken + held_of m i ≡ T + 1 →
      Steady (view_of orphan m) (view_of orphan (begun m i x taken call key)) still → Advanced orphan m i (begun m i x taken call key) called
  called_with x taken call key fits new idle rows steady = record {
    steady = steady;
    others = λ j n. off (starting call key x) j n;
    mine = rw (now (starting call key x)) (omega (
      arith,
      miss_same (next_at (begun m i x taken call key).table 0) 1
          (kept 0 v.good.head.known ∙ next_zero),
    ));
    cell = 0;
    but = λ y k. inl (kept y k);
    pays = rw (now (starting call key x), start_owes call key) (omega arith);
    rows = rw (now (starting call key x)) (omega arith);
    small = λ old. put_small m.table.key x key fits old;
    sixteen = length-set m.state.parties i (starting call key x);
    count = refl;
    made = omega arith;
    won = omega arith;
    lost = omega arith;
  }
    where
      kept : (y : ℕ) → w.Pub y → next_at (begun m i x taken call key).table y ≡ next_at m.table y
      kept y k = (row_off m.table x 2 key 0 0 y (λ e. new (rw e at k))).1

  asked : (key : ℕ) → key < 4294967296 → (party_of m i).place ≡ Idle → Advanced orphan m i (asking m i key) called
  asked key fits idle = let q' = looking (party_of m i) Contains key 1 in record {
    steady = call_look key fits;
    others = λ j n. off q' j n;
    mine = rw (now q') (omega arith);
    cell = 0;
    but = λ y k. inl refl;
    pays = rw (now q') (omega arith);
    rows = rw (now q') (omega arith);
    small = λ old. old;
    sixteen = length-set m.state.parties i q';
    count = refl;
    made = omega arith;
    won = omega arith;
    lost = omega arith;
  }

  -- ---- a move

  moved_on : (moved : Moved) (deed : Deed) → m.state.tallies.moves < 4294967295 → m.state.tallies.won < 4294967295 →
      m.state.tallies.lost < 4294967295 →
      Booked w m.table (party_of m i) (party_of m i).place moved deed →
      Steady (view_of orphan m) (view_of orphan (carried m i moved).after) (change_of deed (party_of m i).own) →
      Advanced orphan m i (carried m i moved).after deed
  moved_on moved deed a b c books steady =
      let st = with_party m.state i moved.party in
      let parties : (tallied moved.access st).parties ≡ st.parties = same_parties moved.access st in
      record {
        steady = steady;
        others = λ j n. rw parties (off moved.party j n);
        mine = rw (parties, now moved.party) books.mine;
        cell = books.cell;
        but = books.but;
        pays = rw (parties, now moved.party) books.pays;
        rows = rw (parties, now moved.party, same_taken moved.access st) (omega (arith, books.held));
        small = plain_small moved.write m.table books.plain;
        sixteen = rw parties (length-set m.state.parties i moved.party);
        count = same_count moved.access st;
        made = rw books.access (deed_moves st a b c deed);
        won = rw books.access (deed_won st a b c deed);
        lost = rw books.access (deed_lost st a b c deed);
      }

  pub advanced : {m' : Machine} {deed : Deed} → m.state.tallies.moves < 4294967295 → m.state.tallies.won < 4294967295 →
      m.state.tallies.lost < 4294967295 →
      Advances m i m' deed → Advanced orphan m i m' deed
  advanced a b c (moves busy) =
      let it = does m.table (party_of m i) w (party_of m i).place busy (v.holds i) in
      moved_on _ _ a b c (does_booked orphan m v i it (v.holds i)) (does_steady orphan m v z i h it (v.holds i))
  advanced a b c (spares call key is fits idle f) =
      called_with (party_of m i).own T call key fits (λ k. k.1 i (f, refl)) idle (rw f (omega arith)) (call_spare call key is fits f)
  advanced a b c (takes call key is fits idle f room) =
      called_with T (T + 1) call key fits (λ k. omega (arith, k.0)) idle (rw f (omega arith)) (call_take call key is fits f room)
  advanced a b c (asks key fits idle) = asked key fits idle

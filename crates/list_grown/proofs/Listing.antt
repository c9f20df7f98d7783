-- What a listing finds: the chain from row 1 rises to row 2 within the fuel, and the keys along it are exactly those of the live rows.
-- Assumes nothing.
use Prim.Native.Nat.{ℕ, zero, suc, ◌+◌, ◌≤◌, ◌<◌}
use mathlib.Core.Path.{◌≡◌, refl, sym, ◌∙◌}
use mathlib.Core.Logic.{◌≢◌}
use mathlib.Core.List.{List}
use mathlib.Core.Bool.{Bool, true, false, not, cond, true≢false}
use native.Mathlib.Nat.{le_refl}
use native.Mathlib.Omega.{arith}
use lib.Dec.{eqb, ltb}
use lib.ListN.{length}
use borrow.Author.Tests.{ltb-true, ltb-false, lt-ltb, eqb-true, eq-eqb, ne_eqb, not-true}
use Rattle.refusal.specs.Answer.{accepted, left, passed, refusing, leaving}
use Rattle.logic.proofs.Tests.{and_left, and_right, and_both}
use Rattle.list_rows.specs.Table.{Table, kind_at, key_at, next_at, is_item, is_splice}
use Rattle.list_rows.specs.Order.{end_rank, rank, rank_at}
use Rattle.list_unchecked.specs.Unchecked.{Machine}
use Rattle.list_form.specs.Form.{good_form}
use Rattle.list_chain.specs.Chain.{behind, is_live, rises, with_key, live_from}
use Rattle.list.specs.Engine.{bad_table, chain_rises, live_keys, places_with, list_of}
use Rattle.list_world.proofs.World.{World, Open, Proper, succ}
use Rattle.list_world.proofs.Live.{LiveRank}
use Rattle.logic.specs.Keys.{Rising, has}
use Rattle.list_world.proofs.KeysFrom.{KeysFrom, end, live, past, rows_above}
use Rattle.list_world.proofs.WorldLaws.{skip_pos, row_succ}
use Rattle.logic.proofs.Cases.{by_row, by_test}
use Rattle.list_world.proofs.KeysFromLaws.{above_bound, above_drop, top_row, listed_rising, listed_live, live_listed}
use Rattle.list_grown.specs.Demands.{LiveRow}
use Rattle.list_grown.proofs.View.{Inv}
use Rattle.list_grown.proofs.Machine.{view_of, world_of}
use Rattle.list_grown.proofs.Does.{splice_rank, other_rank}

-- ---- what a rank tells of its row

-- no end row ranks among the items
end_outside : (row : ℕ) → 2 < end_rank row → end_rank row < 4294967299 → ⊥
end_outside zero low high = omega arith
end_outside (suc zero) low high = omega arith
end_outside (suc (suc zero)) low high = omega arith
end_outside (suc (suc (suc row))) low high = omega arith

module _ (t : Table) where
  item_rank : (row : ℕ) → is_item t row ≡ true → rank_at t row ≡ 3 + key_at t row
  unfolding rank
  item_rank row is = rw (eqb-true (kind_at t row) 2 is)

  -- so what ranks strictly between rows 1 and 2 is an item: good form is not needed to know it
  middle_item : (row : ℕ) → 2 < rank_at t row → rank_at t row < 4294967299 → is_item t row ≡ true
  unfolding rank
  middle_item row = by_test
      (λ splice. 2 < cond splice 0 (cond (eqb (kind_at t row) 2) (3 + key_at t row) (end_rank row)) →
      cond splice 0 (cond (eqb (kind_at t row) 2) (3 + key_at t row) (end_rank row)) < 4294967299 → is_item t row ≡ true)
      (is_splice t row) (λ e low high. absurd (omega arith))
      (λ e. by_test
      (λ item. 2 < cond item (3 + key_at t row) (end_rank row) → cond item (3 + key_at t row) (end_rank row) < 4294967299 → item ≡ true)
      (is_item t row) (λ i low high. refl) (λ i low high. absurd (end_outside row low high)))

  pub no_splice : (row : ℕ) → 0 < rank_at t row → is_splice t row ≡ false
  no_splice row pos = by_test (λ splice. splice ≡ false) (is_splice t row) (λ e. absurd (omega (arith, splice_rank t row e))) (λ e. refl)

  live_item : (row : ℕ) → is_live t row ≡ true → (rank_at t row ≡ 3 + key_at t row) × (0 < rank_at t (next_at t row))
  live_item row is =
      let item = and_left (is_item t row) (not (is_splice t (next_at t row))) is in
      let stands = and_right (is_item t row) (not (is_splice t (next_at t row))) is in
      (item_rank row item, other_rank t (next_at t row) (not-true (is_splice t (next_at t row)) stands))

  item_live : (row : ℕ) → 2 < rank_at t row → rank_at t row < 4294967299 → 0 < rank_at t (next_at t row) → is_live t row ≡ true
  item_live row low high stands = rw (no_splice (next_at t row) stands) (and_both (middle_item row low high) refl)

-- ---- the chain

module _ (orphan : ℕ → Bool) (m : Machine) where
  abbrev t : Table
  t = m.table

  abbrev w : World
  w = world_of orphan m

  pub behind_is : (row : ℕ) → behind t row ≡ succ w row
  behind_is row = by_test
      (λ splice. cond splice (next_at t (next_at t row)) (next_at t row) ≡ succ w row)
      (is_splice t (next_at t row))
      (λ e. rw (splice_rank t (next_at t row) e))
      (λ e. rw (skip_pos (rank_at t (next_at t row)) (next_at t (next_at t row)) (next_at t row) (other_rank t (next_at t row) e)))

  module _ (v : Inv (view_of orphan m)) where
    -- a row that does not count is no item, if it is open
    uncounted : (row : ℕ) → w.rank row < w.rank 2 → is_live t row ≡ false → Open w row → w.rank row ≤ w.rank 1
    uncounted row high is stands = by_test (λ up. w.rank row ≤ w.rank 1) (ltb (w.rank 1) (w.rank row))
        (λ up. absurd (true≢false (sym (item_live t row (omega (arith, v.scale.0, ltb-true (w.rank 1) (w.rank row) up))
        (omega (arith, v.scale.1)) stands) ∙ is)))
        (λ up. ltb-false (w.rank 1) (w.rank row) up)

    -- a row before row 2, in front of the keys behind it
    one_more_lem : {keys : List ℕ} (row : ℕ) → w.rank row < w.rank 2 → KeysFrom w (succ w row) keys →
        KeysFrom w row (with_key (is_live t row) (key_at t row) keys)
    one_more_lem {keys} row high chain = by_test (λ counts. KeysFrom w row (with_key counts (key_at t row) keys)) (is_live t row)
        (λ is. let item = live_item t row is in live {a = row} (omega (arith, v.scale.0)) high item.1 item.0 chain)
        (λ is. past high (uncounted row high is) chain)

    under_top : (row : ℕ) → Proper w row → w.rank row ≤ w.rank 2 → row ≢ 2 → w.rank row < w.rank 2
    under_top row ρ high other = by_row (w.rank row) (w.rank 2) (λ e. absurd (other (top_row v.good row ρ e))) (λ n. omega arith)

    at_last : (fuel row : ℕ) → row ≡ 2 → KeysFrom w row (live_from t (suc fuel) row) × (rises t (suc fuel) row ≡ true)
    unfolding live_from rises
    at_last fuel row e = rw (eq-eqb row 2 e) (end e, refl)

    -- before row 2 a walk goes on
    goes_on_lem : (fuel row : ℕ) → row ≢ 2 → w.rank row < w.rank (succ w row) →
        (live_from t (suc fuel) row ≡ with_key (is_live t row) (key_at t row) (live_from t fuel (succ w row)))
        × (rises t (suc fuel) row ≡ rises t fuel (succ w row))
    unfolding live_from rises
    goes_on_lem fuel row n up = rw (ne_eqb row 2 n, behind_is row, lt-ltb (w.rank row) (w.rank (succ w row)) up) (refl, refl)

    -- each step leaves fewer rows above, so fuel for those is enough
    walked : (fuel row : ℕ) → Proper w row → w.rank row ≤ w.rank 2 → rows_above w.rank (w.rank row) m.state.taken < fuel →
        KeysFrom w row (live_from t fuel row) × (rises t fuel row ≡ true)
    walked zero row ρ high enough = absurd (omega arith)
    walked (suc fuel) row ρ high enough = by_row row 2 (λ e. at_last fuel row e) (λ n.
        let under = under_top row ρ high n in
        let next = row_succ v.good ρ under in
        let up = (v.good.each row ρ.known).rises ρ.pos under in
        let fewer = above_drop w.rank (w.rank row) (w.rank (succ w row)) m.state.taken (succ w row) next.known.0 up.0 (le_refl _) in
        let rest = walked fuel (succ w row) next up.1 (omega (arith, fewer)) in
        rw ((goes_on_lem fuel row n up.0).0, (goes_on_lem fuel row n up.0).1) (one_more_lem row under rest.0, rest.1))

    -- row 1 is taken and is not above itself, so that fewer rows than are taken are above it
    listed : KeysFrom w 1 (live_keys m) × (chain_rises m ≡ true)
    listed =
        let one = v.good.one in
        let fewer = above_drop w.rank 0 (w.rank 1) m.state.taken 1 one.known.0 one.pos (le_refl _) in
        walked m.state.taken 1 one (omega (arith, v.good.order)) (omega (arith, fewer, above_bound w.rank 0 m.state.taken))

    -- ---- what is listed

    pub listed_chain : KeysFrom w 1 (live_keys m)
    listed_chain = listed.0

    pub chain_rises_lem : chain_rises m ≡ true
    chain_rises_lem = listed.1

    pub keys_rise : Rising (live_keys m)
    keys_rise = listed_rising v.good v.scale.0 listed_chain

    pub keys_live : (k : ℕ) → has k (live_keys m) ≡ true → LiveRank w (3 + k)
    keys_live k h = listed_live v.good k listed_chain h

    pub live_keys_lem : (k : ℕ) → LiveRank w (3 + k) → has k (live_keys m) ≡ true
    live_keys_lem k l = live_listed v.good k listed_chain l

    -- of the refusals of a listing only 10 is left
    pub listing_is : good_form m ≡ true → bad_table m.table ≡ false → (places : List ℕ) →
        list_of m places
        ≡ leaving (refusing (ltb (length places) (length (live_keys m))) 10 passed) places
        (left (places_with (live_keys m) places) (accepted (length (live_keys m))))
    unfolding list_of
    listing_is good fits places = rw (fits, good, chain_rises_lem)

    -- ---- the rows that a listing shows

    -- what ranks strictly between rows 1 and 2 is an item, so its rank tells its key
    pub live_row : (k : ℕ) → LiveRank w (3 + k) → LiveRow m k
    live_row k l =
        let low : 2 < rank_at t l.row = omega (arith, l.is) in
        let high : rank_at t l.row < 4294967299 = omega (arith, l.is, l.high, v.scale.1) in
        record {
          row = l.row;
          published = (l.known.0, l.known.1);
          live = item_live t l.row low high l.free;
          keyed = omega (arith, l.is, item_rank t l.row (middle_item t l.row low high));
        }

-- keys of 32 bits rank below row 2; good form does not ask for them
module _ (m : Machine) (v : Inv (view_of (λ x. false) m)) (small : (row : ℕ) → key_at m.table row < 4294967296) where
  pub row_live : (k : ℕ) → LiveRow m k → LiveRank (world_of (λ x. false) m) (3 + k)
  row_live k l =
      let item = live_item m.table l.row l.live in
      let fits = small l.row in
      record {
        row = l.row;
        known = (l.published.0, l.published.1, refl);
        is = omega (arith, item.0, l.keyed);
        low = omega (arith, v.scale.0);
        high = omega (arith, v.scale.1, l.keyed);
        free = item.1;
      }

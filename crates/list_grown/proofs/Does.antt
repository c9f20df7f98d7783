-- The moves as a relation: one case for each way that a move can go, with what its tests have found. Everything that is proved of moves goes by these cases.
-- Assumes nothing.
use Prim.Native.Nat.{ℕ, zero, suc, ◌+◌, ◌≤◌, ◌<◌}
use mathlib.Core.Path.{◌≡◌}
use mathlib.Core.Logic.{◌≢◌}
use mathlib.Core.Bool.{true, false, not, cond, ◌&&◌, ◌||◌, true≢false}
use native.Mathlib.Omega.{arith}
use lib.Dec.{eqb}
use borrow.Author.Tests.{ltb-true, ltb-false, eqb-true, eqb-false}
use Rattle.list_rows.specs.declared.Write.TheVariants.{Link, Splice}
use Rattle.list_rows.specs.Table.{Table, kind_at, key_at, next_at, back_at, is_splice}
use Rattle.list_rows.specs.Order.{end_rank, rank, rank_at, below_key, equals_key}
use Rattle.calls.specs.declared.Call.{Call}
use Rattle.calls.specs.declared.Call.TheVariants.{Add, Remove, Contains}
use Rattle.list_party.specs.declared.Place.{Place}
use Rattle.list_party.specs.declared.Place.TheVariants.{Idle, Walk, Skip, AddSwap, Mark, Reread, Clean, Back, Look}
use Rattle.list_party.specs.declared.Party.{Party}
use Rattle.list_party.specs.Party.{idling, published, is_idle}
use Rattle.list_grown.proofs.Places.{walking, skipping, adding, marking, rereading, cleaning, backing, looking}
use Rattle.list_moves.specs.declared.Moved.{Moved}
use Rattle.calls.specs.declared.Said.TheVariants.{Nothing, Yes, No}
use Rattle.list_moves.specs.Moves.{
  goes_on,
  readies,
  answers,
  prepare_of,
  onward_of,
  landed_add_of,
  landed_unmarked_of,
  landed_marked_of,
  landed_remove_of,
  landed_contains_of,
  walk_of,
  skip_of,
  add_swap_of,
  mark_of,
  reread_of,
  clean_of,
  back_of,
  look_on_of,
  look_of,
  move_at,
}
use Rattle.list_grown.proofs.Places.{wins, loses}
use Rattle.list_world.proofs.World.{World}
use Rattle.logic.proofs.Cases.{by_test}
use Rattle.list_grown.specs.Deeds.{Deed, read, add_won, mark_won, clean_won, lost, deed_at}
use Rattle.list_grown.proofs.Party.{At}

-- ---- what the tests say

end_ranked : (row : ℕ) → 0 < end_rank row
end_ranked zero = omega arith
end_ranked (suc zero) = omega arith
end_ranked (suc (suc zero)) = omega arith
end_ranked (suc (suc (suc row))) = omega arith

module _ (t : Table) where
  -- the next of a row is a splice, or it is not
  abbrev pub Removed : ℕ → Type 0
  Removed row = rank_at t (next_at t row) ≡ 0

  abbrev pub Standing : ℕ → Type 0
  Standing row = 0 < rank_at t (next_at t row)

  -- splices alone have rank 0
  pub splice_rank : (row : ℕ) → is_splice t row ≡ true → rank_at t row ≡ 0
  unfolding rank
  splice_rank row is = rw is

  pub other_rank : (row : ℕ) → is_splice t row ≡ false → 0 < rank_at t row
  unfolding rank
  other_rank row is =
      rw is (by_test (λ item. 0 < cond item (3 + key_at t row) (end_rank row)) (eqb (kind_at t row) 2) (λ e. omega arith) (λ e. end_ranked row))

-- ---- the ways to go

module _ (t : Table) (q : Party) where
  abbrev s : ℕ
  s = next_at t q.c

  pub data Does : Place → Moved → Deed → Type 0 where
    passes : {call : Call} {k : ℕ} → rank_at t q.c < 3 + k → Removed t q.c →
        Does (Walk call k) (goes_on (walking q call k q.p q.n (next_at t s))) read
    steps : {call : Call} {k : ℕ} → rank_at t q.c < 3 + k → Standing t q.c → Does (Walk call k) (goes_on (walking q call k q.c s s)) read
    add_skips : {k : ℕ} → 3 + k ≤ rank_at t q.c → Removed t q.c → Does (Walk Add k) (goes_on (skipping q Add k q.p q.n (next_at t s))) read
    add_finds : {k : ℕ} → rank_at t q.c ≡ 3 + k → Standing t q.c → Does (Walk Add k) (answers q No) read
    add_ready : {k : ℕ} → 3 + k ≤ rank_at t q.c → rank_at t q.c ≢ 3 + k →
        Does (Walk Add k) (readies (adding q Add k q.p q.n) (Link q.own q.c)) read
    cut_other : {k : ℕ} → q.unpublished ≡ true → 3 + k ≤ rank_at t q.c → rank_at t q.c ≢ 3 + k → Does (Walk Remove k) (answers q No) read
    cut_late : {k : ℕ} → q.unpublished ≡ true → rank_at t q.c ≡ 3 + k → Removed t q.c → Does (Walk Remove k) (answers q No) read
    cut_ready : {k : ℕ} → q.unpublished ≡ true → rank_at t q.c ≡ 3 + k → Standing t q.c →
        Does (Walk Remove k) (readies (marking q Remove k q.p q.n q.c s) (Splice q.own s q.p)) read
    cut_again : {k : ℕ} → q.unpublished ≡ false → 3 + k ≤ rank_at t q.c → s ≡ q.own →
        Does (Walk Remove k) (goes_on (cleaning q Remove k q.p q.n q.r)) read
    cut_done : {k : ℕ} → q.unpublished ≡ false → 3 + k ≤ rank_at t q.c → s ≢ q.own → Does (Walk Remove k) (answers q Yes) read
    skips : {k : ℕ} → Removed t q.c → Does (Skip Add k) (goes_on (skipping q Add k q.p q.n (next_at t s))) read
    skip_ends : {k : ℕ} → Standing t q.c → Does (Skip Add k) (readies (adding q Add k q.p q.n) (Link q.own q.c)) read
    add_wins : {k : ℕ} → next_at t q.p ≡ q.n → Does (AddSwap Add k) (wins (idling (published q)) Yes q.p q.own) (add_won k)
    add_loses : {k : ℕ} → next_at t q.p ≢ q.n → Does (AddSwap Add k) (loses (backing q Add k q.p)) lost
    mark_wins : {k : ℕ} → s ≡ q.s → Does (Mark Remove k) (wins (cleaning (published q) Remove k q.p q.n q.s) Nothing q.c q.own) (mark_won k)
    mark_loses : {k : ℕ} → s ≢ q.s → Does (Mark Remove k) (loses (rereading q Remove k q.p q.n q.c)) lost
    rereads_late : {k : ℕ} → Removed t q.c → Does (Reread Remove k) (answers q No) read
    rereads : {k : ℕ} → Standing t q.c → Does (Reread Remove k) (readies (marking q Remove k q.p q.n q.c s) (Link q.own s)) read
    clean_wins : {k : ℕ} → next_at t q.p ≡ q.n → Does (Clean Remove k) (wins (idling q) Yes q.p q.r) clean_won
    clean_loses : {k : ℕ} → next_at t q.p ≢ q.n → Does (Clean Remove k) (loses (backing q Remove k q.p)) lost
    backs : {call : Call} {k : ℕ} → Removed t q.p → Does (Back call k) (goes_on (backing q call k (back_at t (next_at t q.p)))) read
    back_ends : {call : Call} {k : ℕ} → Standing t q.p → Does (Back call k) (goes_on (walking q call k q.p (next_at t q.p) (next_at t q.p))) read
    look_passes : {k : ℕ} → rank_at t q.c < 3 + k → Removed t q.c → Does (Look Contains k) (goes_on (looking q Contains k (next_at t s))) read
    look_steps : {k : ℕ} → rank_at t q.c < 3 + k → Standing t q.c → Does (Look Contains k) (goes_on (looking q Contains k s)) read
    look_other : {k : ℕ} → 3 + k ≤ rank_at t q.c → rank_at t q.c ≢ 3 + k → Does (Look Contains k) (answers q No) read
    look_late : {k : ℕ} → rank_at t q.c ≡ 3 + k → Removed t q.c → Does (Look Contains k) (answers q No) read
    look_finds : {k : ℕ} → rank_at t q.c ≡ 3 + k → Standing t q.c → Does (Look Contains k) (answers q Yes) read

  -- ---- the definitions of the moves, their tests read once

  below : (k : ℕ) → below_key t q.c k ≡ true → rank_at t q.c < 3 + k
  below k is = ltb-true (rank_at t q.c) (3 + k) is

  landed : (k : ℕ) → below_key t q.c k ≡ false → 3 + k ≤ rank_at t q.c
  landed k is = ltb-false (rank_at t q.c) (3 + k) is

  equal : (k : ℕ) → equals_key t q.c k ≡ true → rank_at t q.c ≡ 3 + k
  equal k is = eqb-true (rank_at t q.c) (3 + k) is

  other : (k : ℕ) → equals_key t q.c k ≡ false → rank_at t q.c ≢ 3 + k
  other k is = eqb-false (rank_at t q.c) (3 + k) is

  onward : (call : Call) (k : ℕ) → rank_at t q.c < 3 + k → Does (Walk call k) (onward_of t q call k) read
  unfolding onward_of
  onward call k l = by_test
      (λ b. Does (Walk call k) (cond b (goes_on (walking q call k q.p q.n (next_at t s))) (goes_on (walking q call k q.c s s))) read)
      (is_splice t s) (λ b. passes l (splice_rank t s b)) (λ b. steps l (other_rank t s b))

  landed_add : (k : ℕ) → 3 + k ≤ rank_at t q.c → Does (Walk Add k) (landed_add_of t q k) read
  unfolding landed_add_of prepare_of
  landed_add k l = by_test
      (λ b. Does (Walk Add k) (cond b (goes_on (skipping q Add k q.p q.n (next_at t s)))
      (cond (equals_key t q.c k) (answers q No) (prepare_of q Add k))) read)
      (is_splice t s) (λ b. add_skips l (splice_rank t s b))
      (λ b. by_test (λ e. Does (Walk Add k) (cond e (answers q No) (prepare_of q Add k)) read) (equals_key t q.c k)
      (λ e. add_finds (equal k e) (other_rank t s b)) (λ e. add_ready l (other k e)))

  landed_unmarked : (k : ℕ) → q.unpublished ≡ true → 3 + k ≤ rank_at t q.c → Does (Walk Remove k) (landed_unmarked_of t q k) read
  unfolding landed_unmarked_of
  landed_unmarked k u l = by_test (λ e. Does (Walk Remove k) (cond (not e || is_splice t s) (answers q No) ready) read) (equals_key t q.c k)
      (λ e. by_test (λ b. Does (Walk Remove k) (cond b (answers q No) ready) read) (is_splice t s)
      (λ b. cut_late u (equal k e) (splice_rank t s b)) (λ b. cut_ready u (equal k e) (other_rank t s b)))
      (λ e. cut_other u l (other k e))
    where
      ready : Moved
      ready = readies (marking q Remove k q.p q.n q.c s) (Splice q.own s q.p)

  landed_marked : (k : ℕ) → q.unpublished ≡ false → 3 + k ≤ rank_at t q.c → Does (Walk Remove k) (landed_marked_of t q k) read
  unfolding landed_marked_of
  landed_marked k u l =
      by_test (λ e. Does (Walk Remove k) (cond (not e) (answers q Yes) (goes_on (cleaning q Remove k q.p q.n q.r))) read) (eqb s q.own)
      (λ e. cut_again u l (eqb-true s q.own e)) (λ e. cut_done u l (eqb-false s q.own e))

  landed_remove : (k : ℕ) → 3 + k ≤ rank_at t q.c → Does (Walk Remove k) (landed_remove_of t q k) read
  unfolding landed_remove_of
  landed_remove k l = by_test
      (λ u. Does (Walk Remove k) (cond u (landed_unmarked_of t q k) (landed_marked_of t q k)) read) q.unpublished
      (λ u. landed_unmarked k u l) (λ u. landed_marked k u l)

  look_on : (k : ℕ) → rank_at t q.c < 3 + k → Does (Look Contains k) (look_on_of t q Contains k) read
  unfolding look_on_of
  look_on k l = by_test
      (λ b. Does (Look Contains k) (cond b (goes_on (looking q Contains k (next_at t s))) (goes_on (looking q Contains k s))) read) (is_splice t s)
      (λ b. look_passes l (splice_rank t s b)) (λ b. look_steps l (other_rank t s b))

  landed_look : (k : ℕ) → 3 + k ≤ rank_at t q.c → Does (Look Contains k) (landed_contains_of t q k) read
  unfolding landed_contains_of
  landed_look k l = by_test (λ e. Does (Look Contains k) (cond (e && not (is_splice t s)) (answers q Yes) (answers q No)) read) (equals_key t q.c k)
      (λ e. by_test (λ b. Does (Look Contains k) (cond (not b) (answers q Yes) (answers q No)) read) (is_splice t s)
      (λ b. look_late (equal k e) (splice_rank t s b)) (λ b. look_finds (equal k e) (other_rank t s b)))
      (λ e. look_other l (other k e))

  -- a swap is won or lost by the same test that names the deed
  swap : {l : Place} {won back : Moved} {deed : Deed} (row expected : ℕ) → (next_at t row ≡ expected → Does l won deed) →
      (next_at t row ≢ expected → Does l back lost) →
      Does l (cond (eqb (next_at t row) expected) won back) (cond (eqb (next_at t row) expected) deed lost)
  swap {l} {won} {back} {deed} row expected f g = by_test (λ b. Does l (cond b won back) (cond b deed lost)) (eqb (next_at t row) expected)
      (λ e. f (eqb-true (next_at t row) expected e)) (λ e. g (eqb-false (next_at t row) expected e))

  pub does : (w : World) (l : Place) → is_idle l ≡ false → At w q l → Does l (move_at l t q) (deed_at l t q)
  unfolding walk_of skip_of add_swap_of mark_of reread_of clean_of back_of look_of prepare_of
  does w Idle busy a = absurd (true≢false busy)
  does w (Walk Add k) busy a = by_test (λ b. Does (Walk Add k) (cond b (onward_of t q Add k) (landed_add_of t q k)) read) (below_key t q.c k)
      (λ b. onward Add k (below k b)) (λ b. landed_add k (landed k b))
  does w (Walk Remove k) busy a = by_test (λ b. Does (Walk Remove k) (cond b (onward_of t q Remove k) (landed_remove_of t q k)) read) (below_key t q.c k)
      (λ b. onward Remove k (below k b)) (λ b. landed_remove k (landed k b))
  does w (Skip Add k) busy a = by_test
      (λ b. Does (Skip Add k) (cond b (goes_on (skipping q Add k q.p q.n (next_at t s))) (prepare_of q Add k)) read)
      (is_splice t s) (λ b. skips (splice_rank t s b)) (λ b. skip_ends (other_rank t s b))
  does w (AddSwap Add k) busy a = swap q.p q.n add_wins add_loses
  does w (Mark Remove k) busy a = swap q.c q.s mark_wins mark_loses
  does w (Reread Remove k) busy a = by_test
      (λ b. Does (Reread Remove k) (cond b (answers q No) (readies (marking q Remove k q.p q.n q.c s) (Link q.own s))) read)
      (is_splice t s) (λ b. rereads_late (splice_rank t s b)) (λ b. rereads (other_rank t s b))
  does w (Clean Remove k) busy a = swap q.p q.n clean_wins clean_loses
  does w (Back call k) busy a = by_test
      (λ b. Does (Back call k) (cond b (goes_on (backing q call k (back_at t (next_at t q.p))))
      (goes_on (walking q call k q.p (next_at t q.p) (next_at t q.p)))) read)
      (is_splice t (next_at t q.p)) (λ b. backs (splice_rank t (next_at t q.p) b)) (λ b. back_ends (other_rank t (next_at t q.p) b))
  does w (Look Contains k) busy a =
      by_test (λ b. Does (Look Contains k) (cond b (look_on_of t q Contains k) (landed_contains_of t q k)) read) (below_key t q.c k)
      (λ l. look_on k (below k l)) (λ l. landed_look k (landed k l))
  -- the calls that do not come to a place
  does w (Walk Contains k) busy a = absurd a.1
  does w (Skip Remove k) busy a = absurd a.2
  does w (Skip Contains k) busy a = absurd a.2
  does w (AddSwap Remove k) busy a = absurd a.2
  does w (AddSwap Contains k) busy a = absurd a.2
  does w (Mark Add k) busy a = absurd a.2
  does w (Mark Contains k) busy a = absurd a.2
  does w (Reread Add k) busy a = absurd a.2
  does w (Reread Contains k) busy a = absurd a.2
  does w (Clean Add k) busy a = absurd a.2
  does w (Clean Contains k) busy a = absurd a.2
  does w (Look Add k) busy a = absurd a.3
  does w (Look Remove k) busy a = absurd a.3

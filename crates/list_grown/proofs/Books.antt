-- The books, move by move: the swaps that a party is bound to lose, the CLEAN that a marked REMOVE may still win, the row that it holds.
-- Assumes nothing.
use Prim.{Unit, tt}
use Prim.Native.Nat.{ℕ, ◌+◌, ◌-◌, ◌*◌, ◌≤◌, ◌<◌, min}
use mathlib.Core.Path.{◌≡◌, refl, sym, ap, ◌∙◌}
use mathlib.Core.Logic.{◌⊎◌, inl, inr, ⊎_elim, ◌≢◌}
use mathlib.Core.Bool.{Bool, true, not, ◌&&◌}
use native.Mathlib.Nat.{le_refl}
use native.Mathlib.Omega.{arith}
use lib.Seq.{get_or-set_other}
use Rattle.list_rows.specs.declared.Write.{Write}
use Rattle.list_rows.specs.declared.Write.TheVariants.{Untouched, Link, Splice, Item}
use Rattle.list_rows.specs.Table.{Table, next_at}
use Rattle.list_rows.specs.Writes.{written}
use Rattle.calls.specs.declared.Call.TheVariants.{Add, Remove, Contains}
use Rattle.list_party.specs.declared.Place.{Place}
use Rattle.list_party.specs.declared.Place.TheVariants.{Idle, Walk, Skip, AddSwap, Mark, Reread, Clean, Back, Look}
use Rattle.list_party.specs.declared.Party.{Party}
use Rattle.calls.specs.declared.Access.{Access}
use Rattle.calls.specs.declared.Access.TheVariants.{None, Read, Won, Lost}
use Rattle.list_party.specs.Party.{idling, published}
use Rattle.list_grown.proofs.Places.{walking, adding, backing, marking, rereading, cleaning}
use Rattle.calls.specs.declared.Said.{Said}
use Rattle.list_moves.specs.declared.Moved.{Moved}
use Rattle.list_moves.specs.Moves.{goes_on, readies, answers}
use Rattle.list_grown.proofs.Places.{wins, loses}
use Rattle.list_unchecked.specs.Unchecked.{Machine, party_of}
use Rattle.list_form.specs.Form.{removing}
use Rattle.logic.specs.Sum.{one_if}
use Rattle.list_world.proofs.World.{World, Intact}
use Rattle.list_world.proofs.Walk.{OnWay}
use Rattle.logic.proofs.Cases.{by_row}
use Rattle.list_world.proofs.WalkLaws.{at_c}
use Rattle.list_grown.specs.Deeds.{Deed, called, read, add_won, mark_won, clean_won, lost, deed_counts}
use Rattle.list_grown.proofs.Party.{At}
use Rattle.list_grown.proofs.View.{Inv}
use Rattle.list_grown.proofs.Machine.{view_of, world_of, ins_of, outs_of}
use Rattle.list_grown.proofs.Does.{
  Does,
  passes,
  steps,
  add_skips,
  add_finds,
  add_ready,
  cut_other,
  cut_late,
  cut_ready,
  cut_again,
  cut_done,
  skips,
  skip_ends,
  add_wins,
  add_loses,
  mark_wins,
  mark_loses,
  rereads_late,
  rereads,
  clean_wins,
  clean_loses,
  backs,
  back_ends,
  look_passes,
  look_steps,
  look_other,
  look_late,
  look_finds,
}

-- ---- swaps that are bound to be lost

-- 1 where two rows differ
pub miss : ℕ → ℕ → ℕ
miss a b = min 1 ((a - b) + (b - a))

pub miss_le : (a b : ℕ) → miss a b ≤ 1
unfolding miss
miss_le a b = omega arith

pub miss_same : (a b : ℕ) → a ≡ b → miss a b ≡ 0
unfolding miss
miss_same a b e = omega arith

pub miss_other : (a b : ℕ) → a ≢ b → miss a b ≡ 1
unfolding miss
miss_other a b n = omega arith

-- one for the pair p and n, and one at MARK for the pair c and s, where the row does not lead there any more
abbrev pub stale : (ℕ → ℕ) → Party → Place → ℕ
stale f q Idle = 0
stale f q (Walk call k) = miss (f q.p) q.n
stale f q (Skip call k) = miss (f q.p) q.n
stale f q (AddSwap call k) = miss (f q.p) q.n
stale f q (Mark call k) = miss (f q.p) q.n + miss (f q.c) q.s
stale f q (Reread call k) = miss (f q.p) q.n
stale f q (Clean call k) = miss (f q.p) q.n
stale f q (Back call k) = 0
stale f q (Look call k) = 0

-- another party's event: of the published rows at most one leads elsewhere, and that only if a swap is won
module _ (w : World) (g : Intact w) (f : ℕ → ℕ) (cell won : ℕ) (but : (y : ℕ) → w.Pub y → (f y ≡ w.next y) ⊎ ((y ≡ cell) × (won ≡ 1))) (q : Party) where
  one : (y n : ℕ) → w.Pub y → miss (f y) n ≤ miss (w.next y) n + won
  one y n h = ⊎_elim (λ e. rw e (omega arith)) (λ e. omega (arith, e.1, miss_le (f y) n)) (but y h)

  two : (p n c s : ℕ) → w.Pub p → w.Pub c → w.rank p < w.rank c → miss (f p) n + miss (f c) s ≤ miss (w.next p) n + miss (w.next c) s + won
  two p n c s hp hc l = go (but p hp) (but c hc)
    where
      go : (f p ≡ w.next p) ⊎ ((p ≡ cell) × (won ≡ 1)) → (f c ≡ w.next c) ⊎ ((c ≡ cell) × (won ≡ 1)) →
          miss (f p) n + miss (f c) s ≤ miss (w.next p) n + miss (w.next c) s + won
      go (inl a) (inl b) = rw (a, b) (omega arith)
      go (inl a) (inr b) = rw a (omega (arith, b.1, miss_le (f c) s))
      go (inr a) (inl b) = rw b (omega (arith, a.1, miss_le (f p) n))
      go (inr a) (inr b) = absurd (omega (arith, ap w.rank (a.0 ∙ sym b.0)))

  pub others_stale : (l : Place) → At w q l → stale f q l ≤ stale w.next q l + won
  others_stale Idle a = omega arith
  others_stale (Walk call k) a = one _ _ a.0.behind.row.known
  others_stale (Skip call k) a = one _ _ a.0.behind.row.known
  others_stale (AddSwap call k) a = one _ _ a.0.behind.row.known
  others_stale (Mark call k) a = two _ _ _ _ a.0.behind.row.known (at_c g a.0).0.known (omega (arith, a.0.behind.low, a.1))
  others_stale (Reread call k) a = one _ _ a.0.behind.row.known
  others_stale (Clean call k) a = one _ _ a.0.behind.row.known
  others_stale (Back call k) a = omega arith
  others_stale (Look call k) a = omega arith

-- ---- a REMOVE that has marked may still win a CLEAN

abbrev pub owes : Place → (unpublished : Bool) → ℕ
owes l unpublished = one_if (removing l && not unpublished)

-- ---- what a move does to the books

-- what came of its access
abbrev pub access_of : Deed → Access
access_of called = None
access_of read = Read
access_of (add_won key) = Won
access_of (mark_won key) = Won
access_of clean_won = Won
access_of lost = Lost

-- a move makes no item: only a call does
abbrev pub NoItem : Write → Type 0
NoItem Untouched = Unit {0}
NoItem (Link row to) = Unit {0}
NoItem (Splice row to from) = Unit {0}
NoItem (Item row key) = ⊥

pub record Booked (w : World) (t : Table) (q : Party) (l : Place) (moved : Moved) (deed : Deed) : Type 0 where
  pub access : moved.access ≡ access_of deed
  pub plain : NoItem moved.write
  -- a lost swap was bound to be lost
  pub mine : stale (λ row. next_at (written moved.write t) row) moved.party moved.party.place + (deed_counts deed).lost ≤ stale (λ row. next_at t row) q l
  -- a won swap brings a key in, takes one out and may clean up later, or cleans up
  pub pays : owes moved.party.place moved.party.unpublished + (deed_counts deed).won ≤ owes l q.unpublished + (ins_of deed + 2 * outs_of deed)
  -- an add swap or a mark swap that is won puts the row held into the list
  pub held : one_if moved.party.unpublished + ((deed_counts deed).adds + (deed_counts deed).marks) ≡ one_if q.unpublished
  -- the one published row that leads elsewhere
  pub cell : ℕ
  pub but : (y : ℕ) → w.Pub y → (next_at (written moved.write t) y ≡ next_at t y) ⊎ ((y ≡ cell) × ((deed_counts deed).won ≡ 1))

module _ (orphan : ℕ → Bool) (m : Machine) (v : Inv (view_of orphan m)) (i : ℕ) where
  abbrev w : World
  w = world_of orphan m

  abbrev t : Table
  t = m.table

  abbrev q : Party
  q = party_of m i

  abbrev Books : Place → Moved → Deed → Type 0
  Books l moved deed = Booked w t q l moved deed

  -- nothing written that others can see, nothing published
  goes : (l : Place) (q' : Party) (write : Write) → NoItem write → ((y : ℕ) → w.Pub y → next_at (written write t) y ≡ next_at t y)
      → stale (λ row. next_at (written write t) row) q' q'.place ≤ stale (λ row. next_at t row) q l →
      owes q'.place q'.unpublished ≤ owes l q.unpublished → q'.unpublished ≡ q.unpublished
      → Books l (readies q' write) read
  goes l q' write plain a b c e = record {
    access = refl;
    plain = plain;
    mine = omega arith;
    pays = omega arith;
    held = rw e (omega arith);
    cell = 0;
    but = λ y k. inl (a y k);
  }

  walks : (l : Place) (q' : Party) → stale (λ row. next_at t row) q' q'.place ≤ stale (λ row. next_at t row) q l
      → owes q'.place q'.unpublished ≤ owes l q.unpublished → q'.unpublished ≡ q.unpublished → Books l (goes_on q') read
  walks l q' b c e = goes l q' Untouched tt (λ y k. refl) b c e

  says : (l : Place) (said : Said) → Books l (answers q said) read
  says l said = record { access = refl; plain = tt; mine = omega arith; pays = omega arith; held = omega arith; cell = 0; but = λ y k. inl refl }

  fails : (l : Place) (q' : Party) → stale (λ row. next_at t row) q' q'.place < stale (λ row. next_at t row) q l
      → owes q'.place q'.unpublished ≤ owes l q.unpublished → q'.unpublished ≡ q.unpublished → Books l (loses q') lost
  fails l q' b c e = record { access = refl; plain = tt; mine = omega arith; pays = omega arith; held = rw e (omega arith); cell = 0; but = λ y k. inl refl }

  -- a won swap writes the next of one row
  made : (l : Place) (q' : Party) (said : Said) (x u : ℕ) (deed : Deed) → access_of deed ≡ Won → (deed_counts deed).lost ≡ 0 → (deed_counts deed).won ≡ 1
      → stale (λ row. next_at (written (Link x u) t) row) q' q'.place ≤ stale (λ row. next_at t row) q l
      → owes q'.place q'.unpublished + 1 ≤ owes l q.unpublished + (ins_of deed + 2 * outs_of deed)
      → one_if q'.unpublished + ((deed_counts deed).adds + (deed_counts deed).marks) ≡ one_if q.unpublished → Books l (wins q' said x u) deed
  made l q' said x u deed a no_loss win b c e = record {
    access = sym a;
    plain = tt;
    mine = omega arith;
    pays = omega arith;
    held = e;
    cell = x;
    but = λ y k. by_row y x (λ e. inr (e, win)) (λ n. inl (get_or-set_other t.next x y u 0 n));
  }

  -- the own row is not published
  own_off : (u y : ℕ) → q.unpublished ≡ true → w.Pub y → next_at (written (Link q.own u) t) y ≡ next_at t y
  own_off u y f k = get_or-set_other t.next q.own y u 0 (λ e. k.1 i (f, sym e))

  prepares : (l : Place) (k : ℕ) → OnWay w (3 + k) q.p q.n q.c → q.unpublished ≡ true → miss (w.next q.p) q.n ≤ stale w.next q l →
      Books l (readies (adding q Add k q.p q.n) (Link q.own q.c)) read
  prepares l k W f b = goes l (adding q Add k q.p q.n) (Link q.own q.c) tt (λ y n. own_off q.c y f n)
      (rw (own_off q.c q.p f W.behind.row.known) b) (omega arith) refl

  -- a party that comes to MARK has just read s
  to_mark : (l : Place) (k : ℕ) (write : Write) → NoItem write → OnWay w (3 + k) q.p q.n q.c →
      ((y : ℕ) → w.Pub y → next_at (written write t) y ≡ next_at t y) →
      miss (w.next q.p) q.n ≤ stale w.next q l → one_if (not q.unpublished) ≤ owes l q.unpublished →
      Books l (readies (marking q Remove k q.p q.n q.c (next_at t q.c)) write) read
  to_mark l k write plain W e b c = goes l (marking q Remove k q.p q.n q.c (next_at t q.c)) write plain e
      (rw (e q.p W.behind.row.known, e q.c (at_c v.good W).0.known, miss_same (w.next q.c) (w.next q.c) refl) (omega arith)) c refl

  -- a swap that is lost was bound to be
  bound : (x n : ℕ) → x ≢ n → 1 ≤ miss x n
  bound x n d = omega (arith, miss_other x n d)

  -- a row leads where it leads
  same : (x : ℕ) → miss (w.next x) (w.next x) ≡ 0
  same x = miss_same _ _ refl

  pub does_booked : {l : Place} {moved : Moved} {deed : Deed} → Does t q l moved deed → At w q l → Books l moved deed
  does_booked (passes b k) a = walks _ _ (le_refl _) (le_refl _) refl
  does_booked (steps {call} {k} b o) a = walks (Walk call k) _ (omega (arith, same q.c)) (le_refl _) refl
  does_booked (add_skips b k) a = walks _ _ (le_refl _) (le_refl _) refl
  does_booked (add_finds b k) a = says _ _
  does_booked (add_ready b n) a = prepares _ _ a.0 a.1.hidden (le_refl _)
  does_booked (cut_other f b n) a = says _ _
  does_booked (cut_late f b k) a = says _ _
  does_booked (cut_ready {k} f b o) a = to_mark (Walk Remove k) k _ tt a.0 (λ y n. own_off _ y f n) (le_refl _) (le_refl _)
  does_booked (cut_again f b d) a = walks _ _ (le_refl _) (le_refl _) refl
  does_booked (cut_done f b n) a = says _ _
  does_booked (skips k) a = walks _ _ (le_refl _) (le_refl _) refl
  does_booked (skip_ends o) a = prepares _ _ a.0 a.2.hidden (le_refl _)
  does_booked (add_wins {k} d) a = made (AddSwap Add k) (idling (published q)) _ _ _ (add_won k) refl refl refl (omega arith) (omega arith) (rw a.2.hidden)
  does_booked (add_loses {k} n) a = fails (AddSwap Add k) (backing q Add k q.p) (omega (arith, bound (w.next q.p) q.n n)) (le_refl _) refl
  does_booked (mark_wins {k} d) a = made (Mark Remove k) (cleaning (published q) Remove k q.p q.n q.s) _ q.c q.own (mark_won k) refl refl refl
      (rw (get_or-set_other t.next q.c q.p q.own 0 (λ d. omega (arith, ap w.rank d, a.0.behind.low, a.1))) (omega arith)) (omega arith)
      (rw a.2.hidden)
  does_booked (mark_loses {k} n) a =
      fails (Mark Remove k) (rereading q Remove k q.p q.n q.c) (omega (arith, bound (w.next q.c) q.s n)) (le_refl _) refl
  does_booked (rereads_late k) a = says _ _
  does_booked (rereads {k} o) a = to_mark (Reread Remove k) k _ tt a.0 (λ y n. own_off _ y a.2.hidden n) (le_refl _) (le_refl _)
  does_booked (clean_wins {k} d) a =
      made (Clean Remove k) (idling q) _ _ _ clean_won refl refl refl (omega arith) (rw a.2.shown (omega arith)) (omega arith)
  does_booked (clean_loses {k} n) a = fails (Clean Remove k) (backing q Remove k q.p) (omega (arith, bound (w.next q.p) q.n n)) (le_refl _) refl
  does_booked (backs {call} {k} M) a = walks (Back call k) _ (omega arith) (le_refl _) refl
  does_booked (back_ends {call} {k} o) a =
      walks (Back call k) (walking q call k q.p (next_at t q.p) (next_at t q.p)) (omega (arith, same q.p)) (le_refl _) refl
  does_booked (look_passes {k} b M) a = walks (Look Contains k) _ (omega arith) (le_refl _) refl
  does_booked (look_steps {k} b o) a = walks (Look Contains k) _ (omega arith) (le_refl _) refl
  does_booked (look_other b n) a = says _ _
  does_booked (look_late b k) a = says _ _
  does_booked (look_finds b k) a = says _ _

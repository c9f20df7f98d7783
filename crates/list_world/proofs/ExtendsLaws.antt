-- Every write extends the world, and work on a row that is not published changes nothing that others see.
-- Assumes nothing.
use Prim.Native.Nat.{ℕ}
use mathlib.Core.Path.{◌≡◌, refl, sym, subst}
use native.Mathlib.Omega.{arith}
use Rattle.list_world.proofs.Extends.{Extends, Same}
use Rattle.list_world.proofs.Live.{Effect, LiveRank, still}
use Rattle.list_world.proofs.World.{Chunk, Gone, Intact, Removed, Open, Reach, Proper, RowFacts, World, here, pass, step, stop, succ}
use Rattle.list_world.proofs.Writes.{MarkSwap, Swing, Relink, put}
use Rattle.list_world.proofs.LiveLaws.{open_back}
use Rattle.logic.proofs.Cases.{by_row}
use Rattle.list_world.proofs.Swap.{mark_back, mark_reach, open_off, swing_back, swing_stays}
use Rattle.list_world.proofs.WorldLaws.{pub_succ, skip_cong}

module _ {w w' : World} (g : Intact w) (t : Extends w w') where
  pub row_ext : {x : ℕ} → Proper w x → Proper w' x
  row_ext r = record { known = t.known _ r.known; pos = rw (t.rank _ r.known) r.pos }

  pub marked_ext : {x : ℕ} → w.Pub x → Removed w x → Removed w' x
  marked_ext {x} p m = rw (t.next x p m, t.rank (w.next x) (g.each x p).closed) m

  -- a marked row keeps its successor
  pub succ_ext : {x : ℕ} → w.Pub x → Removed w x → succ w' x ≡ succ w x
  succ_ext {x} p m =
      rw (t.next x p m, t.rank (w.next x) (g.each x p).closed)
      (skip_cong _ _ _ _ (λ (z : w.rank (w.next x) ≡ 0). (t.splice (w.next x) (g.each x p).closed z).0))

  pub chunk_ext : {c a : ℕ} → w.Pub a → Chunk w c a → Chunk w' c a
  chunk_ext p (here e) = here e
  chunk_ext {c = c} {a = a} p (pass m d) = pass (marked_ext p m) (subst (Chunk w' c) (sym (succ_ext p m)) (chunk_ext (pub_succ g a p) d))

module _ {w : World} {f : ℕ → ℕ} {P : ℕ → Type 0} {p v : ℕ} (s : Relink w f P p v) where
  write_ext : ((y : ℕ) → w.Pub y → Open (put w f P) y → Open w y) →
      ((x y : ℕ) → Proper w x → w.Pub y → Reach w y x → Reach (put w f P) y 1 → Reach (put w f P) y x)
      → ((y : ℕ) → w.Pub y → Reach (put w f P) y 1 → Reach w y 1) → Extends w (put w f P)
  write_ext o r c = record {
    known = λ x h. s.old x h;
    rank = λ x h. refl;
    next = λ x h m. s.off x (λ e. omega (arith, rw e at m, s.free));
    splice = λ x h z. (s.off x (λ e. omega (arith, rw e at z, s.row.pos)), refl);
    opens = o;
    stays = r;
    came = c;
  }

pub mark_ext : {w : World} {f : ℕ → ℕ} {P : ℕ → Type 0} {c own : ℕ} → Intact w → MarkSwap w f P c own → Extends w (put w f P)
mark_ext {c = c} g m = write_ext m.write
    (λ y h o. by_row y c (λ e. rw e m.write.free) (λ n. open_off m.write n o))
    (λ x y h k r t. mark_reach g m r) (λ y k r. mark_back g m r)

pub swing_ext : {w : World} {f : ℕ → ℕ} {P : ℕ → Type 0} {p e v : ℕ} → Intact w → Swing w f P p e v → Extends w (put w f P)
swing_ext g m = write_ext m.write (λ y h o. open_back g m o) (λ x y h k r t. swing_stays g m k h r t) (λ y k r. swing_back g m k r)

module _ {w w' : World} (g : Intact w) (t : Same w w') where
  pub same_next : (x : ℕ) → w.Pub x → w'.rank (w'.next x) ≡ w.rank (w.next x)
  same_next x p = rw (t.next x p) (t.rank _ (g.each x p).closed)

  pub same_succ : (x : ℕ) → w.Pub x → succ w' x ≡ succ w x
  same_succ x p = rw (t.next x p, t.rank (w.next x) (g.each x p).closed, t.next (w.next x) (g.each x p).closed)

  pub same_reach : {y x : ℕ} → w.Pub x → Reach w y x → Reach w' y x
  same_reach p (stop e) = stop e
  same_reach {y = y} {x = x} p (step h r) = step {a = x} (rw (t.rank x p, t.rank 2 g.two.known) h)
      (subst (Reach w' y) (sym (same_succ x p)) (same_reach (pub_succ g x p) r))

  same_row : {x : ℕ} → Proper w x → Proper w' x
  same_row r = record { known = t.known _ r.known; pos = rw (t.rank _ r.known) r.pos }

  same_gone : {x : ℕ} → w.Pub x → Gone w x → Gone w' x
  same_gone {x} p h = let q = t.back (w.next x) (g.each x p).closed in record {
    low = rw (t.rank 1 g.one.known, t.rank x p) h.low;
    high = rw (t.rank 2 g.two.known, t.rank x p) h.high;
    behind = rw (t.next x p, q) (same_row h.behind);
    falls = rw (t.next x p, q, t.rank _ h.behind.known, t.rank x p) h.falls;
  }

  pub same_good : Intact w'
  same_good = record {
    head = same_row g.head;
    start = rw (t.rank 0 g.head.known, one) g.start;
    one = same_row g.one;
    two = same_row g.two;
    three = same_row g.three;
    order = rw (one, two) g.order;
    each = λ x p. go x (t.only x p);
  }
    where
      one : w'.rank 1 ≡ w.rank 1
      one = t.rank 1 g.one.known

      two : w'.rank 2 ≡ w.rank 2
      two = t.rank 2 g.two.known

      go : (x : ℕ) → w.Pub x → RowFacts w' x
      go x p = let h = g.each x p in let q = t.rank x p in record {
        closed = rw (t.next x p) (t.known _ h.closed);
        first = rw (q, one, t.next x p) h.first;
        last = rw (q, two, t.next x p) h.last;
        rises = rw (same_succ x p, t.rank (succ w x) (pub_succ g x p), q, two) h.rises;
        gone = λ m. same_gone p (h.gone (rw (same_next x p) at m));
        reach = rw (q, one, two, same_next x p) (λ a b o. same_reach g.one.known (h.reach a b o));
      }

  same_back : {y x : ℕ} → w.Pub x → Reach w' y x → Reach w y x
  same_back p (stop e) = stop e
  same_back {y = y} {x = x} p (step h r) =
      step {a = x} (rw (t.rank x p, t.rank 2 g.two.known) at h) (subst (Reach w y) (same_succ x p) (same_back (rw (same_succ x p) (pub_succ g x p)) r))

  pub same_ext : Extends w w'
  same_ext = record {
    known = t.known;
    rank = t.rank;
    next = λ x p m. t.next x p;
    splice = λ x p z. (t.next x p, t.back x p);
    opens = λ y p o. rw (same_next y p) at o;
    stays = λ x y p q r s. same_reach p.known r;
    came = λ y q r. same_back g.one.known r;
  }

pub same_sym : {w w' : World} → Same w w' → Same w' w
same_sym t = record {
  known = t.only;
  only = t.known;
  rank = λ x p. sym (t.rank x (t.only x p));
  next = λ x p. sym (t.next x (t.only x p));
  back = λ x p. sym (t.back x (t.only x p));
}

pub same_live : {w w' : World} {r : ℕ} → Intact w → Same w w' → LiveRank w r → LiveRank w' r
same_live g t l = record {
  row = l.row;
  known = t.known _ l.known;
  is = rw (t.rank _ l.known) l.is;
  low = rw (t.rank 1 g.one.known) l.low;
  high = rw (t.rank 2 g.two.known) l.high;
  free = rw (same_next g t l.row l.known) l.free;
}

pub same_effect : {w w' : World} → Intact w → Same w w' → Effect w w' still
same_effect g t r = (λ l. same_live (same_good g t) (same_sym t) l, λ l. same_live g t l)

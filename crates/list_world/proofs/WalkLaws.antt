-- What the reads of a walk keep, and that what a party knows at its swap is what the swap asks for.
-- Assumes nothing.
use Prim.Native.Nat.{ℕ, ◌≤◌, ◌<◌}
use mathlib.Core.Path.{◌≡◌, refl, ap}
use mathlib.Core.Logic.{◌⊎◌, inl, inr}
use native.Mathlib.Omega.{arith}
use Rattle.list_world.proofs.Extends.{Extends}
use Rattle.list_world.proofs.Walk.{Below, KeyRank, OnWay}
use Rattle.list_world.proofs.World.{Intact, Removed, Open, Reach, Proper, World, here, pass, step, stop, succ}
use Rattle.list_world.proofs.Writes.{FreshItem, MarkSwap, Swing, Relink}
use Rattle.list_world.proofs.ExtendsLaws.{chunk_ext, row_ext}
use Rattle.list_world.proofs.WorldLaws.{chunk_row, chunk_trans, reach_le, row_succ, skip_pos}

module _ {w w' : World} (g : Intact w) (t : Extends w w') where
  pub key_ext : {K : ℕ} → KeyRank w K → KeyRank w' K
  key_ext k = record { over = rw (t.rank 1 g.one.known) k.over; under = rw (t.rank 2 g.two.known) k.under }

  pub behind_ext : {K p : ℕ} → Below w K p → Below w' K p
  behind_ext b = record { key = key_ext b.key; row = row_ext g t b.row; low = rw (t.rank _ b.row.known) b.low }

  pub walking_ext : {K p n c : ℕ} → OnWay w K p n c → OnWay w' K p n c
  walking_ext h = record {
    behind = behind_ext h.behind;
    row = row_ext g t h.row;
    top = rw (t.rank _ h.row.known, t.rank 2 g.two.known) h.top;
    chunk = chunk_ext g t h.row.known h.chunk;
  }

module _ {w : World} (g : Intact w) {K : ℕ} where
  pub at_c : {p n c : ℕ} → OnWay w K p n c → Proper w c × (w.rank n ≤ w.rank c) × (w.rank c ≤ w.rank 2)
  at_c h = chunk_row g h.row h.top h.chunk

  pub walk_start : KeyRank w K → OnWay w K 0 1 1
  walk_start k = record {
    behind = record { key = k; row = g.head; low = omega (arith, g.start) };
    row = g.one;
    top = omega (arith, g.order);
    chunk = here refl;
  }

  -- p stands and reads a next that is no splice: BACK's end, and WALK's step
  pub walk_from : {p : ℕ} → Below w K p → Open w p → OnWay w K p (w.next p) (w.next p)
  walk_from {p} b o = record {
    behind = b;
    row = record { known = (g.each p b.row.known).closed; pos = o };
    top = rw (skip_pos _ _ _ o) at ((g.each p b.row.known).rises b.row.pos (omega arith)).1;
    chunk = here refl;
  }

  pub walk_on : {p n c : ℕ} → OnWay w K p n c → w.rank c < K → Open w c → OnWay w K c (w.next c) (w.next c)
  walk_on h l o = walk_from (record { key = h.behind.key; row = (at_c h).0; low = l }) o

  -- WALK and SKIP past a marked row
  pub walk_past : {p n c : ℕ} → OnWay w K p n c → Removed w c → OnWay w K p n (w.next (w.next c))
  walk_past h m = record { behind = h.behind; row = h.row; top = h.top; chunk = chunk_trans h.chunk (pass m (here (rw m))) }

  pub past_rises : {p n c : ℕ} → OnWay w K p n c → Removed w c → w.rank c < w.rank (w.next (w.next c))
  past_rises {c = c} h m = let r = (at_c h).0 in rw m at ((g.each c r.known).rises r.pos ((g.each c r.known).gone m).high).0

  -- BACK through a splice
  pub back_splice : {p : ℕ} → Below w K p → Removed w p → Below w K (w.back (w.next p))
  back_splice {p} b m = let h = (g.each p b.row.known).gone m in record { key = b.key; row = h.behind; low = omega (arith, h.falls, b.low) }

  -- the three swaps, won: what Swap asks
  module _ {f : ℕ → ℕ} {P : ℕ → Type 0} where
    pub add_swing : {p n e v : ℕ} → OnWay w K p n e → K < w.rank e → w.next p ≡ n → w.rank v ≡ K → FreshItem w e v
        → Relink w f P p v → P v → ((x : ℕ) → P x → w.Pub x ⊎ (x ≡ v)) → Swing w f P p e v
    add_swing {p} {n} {e} {v} h l q k fr s mine new = record {
      write = s;
      low = omega arith;
      high = omega arith;
      chunk = rw q h.chunk;
      above = omega arith;
      mine = mine;
      kind = inr fr;
      new = λ x y. go (new x y);
    }
      where
        go : {x : ℕ} → w.Pub x ⊎ (x ≡ v) → w.Pub x ⊎ ((x ≡ v) × FreshItem w e v)
        go (inl a) = inl a
        go (inr b) = inr (b, fr)

    pub clean_swing : {p n e : ℕ} → OnWay w K p n e → K < w.rank e → w.next p ≡ n
        → Relink w f P p e → ((x : ℕ) → P x → w.Pub x) → Swing w f P p e e
    clean_swing h l q s only = record {
      write = s;
      low = omega arith;
      high = omega arith;
      chunk = rw q h.chunk;
      above = omega arith;
      mine = s.old _ (at_c h).0.known;
      kind = inl refl;
      new = λ x y. inl (only x y);
    }

    pub mark_mark : {p n c own : ℕ} → OnWay w K p n c → w.rank c ≡ K → (w.Pub own → ⊥) → w.rank own ≡ 0 → w.next own ≡ w.next c → w.back own ≡ p
        → Relink w f P c own → P own → ((x : ℕ) → P x → w.Pub x ⊎ (x ≡ own)) → MarkSwap w f P c own
    mark_mark h q fr z k b s mine new = record {
      write = s;
      low = omega arith;
      high = omega arith;
      fresh = fr;
      splice = z;
      nxt = k;
      behind = rw b h.behind.row;
      falls = rw b (omega arith);
      mine = mine;
      new = new;
    }

-- as long as the key stays live, its row is reached from where the party stands
module _ {w : World} (g : Intact w) {K y : ℕ} (is : w.rank y ≡ K) where
  pub track_on : {c : ℕ} → Reach w y c → w.rank c < K → Reach w y (succ w c)
  track_on (stop e) h = absurd (omega (arith, ap w.rank e))
  track_on (step l r) h = r

  -- a party that has landed stands on that row, which is not marked
  pub track_end : {c : ℕ} → Proper w c → Reach w y c → K ≤ w.rank c → c ≡ y
  track_end ρ (stop e) h = e
  track_end {c} ρ (step l r) h = absurd (omega (arith, ((g.each c ρ.known).rises ρ.pos l).0, reach_le g (row_succ g ρ l) r))

pub track_ext : {w w' : World} → Intact w → Intact w' → Extends w w' → {c y : ℕ} → Proper w c → w.Pub y → w.rank 1 ≤ w.rank y → w.rank y ≤ w.rank 2 →
    Open w' y → Reach w y c → Reach w' y c
track_ext g g' t {c} {y} ρ k a b o r =
    t.stays c y ρ k r ((g'.each y (t.known y k)).reach (rw (t.rank 1 g.one.known, t.rank y k) a) (rw (t.rank 2 g.two.known, t.rank y k) b) o)

-- What MARK and a swing do to the live ranks: exactly one goes, exactly one comes, or none changes.
-- Assumes nothing.
use Prim.Native.Nat.{ℕ}
use mathlib.Core.Path.{◌≡◌, refl, sym, ap, ◌∙◌}
use mathlib.Core.Logic.{◌⊎◌, inl, inr, ⊎_elim, ◌≢◌}
use native.Mathlib.Omega.{arith}
use Rattle.list_world.proofs.Live.{Effect, LiveRank, gain, lose, still}
use Rattle.list_world.proofs.World.{Intact, Open, World}
use Rattle.list_world.proofs.Writes.{FreshItem, MarkSwap, Swing, put}
use Rattle.logic.proofs.Cases.{by_row}
use Rattle.list_world.proofs.Swap.{ahead, not_low, open_off, put_succ_v, swing_gap}
use Rattle.list_world.proofs.WorldLaws.{unique}

module _ {w : World} {f : ℕ → ℕ} {P : ℕ → Type 0} {c own : ℕ} (g : Intact w) (m : MarkSwap w f P c own) where
  pub mark_was : LiveRank w (w.rank c)
  mark_was = record { row = c; known = m.write.row.known; is = refl; low = m.low; high = m.high; free = m.write.free }

  pub mark_keeps : {r : ℕ} → LiveRank w r → r ≢ w.rank c → LiveRank (put w f P) r
  mark_keeps l n = record {
    row = l.row;
    known = m.write.old _ l.known;
    is = l.is;
    low = l.low;
    high = l.high;
    free = rw (m.write.off l.row (λ e. n (sym l.is ∙ ap w.rank e))) l.free;
  }

  pub mark_only : {r : ℕ} → LiveRank (put w f P) r → LiveRank w r × (r ≢ w.rank c)
  mark_only {r} l = go (m.new _ l.known)
    where
      go : w.Pub l.row ⊎ (l.row ≡ own) → LiveRank w r × (r ≢ w.rank c)
      go (inr e) = absurd (omega (arith, ap w.rank e, m.splice, l.is, l.low))
      go (inl h) = by_row l.row c
          (λ e. absurd (omega (arith, m.splice, rw (e, m.write.at) at l.free)))
          (λ n. let o = open_off m.write n l.free in (
            record { row = l.row; known = h; is = l.is; low = l.low; high = l.high; free = o },
            λ q. n (unique g h m.write.row.known o m.write.free (omega (arith, l.low, l.is)) (l.is ∙ q) (omega (arith, m.high))),
          ))

-- a swing takes none out, and brings in the rank of a fresh item alone, which was not live
module _ {w : World} {f : ℕ → ℕ} {P : ℕ → Type 0} {p e v : ℕ} (g : Intact w) (m : Swing w f P p e v) where
  open_put : {x : ℕ} → Open w x → Open (put w f P) x
  open_put {x} o = by_row x p (λ q. rw (q, m.write.at) (omega (arith, m.above))) (λ n. rw (m.write.off x n) o)

  pub swing_keeps : {r : ℕ} → LiveRank w r → LiveRank (put w f P) r
  swing_keeps l = record { row = l.row; known = m.write.old _ l.known; is = l.is; low = l.low; high = l.high; free = open_put l.free }

  pub open_back : {x : ℕ} → Open (put w f P) x → Open w x
  open_back {x} o = by_row x p (λ q. rw q m.write.free) (λ n. open_off m.write n o)

  pub swing_only : {r : ℕ} → LiveRank (put w f P) r → LiveRank w r ⊎ ((r ≡ w.rank v) × FreshItem w e v)
  swing_only {r} l = go (m.new _ l.known)
    where
      go : w.Pub l.row ⊎ ((l.row ≡ v) × FreshItem w e v) → LiveRank w r ⊎ ((r ≡ w.rank v) × FreshItem w e v)
      go (inl h) = inl (record { row = l.row; known = h; is = l.is; low = l.low; high = l.high; free = open_back l.free })
      go (inr h) = inr (sym l.is ∙ ap w.rank h.0, h.1)

  pub swing_new : FreshItem w e v → LiveRank w (w.rank v) → ⊥
  swing_new h l = omega (
    arith,
    h.less,
    l.is,
    m.above,
    swing_gap g m l.known l.free (omega (arith, l.is, l.high)) (omega (arith, l.is, m.above)),
  )

  pub swing_now : FreshItem w e v → LiveRank (put w f P) (w.rank v)
  swing_now h = record {
    row = v;
    known = m.mine;
    is = refl;
    low = omega (arith, m.above, not_low g m);
    high = omega (arith, h.less, (ahead g m).2);
    free = rw (put_succ_v g m h).0 (ahead g m).0.pos;
  }

module _ {w : World} {f : ℕ → ℕ} {P : ℕ → Type 0} (g : Intact w) where
  pub mark_effect : {c own : ℕ} → MarkSwap w f P c own → Effect w (put w f P) (lose (w.rank c) own)
  mark_effect m = (mark_was g m, λ r. (λ l. mark_only g m l, λ l. mark_keeps g m l.0 l.1))

  pub add_effect : {p e v : ℕ} → Swing w f P p e v → FreshItem w e v → Effect w (put w f P) (gain (w.rank v))
  add_effect m h = (
    swing_new g m h,
    λ r. (
      λ l. ⊎_elim (λ a. inl a) (λ b. inr b.0) (swing_only g m l),
      λ l. ⊎_elim (λ a. swing_keeps g m a) (λ b. rw b (swing_now g m h)) l,
    ),
  )

  pub clean_effect : {p e : ℕ} → Swing w f P p e e → Effect w (put w f P) still
  clean_effect m r = (λ l. ⊎_elim (λ a. a) (λ b. absurd (omega (arith, b.1.less))) (swing_only g m l), λ l. swing_keeps g m l)

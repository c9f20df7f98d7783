-- Laws of reach and of chunks in a good world.
-- Assumes nothing.
use Prim.Native.Nat.{ℕ, zero, suc, ◌≤◌, ◌<◌}
use mathlib.Core.Path.{◌≡◌, refl, sym, ap, subst}
use native.Mathlib.Nat.{le_refl}
use native.Mathlib.Decide.{dec_le}
use native.Mathlib.Omega.{arith}
use Rattle.list_world.proofs.World.{Chunk, Intact, Open, Reach, Proper, World, here, pass, skip, step, stop, succ}

pub skip_pos : (n a b : ℕ) → 0 < n → skip n a b ≡ b
skip_pos zero a b h = omega arith
skip_pos (suc n) a b h = refl

pub skip_cong : (n a a' b : ℕ) → (n ≡ 0 → a ≡ a') → skip n a b ≡ skip n a' b
skip_cong zero a a' b h = h refl
skip_cong (suc n) a a' b h = refl

pub succ_open : (w : World) (x : ℕ) → Open w x → succ w x ≡ w.next x
succ_open w x o = skip_pos _ _ _ o

module _ {w : World} (g : Intact w) where
  pub pub_succ : (a : ℕ) → w.Pub a → w.Pub (succ w a)
  pub_succ a r = go (w.rank (w.next a))
    where
      go : (n : ℕ) → w.Pub (skip n (w.next (w.next a)) (w.next a))
      go zero = (g.each _ (g.each a r).closed).closed
      go (suc n) = (g.each a r).closed

  pub row_succ : {a : ℕ} → Proper w a → w.rank a < w.rank 2 → Proper w (succ w a)
  row_succ r h = record { known = pub_succ _ r.known; pos = omega (arith, ((g.each _ r.known).rises r.pos h).0) }

  pub reach_le : {c a : ℕ} → Proper w a → Reach w c a → w.rank a ≤ w.rank c
  reach_le r (stop e) = omega (arith, ap w.rank e)
  reach_le r (step h s) = omega (arith, ((g.each _ r.known).rises r.pos h).0, reach_le (row_succ r h) s)

  -- two rows that are reached from one row: the higher is reached from the lower
  pub reach_linear : {x y a : ℕ} → Proper w a → Reach w x a → Reach w y a → w.rank x ≤ w.rank y → Reach w y x
  reach_linear {y = y} r (stop e) s h = subst (Reach w y) e s
  reach_linear {a = a} r (step l s) (stop e) h =
      absurd (omega (arith, ((g.each _ r.known).rises r.pos l).0, reach_le (row_succ r l) s, ap w.rank e))
  reach_linear r (step l s) (step k t) h = reach_linear (row_succ r l) s t h

  -- the end of a chunk lies on the list too
  pub chunk_row : {e a : ℕ} → Proper w a → w.rank a ≤ w.rank 2 → Chunk w e a → Proper w e × (w.rank a ≤ w.rank e) × (w.rank e ≤ w.rank 2)
  chunk_row r h (here q) = (rw q at r, rw q (le_refl _), rw q at h)
  chunk_row {a = a} r h (pass m c) =
      let l = ((g.each a r.known).gone m).high in
      let s = (g.each a r.known).rises r.pos l in
      let t = chunk_row (row_succ r l) s.1 c in
      (t.0, omega arith, t.2)

  pub chunk_reach : {e y a : ℕ} → w.Pub a → Chunk w e a → Reach w y e → Reach w y a
  chunk_reach {y = y} p (here q) r = subst (Reach w y) (sym q) r
  chunk_reach {a = a} p (pass m c) r = step ((g.each a p).gone m).high (chunk_reach (pub_succ a p) c r)

  -- only row 1 is reached from row 1 by a chunk, so what swings past a row is not row 0
  pub not_first : {p e : ℕ} → Proper w p → Chunk w e (w.next p) → w.rank 1 < w.rank e → w.rank 1 ≤ w.rank p
  not_first {p} {e} r c h = go (dec_le (w.rank 1) (w.rank p))
    where
      at_one : Chunk w e 1 → ⊥
      at_one (here q) = omega (arith, ap w.rank q)
      at_one (pass m d) = omega (arith, ((g.each 1 g.one.known).gone m).low)

      go : Dec (w.rank 1 ≤ w.rank p) → w.rank 1 ≤ w.rank p
      go (yes k) = k
      go (no k) = absurd (at_one (subst (Chunk w e) ((g.each p r.known).first r.pos (omega arith)) c))

-- a row that is not marked is not passed by a chunk
pub reach_past : {w : World} {y e a : ℕ} → Open w y → Chunk w e a → Reach w y a → Reach w y e
reach_past {w} {y} o (here e) r = subst (Reach w y) e r
reach_past {w} {y} o (pass m c) (stop e) = let z : w.rank (w.next y) ≡ 0 = rw (← e) m in absurd (omega arith)
reach_past o (pass m c) (step l r) = reach_past o c r

pub chunk_trans : {w : World} {b c a : ℕ} → Chunk w b a → Chunk w c b → Chunk w c a
chunk_trans {w = w} {c = c} (here e) d = subst (Chunk w c) (sym e) d
chunk_trans (pass m x) d = pass m (chunk_trans x d)

pub reach_snoc : {w : World} {p a : ℕ} → w.rank p < w.rank 2 → Reach w p a → Reach w (succ w p) a
reach_snoc {w = w} {a = a} h (stop e) = step {a = a} (rw e h) (stop (ap (succ w) e))
reach_snoc h (step l r) = step l (reach_snoc h r)

module _ {w : World} (g : Intact w) where
  -- the chain from an open row to a higher one
  pub between : {x y : ℕ} → w.Pub x → w.Pub y → Open w x → Open w y → w.rank 1 ≤ w.rank x → w.rank x ≤ w.rank y → w.rank y ≤ w.rank 2 → Reach w y x
  between px py ox oy l h t = reach_linear g g.one ((g.each _ px).reach l (omega arith) ox) ((g.each _ py).reach (omega arith) t oy) h

  -- one open row of a rank
  pub unique : {x y : ℕ} → w.Pub x → w.Pub y → Open w x → Open w y → w.rank 1 ≤ w.rank x → w.rank x ≡ w.rank y → w.rank y ≤ w.rank 2 → x ≡ y
  unique {x} {y} px py ox oy l q t = go (between px py ox oy l (omega arith) t)
    where
      go : Reach w y x → x ≡ y
      go (stop e) = e
      go (step h r) = let ρ : Proper w x = record { known = px; pos = omega (arith, g.one.pos) } in
          absurd (omega (arith, ((g.each x px).rises ρ.pos h).0, reach_le g (row_succ g ρ h) r))

  -- no open row lies between an open row and the end of a chunk after it
  pub gap : {p e y : ℕ} → w.Pub p → Open w p → w.rank 1 ≤ w.rank p → Chunk w e (w.next p)
      → w.Pub y → Open w y → w.rank p < w.rank y → w.rank y ≤ w.rank 2 → w.rank e ≤ w.rank y
  gap {p} {e} {y} pp op l c py oy h t = go (between pp py op oy l (omega arith) t)
    where
      go : Reach w y p → w.rank e ≤ w.rank y
      go (stop q) = absurd (omega (arith, ap w.rank q))
      go (step k r) =
          let n : Reach w y (w.next p) = subst (Reach w y) (skip_pos _ _ _ op) r in
          let s = rw (skip_pos _ _ _ op) at ((g.each p pp).rises (omega (arith, g.one.pos)) k) in
          let a = chunk_row g (record { known = (g.each p pp).closed; pos = op }) s.1 c in
          reach_le g a.0 (reach_past oy c n)

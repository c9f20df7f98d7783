-- What MARK and a swing keep: a good world stays good, and rows that are not passed by are reached as before.
-- Assumes nothing.
use Prim.Native.Nat.{ℕ, ◌≤◌, ◌<◌}
use mathlib.Core.Path.{◌≡◌, refl, sym, ap, subst, ◌∙◌}
use mathlib.Core.Logic.{◌⊎◌, inl, inr, ◌≢◌}
use native.Mathlib.Omega.{arith}
use Rattle.list_world.proofs.World.{Chunk, Gone, Intact, Removed, Open, Reach, Proper, RowFacts, World, here, pass, step, stop, succ}
use Rattle.list_world.proofs.Writes.{FreshItem, MarkSwap, Swing, Relink, put}
use Rattle.logic.proofs.Cases.{by_row}
use Rattle.list_world.proofs.WorldLaws.{
  chunk_reach,
  chunk_row,
  gap,
  not_first,
  reach_le,
  reach_linear,
  reach_snoc,
  row_succ,
  skip_cong,
  skip_pos,
  succ_open,
}

module _ {w : World} {f : ℕ → ℕ} {P : ℕ → Type 0} {p v : ℕ} (s : Relink w f P p v) where
  -- rows other than p have the successor that they had
  pub succ_off : (x : ℕ) → x ≢ p → succ (put w f P) x ≡ succ w x
  succ_off x n = rw (s.off x n) (skip_cong _ _ _ _ (λ (z : w.rank (w.next x) ≡ 0). s.off (w.next x) (λ e. omega (arith, ap w.rank e, s.row.pos))))

  pub row_put : {x : ℕ} → Proper w x → Proper (put w f P) x
  row_put r = record { known = s.old _ r.known; pos = r.pos }

  pub gone_off : {x : ℕ} → x ≢ p → Gone w x → Gone (put w f P) x
  gone_off {x} n h = record { low = h.low; high = h.high; behind = rw (s.off x n) (row_put h.behind); falls = rw (s.off x n) h.falls }

  -- rows other than p are marked and open as they were
  pub open_off : {x : ℕ} → x ≢ p → Open (put w f P) x → Open w x
  open_off {x} n o = rw (s.off x n) at o

  pub marked_off : {x : ℕ} → x ≢ p → Removed (put w f P) x → Removed w x
  marked_off {x} n o = rw (s.off x n) at o

  -- the ends and their order stay, so the world is good if each of its rows is sound
  put_good : Intact w → ((x : ℕ) → P x → RowFacts (put w f P) x) → Intact (put w f P)
  put_good g each = record {
    head = row_put g.head;
    start = g.start;
    one = row_put g.one;
    two = row_put g.two;
    three = row_put g.three;
    order = g.order;
    each = each;
  }

module _ {w : World} {f : ℕ → ℕ} {P : ℕ → Type 0} {c own : ℕ} (g : Intact w) (m : MarkSwap w f P c own) where
  own_not : own ≢ c
  own_not e = m.fresh (subst w.Pub (sym e) m.write.row.known)

  -- no successor changes
  pub mark_succ : (x : ℕ) → succ (put w f P) x ≡ succ w x
  mark_succ x = by_row x c
      (λ e. rw (e, m.write.at, m.splice, m.write.off own own_not, m.nxt) (sym (skip_pos _ _ _ m.write.free)))
      (succ_off m.write x)

  pub mark_reach : {y a : ℕ} → Reach w y a → Reach (put w f P) y a
  mark_reach (stop e) = stop e
  mark_reach {y} (step {a = a} h r) = step h (subst (Reach (put w f P) y) (sym (mark_succ a)) (mark_reach r))

  pub mark_back : {y a : ℕ} → Reach (put w f P) y a → Reach w y a
  mark_back (stop e) = stop e
  mark_back {y} (step {a = a} h r) = step h (subst (Reach w y) (mark_succ a) (mark_back r))

  mark_old : (x : ℕ) → x ≢ c → RowFacts w x → RowFacts (put w f P) x
  mark_old x n h = record {
    closed = rw (m.write.off x n) (m.write.old _ h.closed);
    first = rw (m.write.off x n) h.first;
    last = rw (m.write.off x n) h.last;
    rises = rw (mark_succ x) h.rises;
    gone = λ z. gone_off m.write n (h.gone (marked_off m.write n z));
    reach = λ a b o. mark_reach (h.reach a b (open_off m.write n o));
  }

  mark_c : RowFacts (put w f P) c
  mark_c = record {
    closed = rw m.write.at m.mine;
    first = λ a b. absurd (omega (arith, m.low, b));
    last = λ a. absurd (omega (arith, m.high, a));
    rises = rw (mark_succ c) (g.each c m.write.row.known).rises;
    gone = λ z. record { low = m.low; high = m.high; behind = rw m.write.at (row_put m.write m.behind); falls = rw m.write.at m.falls };
    reach = λ a b o. absurd (omega (arith, rw m.write.at at o, m.splice));
  }

  mark_own : RowFacts (put w f P) own
  mark_own =
      let e : f own ≡ w.next c = m.write.off own own_not ∙ m.nxt in
      record {
        closed = rw e (m.write.old _ (g.each c m.write.row.known).closed);
        first = λ a b. absurd (omega (arith, a, m.splice));
        last = λ a. absurd (omega (arith, a, m.splice, g.two.pos));
        rises = λ a b. absurd (omega (arith, a, m.splice));
        gone = λ z. absurd (omega (arith, rw e at z, m.write.free));
        reach = λ a b o. absurd (omega (arith, a, m.splice, g.one.pos));
      }

  pub mark_good : Intact (put w f P)
  mark_good = put_good m.write g (λ x h. go x (m.new x h))
    where
      go : (x : ℕ) → w.Pub x ⊎ (x ≡ own) → RowFacts (put w f P) x
      go x (inl h) = by_row x c (λ e. subst (RowFacts (put w f P)) (sym e) mark_c) (λ n. mark_old x n (g.each x h))
      go x (inr e) = subst (RowFacts (put w f P)) (sym e) mark_own

module _ {w : World} {f : ℕ → ℕ} {P : ℕ → Type 0} {p e v : ℕ} (g : Intact w) (m : Swing w f P p e v) where
  pub not_low : w.rank 1 ≤ w.rank p
  not_low = not_first g m.write.row m.chunk m.low

  succ_p : succ w p ≡ w.next p
  succ_p = skip_pos _ _ _ m.write.free

  -- where the chunk ends
  pub ahead : Proper w e × (w.rank (w.next p) ≤ w.rank e) × (w.rank e ≤ w.rank 2)
  ahead = chunk_row g (record { known = (g.each p m.write.row.known).closed; pos = m.write.free })
      (omega (arith, rw succ_p at ((g.each p m.write.row.known).rises m.write.row.pos m.high).1)) m.chunk

  put_succ_p : succ (put w f P) p ≡ v
  put_succ_p = rw m.write.at (skip_pos (w.rank v) _ _ (omega (arith, m.above)))

  -- a fresh row's successor
  pub put_succ_v : FreshItem w e v → (f v ≡ e) × (succ (put w f P) v ≡ e)
  put_succ_v h = let q : f v ≡ e = m.write.off v (λ k. h.fresh (subst w.Pub (sym k) m.write.row.known)) ∙ h.nxt in
      (q, rw q (skip_pos _ _ _ ahead.0.pos))

  via : {y : ℕ} → (v ≡ e) ⊎ FreshItem w e v → Reach (put w f P) y e → Reach (put w f P) y v
  via {y} (inl q) r = subst (Reach (put w f P) y) (sym q) r
  via {y} (inr h) r = step {a = v} (omega (arith, h.less, ahead.2)) (subst (Reach (put w f P) y) (sym (put_succ_v h).1) r)

  top_v : (v ≡ e) ⊎ FreshItem w e v → w.rank v ≤ w.rank 2
  top_v (inl q) = rw q ahead.2
  top_v (inr h) = omega (arith, h.less, ahead.2)

  -- a row that the swing does not pass by is reached from where it was, from the end of each chunk before it too
  swing_past : {y a b : ℕ} → (w.rank p < w.rank y → w.rank e ≤ w.rank y) → Proper w a → Reach w y a → w.rank b ≤ w.rank y → Chunk w b a →
      Reach (put w f P) y b
  swing_past o ρ (stop q) h (here k) = stop (sym k ∙ q)
  swing_past {a = a} o ρ (stop q) h (pass d c) =
      let l = ((g.each a ρ.known).gone d).high in
      let s = (g.each a ρ.known).rises ρ.pos l in
      absurd (omega (arith, (chunk_row g (row_succ g ρ l) s.1 c).1, ap w.rank q))
  swing_past o ρ (step l r) h (pass d c) = swing_past o (row_succ g ρ l) r h c
  swing_past {y} o ρ (step {a = a} l r) h (here k) =
      let ρ' = row_succ g ρ l in
      let s = (g.each a ρ.known).rises ρ.pos l in
      subst (Reach (put w f P) y) k (by_row a p
      (λ q. step l (subst (Reach (put w f P) y) (sym (ap (succ (put w f P)) q ∙ put_succ_p))
      (via m.kind (swing_past o ρ' r (o (omega (arith, ap w.rank q, reach_le g ρ' r))) (subst (Chunk w e) (sym (ap (succ w) q ∙ succ_p)) m.chunk)))))
      (λ n. step l (subst (Reach (put w f P) y) (sym (succ_off m.write a n)) (swing_past o ρ' r (reach_le g ρ' r) (here refl)))))

  pub swing_reach : {y a : ℕ} → (w.rank p < w.rank y → w.rank e ≤ w.rank y) → Proper w a → Reach w y a → Reach (put w f P) y a
  swing_reach o ρ r = swing_past o ρ r (reach_le g ρ r) (here refl)

  pub swing_gap : {y : ℕ} → w.Pub y → Open w y → w.rank y ≤ w.rank 2 → w.rank p < w.rank y → w.rank e ≤ w.rank y
  swing_gap k o t h = gap g m.write.row.known m.write.free not_low m.chunk k o h t

  swing_old : (x : ℕ) → x ≢ p → w.Pub x → RowFacts w x → RowFacts (put w f P) x
  swing_old x n k h = record {
    closed = rw (m.write.off x n) (m.write.old _ h.closed);
    first = rw (m.write.off x n) h.first;
    last = rw (m.write.off x n) h.last;
    rises = rw (succ_off m.write x n) h.rises;
    gone = λ z. gone_off m.write n (h.gone (marked_off m.write n z));
    reach = λ a b o. let o' = open_off m.write n o in swing_reach (swing_gap k o' b) g.one (h.reach a b o');
  }

  swing_p : RowFacts (put w f P) p
  swing_p = record {
    closed = rw m.write.at m.mine;
    first = λ a b. absurd (omega (arith, not_low, b));
    last = λ a. absurd (omega (arith, m.high, a));
    rises = λ a b. rw put_succ_p (m.above, top_v m.kind);
    gone = λ z. absurd (omega (arith, rw m.write.at at z, m.above));
    reach = λ a b o. swing_reach (λ l. absurd (omega arith)) g.one ((g.each p m.write.row.known).reach a b m.write.free);
  }

  swing_v : FreshItem w e v → RowFacts (put w f P) v
  swing_v h = let q = put_succ_v h in record {
    closed = rw q.0 (m.write.old _ ahead.0.known);
    first = λ a b. absurd (omega (arith, not_low, m.above, b));
    last = λ a. absurd (omega (arith, h.less, ahead.2, a));
    rises = λ a b. rw q.1 (h.less, ahead.2);
    gone = λ z. absurd (omega (arith, rw q.0 at z, ahead.0.pos));
    reach = λ a b o. subst (λ y. Reach (put w f P) y 1) put_succ_p
        (reach_snoc m.high (swing_p.reach not_low (omega (arith, m.high)) (rw m.write.at (omega (arith, m.above)))));
  }

  pub swing_good : Intact (put w f P)
  swing_good = put_good m.write g (λ x h. go x (m.new x h))
    where
      go : (x : ℕ) → w.Pub x ⊎ ((x ≡ v) × FreshItem w e v) → RowFacts (put w f P) x
      go x (inl h) = by_row x p (λ k. subst (RowFacts (put w f P)) (sym k) swing_p) (λ n. swing_old x n h (g.each x h))
      go x (inr k) = subst (RowFacts (put w f P)) (sym k.0) (swing_v k.1)

  -- a row that is on the list after the swing was not passed by
  pub swing_over : {y : ℕ} → w.Pub y → Reach (put w f P) y 1 → w.rank p < w.rank y → w.rank e ≤ w.rank y
  swing_over {y} k t h =
      let to_p = swing_p.reach not_low (omega (arith, m.high)) (rw m.write.at (omega (arith, m.above))) in
      past (reach_linear swing_good swing_good.one to_p t (omega arith))
    where
      at_v : (v ≡ e) ⊎ FreshItem w e v → Reach (put w f P) y v → w.rank e ≤ w.rank y
      at_v (inl q) s = reach_le swing_good (row_put m.write ahead.0) (subst (Reach (put w f P) y) q s)
      at_v (inr h) (stop q) = absurd (h.fresh (subst w.Pub (sym q) k))
      at_v (inr h) (step l s) = reach_le swing_good (row_put m.write ahead.0) (subst (Reach (put w f P) y) (put_succ_v h).1 s)

      past : Reach (put w f P) y p → w.rank e ≤ w.rank y
      past (stop q) = absurd (omega (arith, ap w.rank q))
      past (step l s) = at_v m.kind (subst (Reach (put w f P) y) put_succ_p s)

  -- so it is reached from where it was
  pub swing_stays : {y a : ℕ} → w.Pub y → Proper w a → Reach w y a → Reach (put w f P) y 1 → Reach (put w f P) y a
  swing_stays k ρ r t = swing_reach (swing_over k t) ρ r

  -- and it was on the list before
  pub swing_back : {y a : ℕ} → w.Pub y → Reach (put w f P) y a → Reach w y a
  swing_back k (stop q) = stop q
  swing_back {y} k (step {a = a} l r) = by_row a p
      (λ q. step l (subst (Reach w y) (sym (ap (succ w) q ∙ succ_p)) (chunk_reach g (g.each p m.write.row.known).closed m.chunk
      (from_v m.kind (subst (Reach w y) (ap (succ (put w f P)) q ∙ put_succ_p) (swing_back k r))))))
      (λ n. step l (subst (Reach w y) (succ_off m.write a n) (swing_back k r)))
    where
      from_v : (v ≡ e) ⊎ FreshItem w e v → Reach w y v → Reach w y e
      from_v (inl q) s = subst (Reach w y) q s
      from_v (inr h) (stop q) = absurd (h.fresh (subst w.Pub (sym q) k))
      from_v (inr h) (step j s) = subst (Reach w y) (succ_open w v (rw h.nxt ahead.0.pos) ∙ h.nxt) s

-- Each removed row that still stands on the list has a party that will see to it; so where all parties are idle, no removed row is on the list.
-- Assumes nothing.
use Prim.{Unit, tt}
use Prim.Native.Nat.{ℕ, zero, suc, ◌+◌, ◌≤◌, ◌<◌}
use mathlib.Core.Path.{◌≡◌, refl, sym, ap, subst, ◌∙◌}
use mathlib.Core.Logic.{◌⊎◌, inl, inr, ◌≢◌}
use mathlib.Core.Bool.{Bool, false, true≢false}
use native.Mathlib.Decide.{dec_le, dec_lt}
use native.Mathlib.Omega.{arith}
use lib.ListN.{length}
use borrow.Author.Tests.{eqb-true}
use Rattle.list_rows.specs.Table.{Table, kind_at, next_at, is_splice}
use Rattle.list_rows.specs.Order.{rank}
use Rattle.calls.specs.declared.Call.TheVariants.{Remove}
use Rattle.list_party.specs.declared.Place.{Place}
use Rattle.list_party.specs.declared.Place.TheVariants.{Idle, Walk, Clean, Back}
use Rattle.list_party.specs.declared.Party.{Party}
use Rattle.list_moves.specs.declared.Moved.{Moved}
use Rattle.list_unchecked.specs.Unchecked.{Machine, party_of, carried}
use Rattle.list_form.proofs.Good.{Rows}
use Rattle.list_world.proofs.World.{World, Intact, Proper, Removed, Open, Reach, stop, step, succ}
use Rattle.list_world.proofs.Extends.{Extends}
use Rattle.list_world.proofs.Live.{Change, still, gain, lose}
use Rattle.list_world.proofs.WorldLaws.{row_succ, succ_open, reach_linear, reach_snoc}
use Rattle.logic.proofs.Cases.{by_row}
use Rattle.list_world.proofs.Swap.{swing_over}
use Rattle.list_world.proofs.ExtendsLaws.{row_ext}
use Rattle.list_world.proofs.WalkLaws.{at_c, walk_from, walk_on, walk_past, track_on, track_end}
use Rattle.list_grown.specs.Deeds.{Deed, called, read, add_won, mark_won, clean_won, lost}
use Rattle.list_grown.specs.Rest.{row_after}
use Rattle.list_grown.proofs.Party.{At}
use Rattle.list_grown.proofs.View.{View, world, Inv, Steady}
use Rattle.list_grown.proofs.Machine.{view_of, world_of, change_of}
use Rattle.list_grown.proofs.Does.{Does, does, passes, steps, cut_other, cut_late, cut_ready, cut_again, cut_done, mark_wins, clean_wins, clean_loses}
use Rattle.list_grown.proofs.Does.{backs, back_ends, add_finds, add_loses, add_ready, add_skips, add_wins, look_finds, look_late, look_other}
use Rattle.list_grown.proofs.Does.{look_passes, look_steps, mark_loses, rereads, rereads_late, skip_ends, skips}
use Rattle.list_grown.proofs.Steps.{clean_swings}
use Rattle.list_grown.proofs.Advance.{Advances, moves, spares, takes, asks, Advanced, party_after}
use Rattle.list_grown.proofs.Listing.{behind_is, no_splice}

-- ---- who sees to a removed row

-- q is a REMOVE that has marked row x and has not yet answered; while it walks, x is still ahead of it
pub data Tends (w : World) (q : Party) (x : ℕ) : Place → Type 0 where
  at_walk : {k : ℕ} → w.rank x ≡ 3 + k → q.unpublished ≡ false → Proper w q.c → Reach w x q.c → Tends w q x (Walk Remove k)
  at_clean : {k : ℕ} → w.rank x ≡ 3 + k → Tends w q x (Clean Remove k)
  at_back : {k : ℕ} → w.rank x ≡ 3 + k → Tends w q x (Back Remove k)

-- its own row is the splice that stands in x
abbrev pub Cares : World → Party → ℕ → Type 0
Cares w q x = (q.own ≡ w.next x) × Tends w q x q.place

pub record Neat (σ : View) : Type 0 where
  pub tended : (x : ℕ) → (world σ).Pub x → Removed (world σ) x → Reach (world σ) x 1 → (j : ℕ) × Cares (world σ) (σ.party j) x

-- where no removed row is on the list
pub neat_start : {σ : View} → ((x : ℕ) → (world σ).Pub x → Reach (world σ) x 1 → Removed (world σ) x → ⊥) → Neat σ
neat_start none = record { tended = λ x p k r. absurd (none x p r k) }

idle_tends : {w : World} {q : Party} {x : ℕ} → Tends w q x Idle → ⊥
idle_tends = elim [ ]

pub at_rest : (orphan : ℕ → Bool) (m : Machine) → Neat (view_of orphan m) → ((j : ℕ) → (party_of m j).place ≡ Idle) → (x : ℕ) →
    (world_of orphan m).Pub x → Reach (world_of orphan m) x 1 → Removed (world_of orphan m) x → ⊥
at_rest orphan m n idle x p r k = let a = n.tended x p k r in idle_tends (rw (idle a.0) at a.1.1)

-- a event of another party leaves this so, as long as x is on the list
tends_ext : {w w' : World} {q : Party} {x : ℕ} {l : Place} → Intact w → Extends w w' → w.Pub x → Reach w' x 1 → Tends w q x l → Tends w' q x l
tends_ext {q = q} {x = x} g t p r (at_walk e f ρ c) = at_walk (t.rank x p ∙ e) f (row_ext g t ρ) (t.stays q.c x ρ p c r)
tends_ext {x = x} g t p r (at_clean e) = at_clean (t.rank x p ∙ e)
tends_ext {x = x} g t p r (at_back e) = at_back (t.rank x p ∙ e)

-- ---- what a event has to show

-- if a rank goes, the party that has taken it out cares for its row
abbrev Takes : World → Party → Change → Type 0
Takes w q still = Unit {0}
Takes w q (gain K) = Unit {0}
Takes w q (lose K z) = (x : ℕ) → w.rank x ≡ K → w.next x ≡ z → Cares w q x

-- of the party i that makes the event; the others stay as they are
record Neatly (σ σ' : View) (i : ℕ) (d : Change) : Type 0 where
  keeps : (x : ℕ) → (world σ).Pub x → Reach (world σ) x 1 → Reach (world σ') x 1 → Cares (world σ) (σ.party i) x → Cares (world σ) (σ'.party i) x
  fresh : Takes (world σ') (σ'.party i) d

neat_move : {σ σ' : View} {d : Change} (i : ℕ) → Inv σ → Neat σ → Steady σ σ' d → ((j : ℕ) → j ≢ i → σ'.party j ≡ σ.party j) → Neatly σ σ' i d → Neat σ'
neat_move {σ} {σ'} {d} i v n t others o = record { tended = λ x p k r. go x r (t.marks x p k) }
  where
    still_cares : (x : ℕ) → (world σ).Pub x → Removed (world σ) x → Reach (world σ') x 1 → (q : Party) → Cares (world σ) q x → Cares (world σ') q x
    still_cares x p k r q c = (c.0 ∙ sym (t.ext.next x p k), tends_ext v.good t.ext p r c.1)

    go : (x : ℕ) → Reach (world σ') x 1 → ((world σ).Pub x × Removed (world σ) x) ⊎ ((d ≡ lose (σ'.rank x) (σ'.next x)) × ((world σ).Pub (σ'.next x) → ⊥))
        → (j : ℕ) × Cares (world σ') (σ'.party j) x
    go x r (inr e) = (i, subst (Takes (world σ') (σ'.party i)) e.0 o.fresh x refl refl)
    go x r (inl e) =
        let before = t.ext.came x e.0 r in
        let a = n.tended x e.0 e.1 before in
        by_row a.0 i
        (λ d. (i, still_cares x e.0 e.1 r (σ'.party i) (o.keeps x e.0 before r (rw d at a.1))))
        (λ d. (a.0, rw (others a.0 d) (still_cares x e.0 e.1 r (σ.party a.0) a.1)))

-- a party that makes a call cared for no row
called_neatly : {σ σ' : View} (i : ℕ) → (σ.party i).place ≡ Idle → Neatly σ σ' i still
called_neatly i idle = record { keeps = λ x p r s c. absurd (idle_tends (rw idle at c.1)); fresh = tt }

-- ---- the moves

-- what is on the list above an open row is reached from the next of that row
onto_next : {w : World} → Intact w → {p x : ℕ} → Proper w p → Open w p → w.rank p < w.rank x → w.rank x ≤ w.rank 2 → Reach w x 1 → Reach w x (w.next p)
onto_next {w} g {p} {x} ρ o low high r = go (dec_le (w.rank 1) (w.rank p))
  where
    past : Reach w x p → Reach w x (w.next p)
    past (stop e) = absurd (omega (arith, ap w.rank e))
    past (step l s) = subst (Reach w x) (succ_open w p o) s

    go : Dec (w.rank 1 ≤ w.rank p) → Reach w x (w.next p)
    go (yes l) = past (reach_linear g g.one ((g.each p ρ.known).reach l (omega arith) o) r (omega arith))
    go (no l) = subst (Reach w x) (sym ((g.each p ρ.known).first ρ.pos (omega arith))) r

module _ (orphan : ℕ → Bool) (m : Machine) where
  abbrev t : Table
  t = m.table

  abbrev w : World
  w = world_of orphan m

  module _ (v : Inv (view_of orphan m)) (z : Rows m.state.taken t) where
    abbrev g : Intact w
    g = v.good

    module _ (i : ℕ) (h : i < length m.state.parties) where
      abbrev q : Party
      q = party_of m i

      -- a party that cares for a row does so after its move too, unless the row is off the list: by its CLEAN, or when it answers yes without one
      does_cares : {l : Place} {moved : Moved} {deed : Deed} (x : ℕ) → Does t q l moved deed → At w q l → w.Pub x → Reach w x 1 →
          Reach (world_of orphan (carried m i moved).after) x 1 → q.own ≡ w.next x → Tends w q x l → Cares w moved.party x
      does_cares x (passes b M) a p r s o (at_walk e f ρ c) = (o, at_walk e f (at_c g (walk_past g a.0 M)).0 (rw M at (track_on g e c b)))
      does_cares x (steps b u) a p r s o (at_walk e f ρ c) =
          (o, at_walk e f (at_c g (walk_on g a.0 b u)).0 (rw (succ_open w q.c u) at (track_on g e c b)))
      does_cares x (cut_other f b n) a p r s o (at_walk e u ρ c) = absurd (true≢false (sym f ∙ u))
      does_cares x (cut_late f b M) a p r s o (at_walk e u ρ c) = absurd (true≢false (sym f ∙ u))
      does_cares x (cut_ready f b n) a p r s o (at_walk e u ρ c) = absurd (true≢false (sym f ∙ u))
      does_cares x (cut_again f b y) a p r s o (at_walk e u ρ c) = (o, at_clean e)
      does_cares x (cut_done f b n) a p r s o (at_walk e u ρ c) = absurd (n (ap w.next (track_end g e ρ c b) ∙ sym o))
      does_cares x (clean_wins {k} y) a p r s o (at_clean e) =
          let past = swing_over g (clean_swings orphan m v z i h k a.0 a.1 a.2 y) p s (omega (arith, a.0.behind.low)) in
          absurd (omega (arith, a.1, past))
      does_cares x (clean_loses n) a p r s o (at_clean e) = (o, at_back e)
      does_cares x (backs M) a p r s o (at_back e) = (o, at_back e)
      does_cares x (back_ends u) a p r s o (at_back e) =
          (o, at_walk e a.1.shown (walk_from g a.0 u).row (onto_next g a.0.row u (omega (arith, a.0.low)) (omega (arith, a.0.key)) r))
      does_cares x (add_skips {k = k} _ _) a p r s o x22 = elim x22 [ ]
      does_cares x (add_finds {k = k} _ _) a p r s o x23 = elim x23 [ ]
      does_cares x (add_ready {k = k} _ _) a p r s o x24 = elim x24 [ ]
      does_cares x (skips {k = k} _) a p r s o x21 = elim x21 [ ]
      does_cares x (skip_ends {k = k} _) a p r s o x22 = elim x22 [ ]
      does_cares x (add_wins {k = k} _) a p r s o x23 = elim x23 [ ]
      does_cares x (add_loses {k = k} _) a p r s o x24 = elim x24 [ ]
      does_cares x (mark_wins {k = k} _) a p r s o x25 = elim x25 [ ]
      does_cares x (mark_loses {k = k} _) a p r s o x26 = elim x26 [ ]
      does_cares x (rereads_late {k = k} _) a p r s o x27 = elim x27 [ ]
      does_cares x (rereads {k = k} _) a p r s o x28 = elim x28 [ ]
      does_cares x (look_passes {k = k} _ _) a p r s o x33 = elim x33 [ ]
      does_cares x (look_steps {k = k} _ _) a p r s o x34 = elim x34 [ ]
      does_cares x (look_other {k = k} _ _) a p r s o x35 = elim x35 [ ]
      does_cares x (look_late {k = k} _ _) a p r s o x36 = elim x36 [ ]
      does_cares x (look_finds {k = k} _ _) a p r s o x37 = elim x37 [ ]

      -- a REMOVE that wins its MARK goes to CLEAN
      does_takes : {l : Place} {moved : Moved} (deed : Deed) (w' : World) → Does t q l moved deed → Takes w' moved.party (change_of deed q.own)
      does_takes called w' d = tt
      does_takes read w' d = tt
      does_takes (add_won key) w' d = tt
      does_takes (mark_won key) w' (mark_wins y) = λ x e o. (sym o, at_clean e)
      does_takes clean_won w' d = tt
      does_takes lost w' d = tt

      moved_neatly : {moved : Moved} {deed : Deed} → Does t q q.place moved deed →
          Neatly (view_of orphan m) (view_of orphan (carried m i moved).after) i (change_of deed q.own)
      moved_neatly {moved} {deed} d = record {
        keeps = λ x p r s c. rw (party_after m i h moved) (does_cares x d (v.holds i) p r s c.0 c.1);
        fresh = rw (party_after m i h moved) (does_takes deed _ d);
      }

      neatly : {m' : Machine} {deed : Deed} → Advances m i m' deed → Neatly (view_of orphan m) (view_of orphan m') i (change_of deed q.own)
      neatly (moves busy) = moved_neatly (does t q w q.place busy (v.holds i))
      neatly (spares call key is fits idle f) = called_neatly i idle
      neatly (takes call key is fits idle f room) = called_neatly i idle
      neatly (asks key fits idle) = called_neatly i idle

      pub neat_event : Neat (view_of orphan m) → {m' : Machine} {deed : Deed} → Advances m i m' deed → Advanced orphan m i m' deed → Neat (view_of orphan m')
      neat_event n advance u = neat_move i v n u.steady u.others (neatly advance)

    -- ---- the chain at rest

    -- row 3 is an end: behind row 2 the chain does not come back to the items
    row_three : w.rank 2 < w.rank 3
    unfolding rank
    row_three = rw (eqb-true (kind_at t 3) 1 (z.kinds 3 (omega (arith, z.ends, z.room)))) (omega (arith, v.scale.1))

    module _ (neat : Neat (view_of orphan m)) (idle : (j : ℕ) → (party_of m j).place ≡ Idle) where
      -- a row of the chain: on the list, or behind it
      abbrev Follows : ℕ → Type 0
      Follows row = Proper w row × (w.rank row < w.rank 2 → Reach w row 1)

      -- removed rows rank below row 2
      stands : (row : ℕ) → Follows row → Open w row
      stands row a =
          let k : w.rank (w.next row) ≢ 0 =
          λ e. at_rest orphan m neat idle row a.0.known (a.1 ((g.each row a.0.known).gone e).high) e in omega (arith, k)

      next_follows : (row : ℕ) → Follows row → Dec (w.rank row < w.rank 2) → Follows (succ w row)
      next_follows row a (yes l) = (row_succ g a.0 l, λ b. reach_snoc l (a.1 l))
      next_follows row a (no l) =
          rw (succ_open w row (stands row a), (g.each row a.0.known).last (omega arith)) (g.three, λ b. absurd (omega (arith, row_three)))

      follows : (n : ℕ) → Follows (row_after t n)
      unfolding row_after
      follows zero = (g.one, λ b. stop refl)
      follows (suc n) = let row = row_after t n in rw (behind_is orphan m row) (next_follows row (follows n) (dec_lt (w.rank row) (w.rank 2)))

      -- no row of the chain is removed
      pub rest_clean : (n : ℕ) → is_splice t (next_at t (row_after t n)) ≡ false
      rest_clean n = no_splice t (next_at t (row_after t n)) (stands (row_after t n) (follows n))

-- As long as its key is live, a REMOVE that has not marked, or a CONTAINS, has the key's row before it, and so it does not say no.
-- Assumes nothing.
use Prim.{Unit, tt}
use Prim.Native.Nat.{ℕ, ◌+◌, ◌<◌}
use mathlib.Core.Path.{◌≡◌, refl, sym, ap, subst, ◌∙◌}
use mathlib.Core.Logic.{◌⊎◌, inl, inr}
use mathlib.Core.Bool.{Bool, true, false, true≢false}
use native.Mathlib.Omega.{arith}
use lib.ListN.{length, get_or, set}
use lib.Seq.{get_or-set_same}
use Rattle.calls.specs.declared.Call.TheVariants.{Remove, Contains}
use Rattle.list_party.specs.declared.Place.{Place}
use Rattle.list_party.specs.declared.Place.TheVariants.{Idle, Walk, Mark, Reread, Look}
use Rattle.list_party.specs.declared.Party.{Party}
use Rattle.list_party.specs.Party.{blank, is_idle}
use Rattle.list_unchecked.specs.Unchecked.{starting}
use Rattle.list_grown.proofs.Places.{looking}
use Rattle.calls.specs.declared.Said.{Said}
use Rattle.calls.specs.declared.Said.TheVariants.{Nothing, Yes, No}
use Rattle.list_moves.specs.declared.Moved.{Moved}
use Rattle.list_moves.specs.Moves.{move_at}
use Rattle.list_unchecked.specs.Unchecked.{Machine, party_of, carried}
use Rattle.list_world.proofs.World.{World, Open, Reach, Proper, Intact, succ}
use Rattle.list_world.proofs.Live.{LiveRank, Change, gain, lose, Effect}
use Rattle.list_world.proofs.WorldLaws.{row_succ, succ_open}
use Rattle.logic.proofs.Cases.{by_row}
use Rattle.list_world.proofs.WalkLaws.{at_c, track_on, track_ext}
use Rattle.list_grown.specs.Deeds.{Deed}
use Rattle.list_grown.proofs.Party.{At}
use Rattle.list_grown.proofs.View.{View, world, Inv, Steady}
use Rattle.list_grown.proofs.Machine.{view_of, world_of, change_of}
use Rattle.list_grown.proofs.Does.{Does, does, passes, steps, cut_ready, cut_again, mark_wins, mark_loses, rereads, look_passes, look_steps}
use Rattle.list_grown.proofs.Does.{add_finds, add_loses, add_ready, add_skips, add_wins, back_ends, backs, clean_loses, clean_wins, cut_done}
use Rattle.list_grown.proofs.Does.{cut_late, cut_other, look_finds, look_late, look_other, rereads_late, skip_ends, skips}
use Rattle.list_grown.proofs.Advance.{begun, asking, Advances, moves, spares, takes, asks, Advanced, party_after}
use Rattle.list_grown.proofs.Replies.{Missed, Told, cut_no, reread_no, look_no, said_by, move_reply, add_no}

-- ---- who looks for a key

-- the places of a REMOVE that has not marked, and of a CONTAINS, for the key of rank K
pub data Seeks (q : Party) (K : ℕ) : Place → Type 0 where
  walks : {k : ℕ} → 3 + k ≡ K → q.unpublished ≡ true → Seeks q K (Walk Remove k)
  marks : {k : ℕ} → 3 + k ≡ K → Seeks q K (Mark Remove k)
  again : {k : ℕ} → 3 + k ≡ K → Seeks q K (Reread Remove k)
  looks : {k : ℕ} → 3 + k ≡ K → Seeks q K (Look Contains k)

busy : {q : Party} {K : ℕ} {l : Place} → Seeks q K l → is_idle l ≡ false
busy (walks e f) = refl
busy (marks e) = refl
busy (again e) = refl
busy (looks e) = refl

not_idle : {q : Party} {K : ℕ} {l : Place} → Seeks q K l → l ≡ Idle → ⊥
not_idle s e = true≢false (sym (ap is_idle e) ∙ busy s)

row_c : {w : World} {q : Party} {K : ℕ} {l : Place} → Intact w → Seeks q K l → At w q l → Proper w q.c
row_c g (walks e f) a = (at_c g a.0).0
row_c g (marks e) a = (at_c g a.0).0
row_c g (again e) a = (at_c g a.0).0
row_c g (looks e) a = a.1

-- what a call of REMOVE or of CONTAINS with key k leaves
pub data Starts (m : Machine) (i k : ℕ) : Machine → Type 0 where
  removes : (own taken : ℕ) → Starts m i k (begun m i own taken Remove k)
  asks_for : Starts m i k (asking m i k)

-- ---- what it has before it

-- the live row of rank K is reached from c
abbrev pub Track : World → ℕ → ℕ → Type 0
Track w K c = (y : ℕ) → w.Pub y → w.rank y ≡ K → Open w y → Reach w y c

-- at MARK and REREAD c has the rank of the key, so that the row reached is c itself
pub record Tracks (w : World) (q : Party) (K : ℕ) : Type 0 where
  pub seeks : Seeks q K q.place
  pub live : LiveRank w K
  pub track : Track w K q.c

-- a call starts at row 1, from which every live row is reached
from_one : {w : World} {q : Party} {K : ℕ} → Intact w → Seeks q K q.place → q.c ≡ 1 → LiveRank w K → Tracks w q K
from_one g s e l = record {
  seeks = s;
  live = l;
  track = λ y p is o. rw e ((g.each y p).reach (omega (arith, l.low)) (omega (arith, l.high)) o);
}

reached : {w : World} {K c : ℕ} → LiveRank w K → Track w K c → Missed w K c → ⊥
reached l t n = n l.row l.known l.is l.free (t l.row l.known l.is l.free)

-- so it does not say no
not_no : {w : World} {q : Party} {K : ℕ} {l : Place} → Told w q l No → Seeks q K l → LiveRank w K → Track w K q.c → ⊥
not_no (cut_no n) (walks e f) live t = reached live t (rw e at n)
not_no (reread_no n) (again e) live t = reached live t (rw e at n)
not_no (look_no n) (looks e) live t = reached live t (rw e at n)
not_no {w = w} {q = q} {K = K} (add_no {k = k} _) x12 live t = elim x12 [ ]

-- ---- a event that leaves the key live

-- q looks for the key, and the key's row is reached from where it stands, if it is from c
record Onto (w : World) (K c : ℕ) (q : Party) : Type 0 where
  seeks : Seeks q K q.place
  row : Proper w q.c
  reach : (y : ℕ) → w.rank y ≡ K → Reach w y c → Reach w y q.c

stays : {w : World} {K c : ℕ} → Proper w c → (q : Party) → Seeks q K q.place → q.c ≡ c → Onto w K c q
stays ρ q s e = record { seeks = s; row = rw e ρ; reach = λ y is r. rw e r }

module _ {σ σ' : View} {d : Change} {K : ℕ} (v : Inv σ) (t : Steady σ σ' d) (live : LiveRank (world σ) K) where
  -- no other row gets that rank, since a rank that is gained was not live
  track_kept : {c : ℕ} → Proper (world σ) c → Track (world σ) K c → Track (world σ') K c
  track_kept {c} ρ f y k e o = go (t.news y k (omega (arith, live.low, e)))
    where
      go : (world σ).Pub y ⊎ (d ≡ gain (σ'.rank y)) → Reach (world σ') y c
      go (inl p) = let was : σ.rank y ≡ K = sym (t.ext.rank y p) ∙ e in
          track_ext v.good t.inv.good t.ext ρ p (omega (arith, live.low)) (omega (arith, live.high)) o (f y p was (t.ext.opens y p o))
      go (inr is) = absurd ((subst (Effect (world σ) (world σ')) (is ∙ ap gain e) t.live).0 live)

  tracks_kept : {c : ℕ} {q : Party} → Onto (world σ) K c q → Track (world σ) K c → LiveRank (world σ') K → Tracks (world σ') q K
  tracks_kept o f l = record { seeks = o.seeks; live = l; track = track_kept o.row (λ y p e u. o.reach y e (f y p e u)) }

-- ---- a party's own move

-- nothing is said yet
abbrev Going : Said → Type 0
Going Nothing = Unit {0}
Going Yes = ⊥
Going No = ⊥

module _ (orphan : ℕ → Bool) (m : Machine) (v : Inv (view_of orphan m)) (i : ℕ) where
  abbrev w : World
  w = world_of orphan m

  abbrev q : Party
  q = party_of m i

  -- as long as the key is live, no is not said
  pub no_missed : {K : ℕ} → Tracks w q K → said_by m i ≡ No → ⊥
  no_missed s e = not_no (subst (Told w q q.place) e (move_reply orphan m v i (busy s.seeks))) s.seeks s.live s.track

  module _ {K : ℕ} (live : LiveRank w K) (ρ : Proper w q.c) where
    goes_on_lem : (q' : Party) → Seeks q' K q'.place → w.rank q.c < K → q'.c ≡ succ w q.c → Onto w K q.c q'
    goes_on_lem q' s b e = record { seeks = s; row = rw e (row_succ v.good ρ (omega (arith, live.high))); reach = λ y is r. rw e (track_on v.good is r b) }

    -- it still looks for the key, or it has taken it out
    follows : {l : Place} {moved : Moved} {deed : Deed} → Does m.table q l moved deed → Seeks q K l → Going moved.said →
        (change_of deed q.own ≡ lose K q.own) ⊎ Onto w K q.c moved.party
    follows (passes b M) (walks e f) g = inr (goes_on_lem _ (walks e f) (omega arith) (rw M))
    follows (steps b o) (walks e f) g = inr (goes_on_lem _ (walks e f) (omega arith) (sym (succ_open w q.c o)))
    follows (cut_ready f b o) (walks e u) g = inr (stays ρ _ (marks e) refl)
    follows (cut_again f b d) (walks e u) g = absurd (true≢false (sym u ∙ f))
    follows (mark_wins d) (marks e) g = inl (ap (λ r. lose r q.own) e)
    follows (mark_loses n) (marks e) g = inr (stays ρ _ (again e) refl)
    follows (rereads o) (again e) g = inr (stays ρ _ (marks e) refl)
    follows (look_passes b M) (looks e) g = inr (goes_on_lem _ (looks e) (omega arith) (rw M))
    follows (look_steps b o) (looks e) g = inr (goes_on_lem _ (looks e) (omega arith) (sym (succ_open w q.c o)))
    follows (add_skips {k = k} _ _) x14 g = elim x14 [ ]
    follows (add_finds {k = k} _ _) x15 g = elim x15 [ ]
    follows (add_ready {k = k} _ _) x16 g = elim x16 [ ]
    follows (cut_other {k = k} _ _ _) _ g = elim g [ ]
    follows (cut_late {k = k} _ _ _) _ g = elim g [ ]
    follows (cut_done {k = k} _ _ _) _ g = elim g [ ]
    follows (skips {k = k} _) x16 g = elim x16 [ ]
    follows (skip_ends {k = k} _) x17 g = elim x17 [ ]
    follows (add_wins {k = k} _) x18 g = elim x18 [ ]
    follows (add_loses {k = k} _) x19 g = elim x19 [ ]
    follows (rereads_late {k = k} _) _ g = elim g [ ]
    follows (clean_wins {k = k} _) x21 g = elim x21 [ ]
    follows (clean_loses {k = k} _) x22 g = elim x22 [ ]
    follows (backs {call = call} {k = k} _) x23 g = elim x23 [ ]
    follows (back_ends {call = call} {k = k} _) x24 g = elim x24 [ ]
    follows (look_other {k = k} _ _) _ g = elim g [ ]
    follows (look_late {k = k} _ _) _ g = elim g [ ]
    follows (look_finds {k = k} _ _) _ g = elim g [ ]

  -- a key that is still live has not been taken out
  own_move : {K : ℕ} {moved : Moved} {deed : Deed} (m' : Machine) → party_of m' i ≡ moved.party → Does m.table q q.place moved deed →
      Steady (view_of orphan m) (view_of orphan m') (change_of deed q.own) → Going moved.said → Tracks w q K → LiveRank (world_of orphan m') K →
      Tracks (world_of orphan m') (party_of m' i) K
  own_move {K} {moved} {deed} m' is d t g s l = go (follows s.live (row_c v.good s.seeks (v.holds i)) d s.seeks g)
    where
      go : (change_of deed q.own ≡ lose K q.own) ⊎ Onto w K q.c moved.party → Tracks (world_of orphan m') (party_of m' i) K
      go (inl e) = absurd ((((subst (Effect w (world_of orphan m')) e t.live).1 K).0 l).1 refl)
      go (inr o) = rw is (tracks_kept v t s.live o s.track l)

  -- ---- events

  module _ (h : i < length m.state.parties) where
    now : (q' : Party) → get_or (set m.state.parties i q') i blank ≡ q'
    now q' = get_or-set_same m.state.parties i q' blank h

    pub track_starts : {k : ℕ} {m' : Machine} → Starts m i k m' → Inv (view_of orphan m') → LiveRank (world_of orphan m') (3 + k) →
        Tracks (world_of orphan m') (party_of m' i) (3 + k)
    track_starts {k} (removes own taken) v' l = rw (now (starting Remove k own)) (from_one v'.good (walks refl refl) refl l)
    track_starts {k} asks_for v' l = rw (now (looking q Contains k 1)) (from_one v'.good (looks refl) refl l)

    own_event : {K : ℕ} {m' : Machine} {deed : Deed} → Advances m i m' deed → Advanced orphan m i m' deed → said_by m i ≡ Nothing → Tracks w q K →
        LiveRank (world_of orphan m') K → Tracks (world_of orphan m') (party_of m' i) K
    own_event (moves b) t e s l =
        let moved = move_at q.place m.table q in
        own_move (carried m i moved).after (party_after m i h moved) (does m.table q w q.place b (v.holds i)) t.steady (subst Going (sym e) tt) s l
    own_event (spares call key is fits idle f) t e s l = absurd (not_idle s.seeks idle)
    own_event (takes call key is fits idle f room) t e s l = absurd (not_idle s.seeks idle)
    own_event (asks key fits idle) t e s l = absurd (not_idle s.seeks idle)

    -- a event of i, for any party j: another, or i itself if it does not answer
    pub track_goes : {K : ℕ} {m' : Machine} {deed : Deed} → Advances m i m' deed → Advanced orphan m i m' deed → (j : ℕ) → (j ≡ i → said_by m i ≡ Nothing) →
        Tracks w (party_of m j) K → LiveRank (world_of orphan m') K → Tracks (world_of orphan m') (party_of m' j) K
    track_goes advance t j e s l = by_row j i
        (λ is. rw is (own_event advance t (e is) (rw is at s) l))
        (λ n. rw (t.others j n) (tracks_kept v t.steady s.live (stays (row_c v.good s.seeks (v.holds j)) (party_of m j) s.seeks refl)
        s.track l))

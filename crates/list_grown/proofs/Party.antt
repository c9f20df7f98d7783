-- What holds of a party at each place: where it stands in the list, and what its own row is.
-- Assumes nothing.
use Prim.{Unit, tt}
use Prim.Native.Nat.{ℕ, ◌+◌, ◌≤◌, ◌<◌}
use mathlib.Core.Path.{◌≡◌, refl, ◌∙◌}
use mathlib.Core.Logic.{◌⊎◌, inl, inr, ⊎_elim}
use mathlib.Core.Bool.{Bool, true, false}
use Rattle.calls.specs.declared.Call.{Call}
use Rattle.calls.specs.declared.Call.TheVariants.{Add, Remove, Contains}
use Rattle.list_party.specs.declared.Place.{Place}
use Rattle.list_party.specs.declared.Place.TheVariants.{Idle, Walk, Skip, AddSwap, Mark, Reread, Clean, Back, Look}
use Rattle.list_party.specs.declared.Party.{Party}
use Rattle.list_world.proofs.World.{World, Proper, Intact}
use Rattle.list_world.proofs.Extends.{Extends}
use Rattle.list_world.proofs.Walk.{KeyRank, Below, OnWay}
use Rattle.list_world.proofs.ExtendsLaws.{row_ext}
use Rattle.list_world.proofs.WalkLaws.{key_ext, behind_ext, walking_ext, at_c}
use Rattle.list_grown.specs.Demands.{HoldsRow}

-- ---- the own row

-- own is an unpublished item of rank K
pub record OwnItem (w : World) (own : ℕ) (unpublished : Bool) (K : ℕ) : Type 0 where
  pub hidden : unpublished ≡ true
  pub is : w.rank own ≡ K

-- own is an unpublished splice that leads back to p
pub record OwnSplice (w : World) (own : ℕ) (unpublished : Bool) (p : ℕ) : Type 0 where
  pub hidden : unpublished ≡ true
  pub is : w.rank own ≡ 0
  pub behind : w.back own ≡ p

-- own is a published splice, and r the row after it
pub record OwnMark (w : World) (own : ℕ) (unpublished : Bool) (r : ℕ) : Type 0 where
  pub shown : unpublished ≡ false
  pub known : w.Pub own
  pub is : w.rank own ≡ 0
  pub nxt : w.next own ≡ r

-- at WALK: a REMOVE may have marked
abbrev pub Mine : World → Call → (own : ℕ) → Bool → (r K : ℕ) → Type 0
Mine w Add own unpublished r K = OwnItem w own unpublished K
Mine w Remove own unpublished r K = OwnItem w own unpublished K ⊎ OwnMark w own unpublished r
Mine w Contains own unpublished r K = ⊥

-- at BACK: a REMOVE has marked
abbrev pub Away : World → Call → (own : ℕ) → Bool → (r K : ℕ) → Type 0
Away w Add own unpublished r K = OwnItem w own unpublished K
Away w Remove own unpublished r K = OwnMark w own unpublished r
Away w Contains own unpublished r K = ⊥

-- at SKIP and ADDSWAP, which are an ADD's
abbrev pub Adds : World → Call → (own : ℕ) → Bool → (K : ℕ) → Type 0
Adds w Add own unpublished K = OwnItem w own unpublished K
Adds w Remove own unpublished K = ⊥
Adds w Contains own unpublished K = ⊥

-- at MARK and REREAD, which are a REMOVE's
abbrev pub Cuts : World → Call → (own : ℕ) → Bool → (p : ℕ) → Type 0
Cuts w Add own unpublished p = ⊥
Cuts w Remove own unpublished p = OwnSplice w own unpublished p
Cuts w Contains own unpublished p = ⊥

-- at CLEAN, which is a REMOVE's
abbrev pub Ends : World → Call → (own : ℕ) → Bool → (r : ℕ) → Type 0
Ends w Add own unpublished r = ⊥
Ends w Remove own unpublished r = OwnMark w own unpublished r
Ends w Contains own unpublished r = ⊥

-- at LOOK, which is a CONTAINS'
abbrev pub Looks : Call → Type 0
Looks Add = ⊥
Looks Remove = ⊥
Looks Contains = Unit {0}

pub away_mine : (w : World) (call : Call) (own : ℕ) (unpublished : Bool) (r K : ℕ) → Away w call own unpublished r K → Mine w call own unpublished r K
away_mine w Add own unpublished r K h = h
away_mine w Remove own unpublished r K h = inr h
away_mine w Contains own unpublished r K h = h

-- ---- place by place

abbrev pub At : World → Party → Place → Type 0
At w q Idle = Unit {0}
At w q (Walk call k) = OnWay w (3 + k) q.p q.n q.c × Mine w call q.own q.unpublished q.r (3 + k)
At w q (Skip call k) = OnWay w (3 + k) q.p q.n q.c × (3 + k < w.rank q.c) × Adds w call q.own q.unpublished (3 + k)
At w q (AddSwap call k) =
    OnWay w (3 + k) q.p q.n (w.next q.own) × (3 + k < w.rank (w.next q.own)) × Adds w call q.own q.unpublished (3 + k)
At w q (Mark call k) =
    OnWay w (3 + k) q.p q.n q.c × (w.rank q.c ≡ 3 + k) × Cuts w call q.own q.unpublished q.p
    × (w.next q.own ≡ q.s) × Proper w q.s
At w q (Reread call k) = OnWay w (3 + k) q.p q.n q.c × (w.rank q.c ≡ 3 + k) × Cuts w call q.own q.unpublished q.p
At w q (Clean call k) = OnWay w (3 + k) q.p q.n q.r × (3 + k < w.rank q.r) × Ends w call q.own q.unpublished q.r
At w q (Back call k) = Below w (3 + k) q.p × Away w call q.own q.unpublished q.r (3 + k)
At w q (Look call k) = KeyRank w (3 + k) × Proper w q.c × (w.rank q.c ≤ w.rank 2) × Looks call

-- ---- another party's event changes none of it

-- a row whose entries stay
pub record Keeps (w w' : World) (x : ℕ) : Type 0 where
  pub rank : w'.rank x ≡ w.rank x
  pub next : w'.next x ≡ w.next x
  pub back : w'.back x ≡ w.back x

module _ {w w' : World} (g : Intact w) (t : Extends w w') (q : Party) (own : (x : ℕ) → HoldsRow q x → Keeps w w' x) where
  kept : q.unpublished ≡ true → Keeps w w' q.own
  kept f = own q.own (f, refl)

  item_ext : {K : ℕ} → OwnItem w q.own q.unpublished K → OwnItem w' q.own q.unpublished K
  item_ext h = record { hidden = h.hidden; is = rw (kept h.hidden).rank h.is }

  knife_ext : OwnSplice w q.own q.unpublished q.p → OwnSplice w' q.own q.unpublished q.p
  knife_ext h = record { hidden = h.hidden; is = rw (kept h.hidden).rank h.is; behind = rw (kept h.hidden).back h.behind }

  done_ext : {r : ℕ} → OwnMark w q.own q.unpublished r → OwnMark w' q.own q.unpublished r
  done_ext h = record {
    shown = h.shown;
    known = t.known _ h.known;
    is = rw (t.rank _ h.known) h.is;
    nxt = (t.splice _ h.known h.is).0 ∙ h.nxt;
  }

  mine_ext : (call : Call) (K : ℕ) → Mine w call q.own q.unpublished q.r K → Mine w' call q.own q.unpublished q.r K
  mine_ext Add K h = item_ext h
  mine_ext Remove K h = ⊎_elim (λ a. inl (item_ext a)) (λ b. inr (done_ext b)) h
  mine_ext Contains K h = elim h [ ]

  away_ext : (call : Call) (K : ℕ) → Away w call q.own q.unpublished q.r K → Away w' call q.own q.unpublished q.r K
  away_ext Add K h = item_ext h
  away_ext Remove K h = done_ext h
  away_ext Contains K h = elim h [ ]

  adds_ext : (call : Call) (K : ℕ) → Adds w call q.own q.unpublished K → Adds w' call q.own q.unpublished K
  adds_ext Add K h = item_ext h
  adds_ext Remove K h = elim h [ ]
  adds_ext Contains K h = elim h [ ]

  cuts_ext : (call : Call) → Cuts w call q.own q.unpublished q.p → Cuts w' call q.own q.unpublished q.p
  cuts_ext Remove h = knife_ext h
  cuts_ext Add h = elim h [ ]
  cuts_ext Contains h = elim h [ ]

  ends_ext : (call : Call) → Ends w call q.own q.unpublished q.r → Ends w' call q.own q.unpublished q.r
  ends_ext Remove h = done_ext h
  ends_ext Add h = elim h [ ]
  ends_ext Contains h = elim h [ ]

  -- the own row of an ADD, and of a REMOVE that has not marked, is hidden
  adds_hidden : (call : Call) (K : ℕ) → Adds w call q.own q.unpublished K → q.unpublished ≡ true
  adds_hidden Add K h = h.hidden
  adds_hidden Remove K h = elim h [ ]
  adds_hidden Contains K h = elim h [ ]

  cuts_hidden : (call : Call) → Cuts w call q.own q.unpublished q.p → q.unpublished ≡ true
  cuts_hidden Remove h = h.hidden
  cuts_hidden Add h = elim h [ ]
  cuts_hidden Contains h = elim h [ ]

  rank_c : {K p n c : ℕ} → OnWay w K p n c → w'.rank c ≡ w.rank c
  rank_c {c = c} h = t.rank c (at_c g h).0.known

  pub at_ext : (l : Place) → At w q l → At w' q l
  at_ext Idle h = tt
  at_ext (Walk call k) h = (walking_ext g t h.0, mine_ext call (3 + k) h.1)
  at_ext (Skip call k) h = (walking_ext g t h.0, rw (rank_c h.0) h.1, adds_ext call (3 + k) h.2)
  at_ext (AddSwap call k) h =
      rw (kept (adds_hidden call (3 + k) h.2)).next (walking_ext g t h.0, rw (rank_c h.0) h.1, adds_ext call (3 + k) h.2)
  at_ext (Mark call k) h =
      (walking_ext g t h.0, rw (rank_c h.0) h.1, cuts_ext call h.2, (kept (cuts_hidden call h.2)).next ∙ h.3, row_ext g t h.4)
  at_ext (Reread call k) h = (walking_ext g t h.0, rw (rank_c h.0) h.1, cuts_ext call h.2)
  at_ext (Clean call k) h = (walking_ext g t h.0, rw (rank_c h.0) h.1, ends_ext call h.2)
  at_ext (Back call k) h = (behind_ext g t h.0, away_ext call (3 + k) h.1)
  at_ext (Look call k) h = (key_ext g t h.0, row_ext g t h.1, rw (t.rank _ h.1.known, t.rank 2 g.two.known) h.2, h.3)

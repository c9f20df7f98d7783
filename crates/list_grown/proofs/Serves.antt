-- From its call to its answer a party serves that call and its key, until a REMOVE marks.
-- Assumes nothing.
use Prim.Native.Nat.{ℕ, ◌+◌}
use mathlib.Core.Path.{◌≡◌, refl, sym, ◌∙◌}
use mathlib.Core.Logic.{◌⊎◌, inl, inr, ⊎_elim}
use mathlib.Core.Bool.{Bool, true, false, true≢false}
use native.Mathlib.Omega.{arith}
use borrow.Author.Tests.{eq-eqb}
use Rattle.calls.specs.declared.Call.{Call}
use Rattle.calls.specs.declared.Call.TheVariants.{Add, Remove, Contains}
use Rattle.list_party.specs.declared.Place.{Place}
use Rattle.list_party.specs.declared.Place.TheVariants.{Walk, Skip, AddSwap, Mark, Reread, Back, Look}
use Rattle.list_party.specs.declared.Party.{Party}
use Rattle.list_rows.specs.Table.{Table, next_at}
use Rattle.calls.specs.declared.Said.{Said}
use Rattle.calls.specs.declared.Said.TheVariants.{Nothing, Yes, No}
use Rattle.list_moves.specs.declared.Moved.{Moved}
use Rattle.list_unchecked.specs.Unchecked.{Machine}
use Rattle.calls.specs.Calls.{is_remove}
use Rattle.list_party.specs.Party.{is_idle}
use Rattle.list_world.proofs.World.{World}
use Rattle.list_world.proofs.Live.{LiveRank}
use Rattle.list_grown.specs.Deeds.{Deed, add_won, mark_won, deed_at}
use Rattle.list_grown.proofs.Machine.{world_of}
use Rattle.list_grown.proofs.Does.{Does, passes, steps, add_skips, add_finds, add_ready, cut_other, cut_late, cut_ready, cut_again, cut_done, skips}
use Rattle.list_grown.proofs.Does.{skip_ends, add_wins, add_loses, mark_wins, mark_loses, rereads_late, rereads, backs, back_ends, look_passes}
use Rattle.list_grown.proofs.Does.{look_steps, look_other, look_late, look_finds, clean_loses, clean_wins}
use Rattle.list_grown.proofs.Replies.{Told, add_yes, add_no, cut_yes, look_yes, clean_yes, cut_no, look_no, reread_no}
use Rattle.list_grown.proofs.Track.{Seeks, walks, marks, again, looks}

-- ---- places

-- the places of a call with key k, as long as own is not published: those of a REMOVE that has marked are left out
pub data Serves (q : Party) (k : ℕ) : Call → Place → Type 0 where
  walk : {call : Call} → q.unpublished ≡ true → Serves q k call (Walk call k)
  skip : q.unpublished ≡ true → Serves q k Add (Skip Add k)
  swap : q.unpublished ≡ true → Serves q k Add (AddSwap Add k)
  back : q.unpublished ≡ true → Serves q k Add (Back Add k)
  mark : Serves q k Remove (Mark Remove k)
  reread : Serves q k Remove (Reread Remove k)
  look : Serves q k Contains (Look Contains k)

-- ---- a move of the party

-- what a move makes of its call: a REMOVE marks, or the call goes on and nothing is said, or it is over
pub data Goes (k : ℕ) : Call → Deed → Said → Party → Type 0 where
  cuts : {q : Party} → Goes k Remove (mark_won k) Nothing q
  goes : {call : Call} {deed : Deed} {q : Party} → Serves q k call q.place → Goes k call deed Nothing q
  ends : {call : Call} {deed : Deed} {said : Said} {q : Party} → is_idle q.place ≡ true → Goes k call deed said q

pub does_goes : {t : Table} {q : Party} {k : ℕ} {call : Call} {l : Place} {moved : Moved} {deed : Deed} → Does t q l moved deed → Serves q k call l →
    Goes k call deed moved.said moved.party
does_goes (passes b o) (walk f) = goes (walk f)
does_goes (steps b o) (walk f) = goes (walk f)
does_goes (add_skips b o) (walk f) = goes (skip f)
does_goes (add_finds b o) (walk f) = ends refl
does_goes (add_ready b n) (walk f) = goes (swap f)
does_goes (cut_other u b n) (walk f) = ends refl
does_goes (cut_late u b o) (walk f) = ends refl
does_goes (cut_ready u b o) (walk f) = goes mark
does_goes (cut_again u b e) (walk f) = absurd (true≢false (sym f ∙ u))
does_goes (cut_done u b n) (walk f) = ends refl
does_goes (skips o) (skip f) = goes (skip f)
does_goes (skip_ends o) (skip f) = goes (swap f)
does_goes (add_wins e) (swap f) = ends refl
does_goes (add_loses n) (swap f) = goes (back f)
does_goes (mark_wins e) mark = cuts
does_goes (mark_loses n) mark = goes reread
does_goes (rereads_late o) reread = ends refl
does_goes (rereads o) reread = goes mark
does_goes (backs o) (back f) = goes (back f)
does_goes (back_ends o) (back f) = goes (walk f)
does_goes (look_passes b o) look = goes look
does_goes (look_steps b o) look = goes look
does_goes (look_other b n) look = ends refl
does_goes (look_late b o) look = ends refl
does_goes (look_finds b o) look = ends refl
does_goes {t = t} {q = q} {k = k} {call = call} (clean_wins _) x9 = elim x9 [ ]
does_goes {t = t} {q = q} {k = k} {call = call} (clean_loses _) x10 = elim x10 [ ]

-- a party that is still busy serves its call if it has not marked
pub marks_or_serves : {k : ℕ} {call : Call} {deed : Deed} {said : Said} {q : Party} → Goes k call deed said q →
    ((is_remove call ≡ true) × (deed ≡ mark_won k)) ⊎ (is_idle q.place ≡ false → Serves q k call q.place)
marks_or_serves cuts = inl (refl, refl)
marks_or_serves (goes s) = inr (λ busy. s)
marks_or_serves (ends e) = inr (λ busy. absurd (true≢false (sym e ∙ busy)))

-- who looks for a key serves a REMOVE or a CONTAINS
seeks_serves : {q : Party} {k : ℕ} {l : Place} → Seeks q (3 + k) l → Serves q k Remove l ⊎ Serves q k Contains l
seeks_serves {q} {k} (walks {k = j} e f) = let d : j ≡ k = omega arith in rw d (inl (walk f))
seeks_serves {q} {k} (marks {k = j} e) = let d : j ≡ k = omega arith in rw d (inl mark)
seeks_serves {q} {k} (again {k = j} e) = let d : j ≡ k = omega arith in rw d (inl reread)
seeks_serves {q} {k} (looks {k = j} e) = let d : j ≡ k = omega arith in rw d (inr look)

-- a party that is still busy has not answered
busy_silent : {k : ℕ} {call : Call} {deed : Deed} {said : Said} {q : Party} → Goes k call deed said q → is_idle q.place ≡ false → said ≡ Nothing
busy_silent cuts busy = refl
busy_silent (goes s) busy = refl
busy_silent (ends e) busy = absurd (true≢false (sym e ∙ busy))

-- so a party that looks for a key and is still busy after a move has said nothing
pub does_silent : {t : Table} {q : Party} (k : ℕ) {l : Place} {moved : Moved} {deed : Deed} → Does t q l moved deed → Seeks q (3 + k) l →
    is_idle moved.party.place ≡ false → moved.said ≡ Nothing
does_silent k d s busy = ⊎_elim (λ r. busy_silent (does_goes d r) busy) (λ r. busy_silent (does_goes d r) busy) (seeks_serves s)

-- ---- what an answer says of the call that it ends

module _ (orphan : ℕ → Bool) (m : Machine) where
  abbrev w : World
  w = world_of orphan m

  -- only a won add swap says yes to an ADD
  pub add_told : {q : Party} {k : ℕ} {l : Place} → Told w q l Yes → Serves q k Add l → deed_at l m.table q ≡ add_won k
  add_told {q} (add_yes e) (swap f) = rw (eq-eqb (next_at m.table q.p) q.n e)
  add_told {q = q} {k = k} (cut_yes _) x6 = elim x6 [ ]
  add_told {q = q} {k = k} clean_yes x5 = elim x5 [ ]
  add_told {q = q} {k = k} (look_yes _) x8 = elim x8 [ ]

  pub found_told : {q : Party} {k : ℕ} {l : Place} → Told w q l No → Serves q k Add l → LiveRank w (3 + k)
  found_told (add_no live) (walk f) = live
  found_told {q = q} {k = k} (cut_no _) x6 = elim x6 [ ]
  found_told {q = q} {k = k} (reread_no _) x7 = elim x7 [ ]
  found_told {q = q} {k = k} (look_no _) x8 = elim x8 [ ]

  pub look_told : {q : Party} {k : ℕ} {l : Place} → Told w q l Yes → Serves q k Contains l → LiveRank w (3 + k)
  look_told (look_yes live) look = live
  look_told {q = q} {k = k} (add_yes _) x6 = elim x6 [ ]
  look_told {q = q} {k = k} (cut_yes _) x7 = elim x7 [ ]
  look_told {q = q} {k = k} clean_yes x6 = elim x6 [ ]

  -- a REMOVE that has not marked does not say yes
  pub cut_told : {q : Party} {k : ℕ} {l : Place} → Told w q l Yes → Serves q k Remove l → ⊥
  cut_told (cut_yes shown) (walk hidden) = true≢false (sym hidden ∙ shown)
  cut_told {q = q} {k = k} (add_yes _) x6 = elim x6 [ ]
  cut_told {q = q} {k = k} clean_yes x5 = elim x5 [ ]
  cut_told {q = q} {k = k} (look_yes _) x8 = elim x8 [ ]

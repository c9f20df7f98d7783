-- What an answer says of the list, by the place that it is given at.
-- Assumes nothing.
use Prim.Native.Nat.{ℕ, ◌+◌, ◌≤◌}
use mathlib.Core.Path.{◌≡◌, ap, ◌∙◌}
use mathlib.Core.Logic.{◌≢◌}
use mathlib.Core.Bool.{Bool, false}
use native.Mathlib.Omega.{arith}
use Rattle.calls.specs.declared.Call.TheVariants.{Add, Remove, Contains}
use Rattle.list_party.specs.declared.Place.{Place}
use Rattle.list_party.specs.declared.Place.TheVariants.{Walk, AddSwap, Reread, Clean, Look}
use Rattle.list_party.specs.declared.Party.{Party}
use Rattle.calls.specs.declared.Said.{Said}
use Rattle.calls.specs.declared.Said.TheVariants.{Nothing, Yes, No}
use Rattle.list_moves.specs.declared.Moved.{Moved}
use Rattle.list_moves.specs.Moves.{move_at}
use Rattle.list_unchecked.specs.Unchecked.{Machine, party_of}
use Rattle.list_party.specs.Party.{is_idle}
use Rattle.list_world.proofs.World.{World, Removed, Open, Reach, Proper, Intact}
use Rattle.list_world.proofs.Live.{LiveRank}
use Rattle.list_world.proofs.Walk.{KeyRank}
use Rattle.list_world.proofs.WalkLaws.{at_c, track_end}
use Rattle.list_grown.specs.Deeds.{Deed}
use Rattle.list_grown.proofs.Party.{At}
use Rattle.list_grown.proofs.View.{Inv}
use Rattle.list_grown.proofs.Machine.{view_of, world_of}
use Rattle.list_grown.proofs.Does.{
  Does,
  does,
  passes,
  steps,
  add_skips,
  add_finds,
  add_ready,
  cut_other,
  cut_late,
  cut_ready,
  cut_again,
  cut_done,
  skips,
  skip_ends,
  add_wins,
  add_loses,
  mark_wins,
  mark_loses,
  rereads_late,
  rereads,
  clean_wins,
  clean_loses,
  backs,
  back_ends,
  look_passes,
  look_steps,
  look_other,
  look_late,
  look_finds,
}

-- ---- what a party has found where it has landed

-- the live row of rank K, if there is one, is not reached from c
abbrev pub Missed : World → ℕ → ℕ → Type 0
Missed w K c = (y : ℕ) → w.Pub y → w.rank y ≡ K → Open w y → Reach w y c → ⊥

-- a party that has landed on another row, or on a removed one, has missed it
module _ {w : World} (g : Intact w) {K c : ℕ} (ρ : Proper w c) where
  missed_other : K ≤ w.rank c → w.rank c ≢ K → Missed w K c
  missed_other h n y k e o r = n (ap w.rank (track_end g e ρ r h) ∙ e)

  missed_marked : w.rank c ≡ K → Removed w c → Missed w K c
  missed_marked h m y k e o r = let d : c ≡ y = track_end g e ρ r (omega arith) in let z : w.rank (w.next y) ≡ 0 = rw (← d) m in omega arith

live_here : {w : World} {K c : ℕ} → KeyRank w K → Proper w c → w.rank c ≡ K → Open w c → LiveRank w K
live_here {c = c} k ρ e o = record { row = c; known = ρ.known; is = e; low = k.over; high = k.under; free = o }

-- ---- the answers

-- each answer with the place that gives it, and what it says there; no other place answers
pub data Told (w : World) (q : Party) : Place → Said → Type 0 where
  silent : {l : Place} → Told w q l Nothing
  add_yes : {k : ℕ} → w.next q.p ≡ q.n → Told w q (AddSwap Add k) Yes
  add_no : {k : ℕ} → LiveRank w (3 + k) → Told w q (Walk Add k) No
  -- a REMOVE that has marked
  cut_yes : {k : ℕ} → q.unpublished ≡ false → Told w q (Walk Remove k) Yes
  clean_yes : {k : ℕ} → Told w q (Clean Remove k) Yes
  cut_no : {k : ℕ} → Missed w (3 + k) q.c → Told w q (Walk Remove k) No
  reread_no : {k : ℕ} → Missed w (3 + k) q.c → Told w q (Reread Remove k) No
  look_yes : {k : ℕ} → LiveRank w (3 + k) → Told w q (Look Contains k) Yes
  look_no : {k : ℕ} → Missed w (3 + k) q.c → Told w q (Look Contains k) No

-- what a move of the party says
abbrev pub said_by : Machine → ℕ → Said
said_by m i = (move_at (party_of m i).place m.table (party_of m i)).said

module _ (orphan : ℕ → Bool) (m : Machine) (v : Inv (view_of orphan m)) (i : ℕ) where
  abbrev w : World
  w = world_of orphan m

  abbrev g : Intact w
  g = v.good

  abbrev q : Party
  q = party_of m i

  pub does_reply : {l : Place} {moved : Moved} {deed : Deed} → Does m.table q l moved deed → At w q l → Told w q l moved.said
  does_reply (passes b k) a = silent
  does_reply (steps b k) a = silent
  does_reply (add_skips b k) a = silent
  does_reply (add_finds b k) a = add_no (live_here a.0.behind.key (at_c g a.0).0 b k)
  does_reply (add_ready b n) a = silent
  does_reply (cut_other f b n) a = cut_no (missed_other g (at_c g a.0).0 b n)
  does_reply (cut_late f b k) a = cut_no (missed_marked g (at_c g a.0).0 b k)
  does_reply (cut_ready f b k) a = silent
  does_reply (cut_again f b e) a = silent
  does_reply (cut_done f b n) a = cut_yes f
  does_reply (skips k) a = silent
  does_reply (skip_ends k) a = silent
  does_reply (add_wins e) a = add_yes e
  does_reply (add_loses n) a = silent
  does_reply (mark_wins e) a = silent
  does_reply (mark_loses n) a = silent
  does_reply (rereads_late k) a = reread_no (missed_marked g (at_c g a.0).0 a.1 k)
  does_reply (rereads k) a = silent
  does_reply (clean_wins e) a = clean_yes
  does_reply (clean_loses n) a = silent
  does_reply (backs k) a = silent
  does_reply (back_ends k) a = silent
  does_reply (look_passes b k) a = silent
  does_reply (look_steps b k) a = silent
  does_reply (look_other b n) a = look_no (missed_other g a.1 b n)
  does_reply (look_late b k) a = look_no (missed_marked g a.1 b k)
  does_reply (look_finds b k) a = look_yes (live_here a.0 a.1 b k)

  pub move_reply : is_idle q.place ≡ false → Told w q q.place (said_by m i)
  move_reply busy = does_reply (does m.table q w q.place busy (v.holds i)) (v.holds i)

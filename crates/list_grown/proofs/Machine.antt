-- The machine as a view, and what a deed does to the live ranks and keys.
-- Assumes nothing.
use Prim.Native.Nat.{ℕ, ◌+◌}
use mathlib.Core.Bool.{Bool}
use Rattle.list_rows.specs.Table.{next_at, back_at}
use Rattle.list_rows.specs.Order.{rank_at}
use Rattle.list_unchecked.specs.Unchecked.{Machine, party_of}
use Rattle.list_world.proofs.World.{World}
use Rattle.list_world.proofs.Live.{Change, still, gain, lose}
use Rattle.list_grown.specs.Deeds.{Deed, called, read, add_won, mark_won, clean_won, lost}
use Rattle.list_grown.proofs.View.{View, world}

-- the orphans are said apart: a list grown from set-up has none
abbrev pub view_of : (ℕ → Bool) → Machine → View
view_of orphan m =
    record {
      rank = λ row. rank_at m.table row;
      next = λ row. next_at m.table row;
      back = λ row. back_at m.table row;
      taken = m.state.taken;
      party = λ j. party_of m j;
      orphan = orphan;
    }

abbrev pub world_of : (ℕ → Bool) → Machine → World
world_of orphan m = world (view_of orphan m)

-- own is the splice of a mark swap
abbrev pub change_of : Deed → (own : ℕ) → Change
change_of called own = still
change_of read own = still
change_of (add_won key) own = gain (3 + key)
change_of (mark_won key) own = lose (3 + key) own
change_of clean_won own = still
change_of lost own = still

-- keys that a deed brings in, and takes out
abbrev pub ins_of : Deed → ℕ
ins_of called = 0
ins_of read = 0
ins_of (add_won key) = 1
ins_of (mark_won key) = 0
ins_of clean_won = 0
ins_of lost = 0

abbrev pub outs_of : Deed → ℕ
outs_of called = 0
outs_of read = 0
outs_of (add_won key) = 0
outs_of (mark_won key) = 1
outs_of clean_won = 0
outs_of lost = 0

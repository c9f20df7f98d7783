-- The live ranks, and what an event does to them. (Key k has rank 3 + k.)
use Prim.Native.Nat.{ℕ, ◌<◌}
use mathlib.Core.Path.{◌≡◌}
use mathlib.Core.Logic.{◌⊎◌, ◌≢◌, ◌↔◌}
use Rattle.list_world.proofs.World.{World, Open}

-- the rank of an item that is published and not removed
pub record LiveRank (w : World) (r : ℕ) : Type 0 where
  pub row : ℕ
  pub known : w.Pub row
  pub is : w.rank row ≡ r
  pub low : w.rank 1 < r
  pub high : r < w.rank 2
  pub free : Open w row

-- a rank comes, a rank goes by a splice, or neither
pub data Change : Type 0 where
  still : Change
  gain : ℕ → Change
  lose : ℕ → ℕ → Change

-- exactly that rank, absent before, or present before
abbrev pub Effect : World → World → Change → Type 0
Effect w w' still = (r : ℕ) → LiveRank w' r ↔ LiveRank w r
Effect w w' (gain K) = (LiveRank w K → ⊥) × ((r : ℕ) → LiveRank w' r ↔ (LiveRank w r ⊎ (r ≡ K)))
Effect w w' (lose K z) = LiveRank w K × ((r : ℕ) → LiveRank w' r ↔ (LiveRank w r × (r ≢ K)))

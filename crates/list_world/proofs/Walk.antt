-- What a party on its way knows of the list; K is the rank of its key.
use Prim.Native.Nat.{ℕ, ◌≤◌, ◌<◌}
use Rattle.list_world.proofs.World.{World, Chunk, Proper}

-- the rank of a key: between rows 1 and 2
pub record KeyRank (w : World) (K : ℕ) : Type 0 where
  pub over : w.rank 1 < K
  pub under : K < w.rank 2

-- p is a row below the key
pub record Below (w : World) (K p : ℕ) : Type 0 where
  pub key : KeyRank w K
  pub row : Proper w p
  pub low : w.rank p < K

-- p is below the key, n is a row up to row 2, and c is reached from n through removed rows
pub record OnWay (w : World) (K p n c : ℕ) : Type 0 where
  pub behind : Below w K p
  pub row : Proper w n
  pub top : w.rank n ≤ w.rank 2
  pub chunk : Chunk w c n

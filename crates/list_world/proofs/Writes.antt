-- The writes to the next of a published row: MARK, and the swing of ADDSWAP and of CLEAN.
use Prim.Native.Nat.{ℕ, ◌<◌}
use mathlib.Core.Path.{◌≡◌}
use mathlib.Core.Logic.{◌⊎◌, ◌≢◌}
use Rattle.list_world.proofs.World.{World, Open, Chunk, Proper}

-- the world after a write: ranks and backs stay
abbrev pub put : World → (ℕ → ℕ) → (ℕ → Type 0) → World
put w f P = record { rank = w.rank; next = f; back = w.back; Pub = P }

-- the next of p, which is no splice and points to none, becomes v; no published row is lost
pub record Relink (w : World) (f : ℕ → ℕ) (P : ℕ → Type 0) (p v : ℕ) : Type 0 where
  pub row : Proper w p
  pub free : Open w p
  pub at : f p ≡ v
  pub off : (x : ℕ) → x ≢ p → f x ≡ w.next x
  pub old : (x : ℕ) → w.Pub x → P x

-- MARK: own, a splice whose next is that of c and whose back lies below c, becomes the next of c
pub record MarkSwap (w : World) (f : ℕ → ℕ) (P : ℕ → Type 0) (c own : ℕ) : Type 0 where
  pub write : Relink w f P c own
  pub low : w.rank 1 < w.rank c
  pub high : w.rank c < w.rank 2
  pub fresh : w.Pub own → ⊥
  pub splice : w.rank own ≡ 0
  pub nxt : w.next own ≡ w.next c
  pub behind : Proper w (w.back own)
  pub falls : w.rank (w.back own) < w.rank c
  pub mine : P own
  pub new : (x : ℕ) → P x → w.Pub x ⊎ (x ≡ own)

-- an item that only its own party knows, whose next is e
pub record FreshItem (w : World) (e v : ℕ) : Type 0 where
  pub fresh : w.Pub v → ⊥
  pub nxt : w.next v ≡ e
  pub less : w.rank v < w.rank e

-- a swing: the next of p goes past a chunk to its end e (CLEAN), or to a fresh item before e (ADDSWAP)
pub record Swing (w : World) (f : ℕ → ℕ) (P : ℕ → Type 0) (p e v : ℕ) : Type 0 where
  pub write : Relink w f P p v
  pub low : w.rank 1 < w.rank e
  pub high : w.rank p < w.rank 2
  pub chunk : Chunk w e (w.next p)
  pub above : w.rank p < w.rank v
  pub mine : P v
  pub kind : (v ≡ e) ⊎ FreshItem w e v
  pub new : (x : ℕ) → P x → w.Pub x ⊎ ((x ≡ v) × FreshItem w e v)

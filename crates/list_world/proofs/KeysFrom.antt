-- The keys of the rows from a row on that are items and not removed, in the order of the list, up to row 2.
use Prim.Native.Nat.{ℕ, zero, suc, ◌+◌, ◌-◌, ◌≤◌, ◌<◌, min}
use mathlib.Core.Path.{◌≡◌}
use mathlib.Core.List.{List, [], ◌∷◌}
use Rattle.list_world.proofs.World.{World, succ, Open}

pub data KeysFrom (w : World) : ℕ → List ℕ → Type 0 where
  end : {a : ℕ} → a ≡ 2 → KeysFrom w a []
  live : {a k : ℕ} {keys : List ℕ} → w.rank 1 < w.rank a → w.rank a < w.rank 2 → Open w a → w.rank a ≡ 3 + k → KeysFrom w (succ w a) keys →
      KeysFrom w a (k ∷ keys)
  -- a removed row, or an end
  past : {a : ℕ} {keys : List ℕ} → w.rank a < w.rank 2 → (Open w a → w.rank a ≤ w.rank 1) → KeysFrom w (succ w a) keys → KeysFrom w a keys

-- how many of the first n rows have a rank above r: what a walk from rank r has left
unfoldable pub rows_above : (ℕ → ℕ) → (r n : ℕ) → ℕ
rows_above f r zero = 0
rows_above f r (suc n) = min 1 (f n - r) + rows_above f r n

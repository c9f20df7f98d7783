-- What never changes in the list: the facts that a party can rely on from one move of its own to the next.
use Prim.Native.Nat.{ℕ}
use mathlib.Core.Path.{◌≡◌}
use Rattle.list_world.proofs.World.{World, Removed, Open, Reach, Proper}

-- published rows stay published with their rank; removed rows and splices stay as they are
pub record Extends (w w' : World) : Type 0 where
  pub known : (x : ℕ) → w.Pub x → w'.Pub x
  pub rank : (x : ℕ) → w.Pub x → w'.rank x ≡ w.rank x
  pub next : (x : ℕ) → w.Pub x → Removed w x → w'.next x ≡ w.next x
  pub splice : (x : ℕ) → w.Pub x → w.rank x ≡ 0 → (w'.next x ≡ w.next x) × (w'.back x ≡ w.back x)
  pub opens : (y : ℕ) → w.Pub y → Open w' y → Open w y
  -- a row that is still on the list is reached from where it was
  pub stays : (x y : ℕ) → Proper w x → w.Pub y → Reach w y x → Reach w' y 1 → Reach w' y x
  pub came : (y : ℕ) → w.Pub y → Reach w' y 1 → Reach w y 1

-- the same rows are published, and none of them has changed
pub record Same (w w' : World) : Type 0 where
  pub known : (x : ℕ) → w.Pub x → w'.Pub x
  pub only : (x : ℕ) → w'.Pub x → w.Pub x
  pub rank : (x : ℕ) → w.Pub x → w'.rank x ≡ w.rank x
  pub next : (x : ℕ) → w.Pub x → w'.next x ≡ w.next x
  pub back : (x : ℕ) → w.Pub x → w'.back x ≡ w.back x

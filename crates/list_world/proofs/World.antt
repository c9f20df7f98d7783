-- The list as functions of a row's number: its rank in the order (0 exactly for a splice), its next and back, and whether it is published.
use Prim.Native.Nat.{ℕ, zero, suc, ◌≤◌, ◌<◌}
use mathlib.Core.Path.{◌≡◌}

pub record World : Type 1 where
  pub rank : ℕ → ℕ
  pub next : ℕ → ℕ
  pub back : ℕ → ℕ
  pub Pub : ℕ → Type 0

-- the first of two where the number is 0, else the second
abbrev pub skip : ℕ → ℕ → ℕ → ℕ
skip zero a b = a
skip (suc n) a b = b

-- the row behind: the next, or through a splice the splice's next
abbrev pub succ : World → ℕ → ℕ
succ w x = skip (w.rank (w.next x)) (w.next (w.next x)) (w.next x)

-- removed: its next is a splice
abbrev pub Removed : World → ℕ → Type 0
Removed w x = w.rank (w.next x) ≡ 0

abbrev pub Open : World → ℕ → Type 0
Open w x = 0 < w.rank (w.next x)

-- c is reached from the index, without going on from row 2
pub data Reach (w : World) (c : ℕ) : ℕ → Type 0 where
  stop : {a : ℕ} → a ≡ c → Reach w c a
  step : {a : ℕ} → w.rank a < w.rank 2 → Reach w c (succ w a) → Reach w c a

-- c is reached from the index through removed rows only
pub data Chunk (w : World) (c : ℕ) : ℕ → Type 0 where
  here : {a : ℕ} → a ≡ c → Chunk w c a
  pass : {a : ℕ} → Removed w a → Chunk w c (succ w a) → Chunk w c a

-- a published row that is no splice
pub record Proper (w : World) (x : ℕ) : Type 0 where
  pub known : w.Pub x
  pub pos : 0 < w.rank x

-- what holds of a removed item and its splice: the splice leads back to a published row below the item
pub record Gone (w : World) (x : ℕ) : Type 0 where
  pub low : w.rank 1 < w.rank x
  pub high : w.rank x < w.rank 2
  pub behind : Proper w (w.back (w.next x))
  pub falls : w.rank (w.back (w.next x)) < w.rank x

-- what holds of each published row
pub record RowFacts (w : World) (x : ℕ) : Type 0 where
  pub closed : w.Pub (w.next x)
  pub first : 0 < w.rank x → w.rank x < w.rank 1 → w.next x ≡ 1
  pub last : w.rank 2 ≤ w.rank x → w.next x ≡ 3
  pub rises : 0 < w.rank x → w.rank x < w.rank 2 → (w.rank x < w.rank (succ w x)) × (w.rank (succ w x) ≤ w.rank 2)
  pub gone : Removed w x → Gone w x
  pub reach : w.rank 1 ≤ w.rank x → w.rank x ≤ w.rank 2 → Open w x → Reach w x 1

-- the four ends are published, rows 0, 1 and 2 stand in order, and every published row is sound
pub record Intact (w : World) : Type 0 where
  pub head : Proper w 0
  pub one : Proper w 1
  pub two : Proper w 2
  pub three : Proper w 3
  pub start : w.rank 0 < w.rank 1
  pub order : w.rank 1 < w.rank 2
  pub each : (x : ℕ) → w.Pub x → RowFacts w x

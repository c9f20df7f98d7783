-- What is repeated stands everywhere.
-- Assumes nothing.
use mathlib.Core.Path.{◌≡◌, refl}
use Prim.Native.Nat.{ℕ, zero, suc}
use lib.ListN.{get_or, replicate}

pub repeat_at : {A : Type 0} (a : A) (count j : ℕ) → get_or (replicate count a) j a ≡ a
repeat_at a zero j = refl
repeat_at a (suc count) zero = refl
repeat_at a (suc count) (suc j) = repeat_at a count j

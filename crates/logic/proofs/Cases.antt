-- Cases: one row or another, one outcome of a test or the other.
-- Assumes nothing.
use Prim.Native.Nat.{ℕ}
use mathlib.Core.Path.{◌≡◌, refl}
use mathlib.Core.Logic.{◌≢◌}
use mathlib.Core.Bool.{Bool, true, false, cond}
use native.Mathlib.Decide.{ℕ_discrete}

-- a case for one row, and one for the others
pub by_row {ℓ} : {A : Type ℓ} (x p : ℕ) → (x ≡ p → A) → (x ≢ p → A) → A
by_row {A = A} x p f g = go (ℕ_discrete x p)
  where
    go : Dec (x ≡ p) → A
    go (yes e) = f e
    go (no n) = g n

-- a case for each outcome of a test
pub by_test : (P : Bool → Type 0) (test : Bool) → (test ≡ true → P true) → (test ≡ false → P false) → P test
by_test P true f g = f refl
by_test P false f g = g refl

-- what holds of a choice by a test: it is enough to prove it of each value, knowing what the test said
pub on_cond : {A : Type 0} (P : A → Type 0) (b : Bool) (x y : A) → (b ≡ true → P x) → (b ≡ false → P y) → P (cond b x y)
on_cond P b x y f g = by_test (λ t. P (cond t x y)) b f g

-- two choices that differ only in the value that is taken where the test fails
pub cond_same : {A : Type 0} (test : Bool) (x y z : A) → (test ≡ false → y ≡ z) → cond test x y ≡ cond test x z
cond_same true x y z same = refl
cond_same false x y z same = same refl

-- The contracts of the two entry points, and of naming an order, leave one outcome each.
-- Assumes nothing.
use Prim.{Unit}
use mathlib.Core.Path.{◌≡◌, ap}
use mathlib.Core.List.{List}
use Prim.Native.Nat.{ℕ}
use Rattle.logic.specs.Outcome.{OneOutcome}
use Rattle.logic.proofs.Outcome.{by_equation}
use Rattle.std.specs.Prelude.{Result}
use Rattle.refusal.specs.declared.Refusal.{Refusal}
use Rattle.refusal.specs.Answer.{Left}
use Rattle.refusal.proofs.Told.{answers_differ, verdicts_differ}
use Rattle.field.specs.Readings.{store_leaves}
use Rattle.field.proofs.Promises.{loaded_differ}
use Rattle.field.proofs.ByteOrderTryFromU32.try_from.Reads as try_from
use Rattle.field.proofs.load.Reads as load
use Rattle.field.proofs.store.Reads as store

-- what a code is taken for
pub try_from_fixed : OneOutcome try_from.Post (λ κs answer exit. answer)
try_from_fixed κs given answer₁ answer₂ exit₁ exit₂ p q = answers_differ _ _ (λ order. order) (λ x y same. same) _ _ (by_equation p q)

-- the answer of a load (a record lent by & cannot change)
pub load_fixed : OneOutcome load.Post (λ κs answer exit. answer)
load_fixed κs given answer₁ answer₂ exit₁ exit₂ p q = loaded_differ answer₁ answer₂ (by_equation p q)

-- two stores that leave the same in the document's terms left the same record and gave the same verdict
store_told : (bytes₁ bytes₂ : List ℕ) (answer₁ answer₂ : Result (Unit {0}) Refusal) → store_leaves bytes₁ answer₁ ≡ store_leaves bytes₂ answer₂ →
    ◌≡◌ {A = List ℕ × Result (Unit {0}) Refusal} (bytes₁, answer₁) (bytes₂, answer₂)
store_told bytes₁ bytes₂ answer₁ answer₂ e =
    let same_bytes : bytes₁ ≡ bytes₂ = ap (λ (l : Left (List ℕ) (Unit {0})). l.memory) e in
    let same_answer : answer₁ ≡ answer₂ = verdicts_differ answer₁ answer₂ (ap (λ (l : Left (List ℕ) (Unit {0})). l.answer) e) in
    rw (same_bytes, same_answer)

-- the record after a store, and its answer
pub store_fixed : OneOutcome {Seen = List ℕ × Result (Unit {0}) Refusal} store.Post (λ κs answer exit. (exit.0.now, answer))
store_fixed κs given answer₁ answer₂ exit₁ exit₂ p q = store_told exit₁.0.now exit₂.0.now answer₁ answer₂ (by_equation p q)

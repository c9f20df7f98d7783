-- The contract of this crate leaves one outcome.
-- Assumes nothing.
use Rattle.logic.specs.Outcome.{OneOutcome}
use Rattle.logic.proofs.Outcome.{by_equation}
use Rattle.refusal.proofs.Refusal.number.Reads as number

pub number_fixed : OneOutcome number.Post (λ κs answer exit. answer)
number_fixed κs given answer₁ answer₂ exit₁ exit₂ = by_equation

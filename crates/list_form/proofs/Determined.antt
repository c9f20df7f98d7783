-- The contracts of this crate leave one outcome each.
-- Assumes nothing.
use Rattle.logic.specs.Outcome.{OneOutcome}
use Rattle.logic.proofs.Outcome.{by_equation}
use Rattle.list_form.proofs.columns_agree.Reads as columns_agree
use Rattle.list_form.proofs.good_form.Reads as good_form

pub columns_agree_fixed : OneOutcome columns_agree.Post (λ κs answer exit. answer)
columns_agree_fixed κs given answer₁ answer₂ exit₁ exit₂ = by_equation

pub good_form_fixed : OneOutcome good_form.Post (λ κs answer exit. answer)
good_form_fixed κs given answer₁ answer₂ exit₁ exit₂ = by_equation

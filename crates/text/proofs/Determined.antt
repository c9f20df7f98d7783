-- The contracts of this crate leave one outcome each: one answer, for what is lent by & cannot change.
-- Assumes nothing.
use Rattle.logic.specs.Outcome.{OneOutcome}
use Rattle.logic.proofs.Outcome.{by_equation}
use Rattle.text.proofs.only.Reads as only
use Rattle.text.proofs.word.Reads as word
use Rattle.text.proofs.read_number.Reads as read_number
use Rattle.text.proofs.read_field.Reads as read_field

pub only_fixed : OneOutcome only.Post (λ κs answer exit. answer)
only_fixed κs given answer₁ answer₂ exit₁ exit₂ = by_equation

pub word_fixed : OneOutcome word.Post (λ κs answer exit. answer)
word_fixed κs given answer₁ answer₂ exit₁ exit₂ = by_equation

pub read_number_fixed : OneOutcome read_number.Post (λ κs answer exit. answer)
read_number_fixed κs given answer₁ answer₂ exit₁ exit₂ = by_equation

pub read_field_fixed : OneOutcome read_field.Post (λ κs answer exit. answer)
read_field_fixed κs given answer₁ answer₂ exit₁ exit₂ = by_equation

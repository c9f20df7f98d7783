-- The contracts of this crate leave one outcome each.
-- Assumes nothing.
use Rattle.logic.specs.Outcome.{OneOutcome}
use Rattle.logic.proofs.Outcome.{by_equation}
use Rattle.list_party.proofs.Place.is_idle.Reads as is_idle
use Rattle.list_party.proofs.Place.asked.Reads as asked
use Rattle.list_party.proofs.Party.blank.Reads as blank
use Rattle.list_party.proofs.Party.idling.Reads as idling
use Rattle.list_party.proofs.Party.published.Reads as published
use Rattle.list_party.proofs.Party.goes_to.Reads as goes_to
use Rattle.list_party.proofs.one_taken.Reads as one_taken
use Rattle.list_party.proofs.State.resting.Reads as resting
use Rattle.list_party.proofs.State.party_at.Reads as party_at
use Rattle.list_party.proofs.State.put_party.Reads as put_party
use Rattle.list_party.proofs.State.put_taken.Reads as put_taken
use Rattle.list_party.proofs.State.tally.Reads as tally

pub is_idle_fixed : OneOutcome is_idle.Post (λ κs answer exit. answer)
is_idle_fixed κs given answer₁ answer₂ exit₁ exit₂ = by_equation

pub asked_fixed : OneOutcome asked.Post (λ κs answer exit. answer)
asked_fixed κs given answer₁ answer₂ exit₁ exit₂ = by_equation

pub blank_fixed : OneOutcome blank.Post (λ κs answer exit. answer)
blank_fixed κs given answer₁ answer₂ exit₁ exit₂ = by_equation

pub idling_fixed : OneOutcome idling.Post (λ κs answer exit. answer)
idling_fixed κs given answer₁ answer₂ exit₁ exit₂ = by_equation

pub published_fixed : OneOutcome published.Post (λ κs answer exit. answer)
published_fixed κs given answer₁ answer₂ exit₁ exit₂ = by_equation

pub goes_to_fixed : OneOutcome goes_to.Post (λ κs answer exit. answer)
goes_to_fixed κs given answer₁ answer₂ exit₁ exit₂ = by_equation

pub one_taken_fixed : OneOutcome one_taken.Post (λ κs answer exit. answer)
one_taken_fixed κs given answer₁ answer₂ exit₁ exit₂ = by_equation

pub resting_fixed : OneOutcome resting.Post (λ κs answer exit. answer)
resting_fixed κs given answer₁ answer₂ exit₁ exit₂ = by_equation

pub party_at_fixed : OneOutcome party_at.Post (λ κs answer exit. answer)
party_at_fixed κs given answer₁ answer₂ exit₁ exit₂ = by_equation

pub put_party_fixed : OneOutcome put_party.Post (λ κs answer exit. exit.0.now)
put_party_fixed κs given answer₁ answer₂ exit₁ exit₂ = by_equation

pub put_taken_fixed : OneOutcome put_taken.Post (λ κs answer exit. exit.0.now)
put_taken_fixed κs given answer₁ answer₂ exit₁ exit₂ = by_equation

pub tally_fixed : OneOutcome tally.Post (λ κs answer exit. exit.0.now)
tally_fixed κs given answer₁ answer₂ exit₁ exit₂ = by_equation

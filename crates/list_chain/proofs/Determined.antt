-- The contracts of this crate leave one outcome each.
-- Assumes nothing.
use Rattle.logic.specs.Outcome.{OneOutcome}
use Rattle.logic.proofs.Outcome.{by_equation}
use Rattle.list_chain.proofs.chain_rises.Reads as chain_rises
use Rattle.list_chain.proofs.live_count.Reads as live_count
use Rattle.list_chain.proofs.write_live.Reads as write_live

pub chain_rises_fixed : OneOutcome chain_rises.Post (λ κs answer exit. answer)
chain_rises_fixed κs given answer₁ answer₂ exit₁ exit₂ = by_equation

pub live_count_fixed : OneOutcome live_count.Post (λ κs answer exit. answer)
live_count_fixed κs given answer₁ answer₂ exit₁ exit₂ = by_equation

-- what the places hold once the keys are written
pub write_live_fixed : OneOutcome write_live.Post (λ κs answer exit. exit.1.1.0.now)
write_live_fixed κs given answer₁ answer₂ exit₁ exit₂ = by_equation

-- The contract of `probe` leaves one outcome.
-- Assumes nothing.
use Rattle.logic.specs.Outcome.{OneOutcome}
use Rattle.page.specs.Page.{page}
use Rattle.page.proofs.Laws.{one_page}
use Rattle.probe_answer.proofs.probe.Reads as probe

-- every byte of the buffer, and the answer
pub probe_fixed : OneOutcome probe.Post (λ κs answer exit. page exit.1.0.now answer)
probe_fixed κs given answer₁ answer₂ exit₁ exit₂ = one_page

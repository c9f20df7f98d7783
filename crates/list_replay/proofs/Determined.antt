-- The contract of `replay` leaves one outcome.
-- Assumes nothing.
use Rattle.logic.specs.Outcome.{OneOutcome}
use Rattle.page.specs.Page.{page}
use Rattle.page.proofs.Laws.{one_page}
use Rattle.list_replay.proofs.replay.Reads as replay

-- every byte of the buffer, and the answer
pub replay_fixed : OneOutcome replay.Post (λ κs answer exit. page exit.1.0.now answer)
replay_fixed κs given answer₁ answer₂ exit₁ exit₂ = one_page

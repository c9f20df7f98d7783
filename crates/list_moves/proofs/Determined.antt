-- The contract of this crate leaves one outcome.
-- Assumes nothing.
use Rattle.logic.specs.Outcome.{OneOutcome}
use Rattle.logic.proofs.Outcome.{by_equation}
use Rattle.list_moves.proofs.place_move.Reads as place_move

pub place_move_fixed : OneOutcome place_move.Post (λ κs answer exit. answer)
place_move_fixed κs given answer₁ answer₂ exit₁ exit₂ = by_equation

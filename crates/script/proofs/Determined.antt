-- The contracts of this crate leave one outcome each.
-- Assumes nothing.
use Rattle.logic.specs.Outcome.{OneOutcome}
use Rattle.logic.proofs.Outcome.{by_equation}
use Rattle.script.proofs.line_at.Reads as line_at_lem
use Rattle.script.proofs.ends_body.Reads as ends_body
use Rattle.script.proofs.next_of.Reads as next_of
use Rattle.script.proofs.read_head.Reads as read_head
use Rattle.script.proofs.most_lines.Reads as most_lines
use Rattle.script.proofs.first_bad.Reads as first_bad

pub line_at_fixed : OneOutcome line_at_lem.Post (λ κs answer exit. answer)
line_at_fixed κs given answer₁ answer₂ exit₁ exit₂ = by_equation

pub ends_body_fixed : OneOutcome ends_body.Post (λ κs answer exit. answer)
ends_body_fixed κs given answer₁ answer₂ exit₁ exit₂ = by_equation

pub next_of_fixed : OneOutcome next_of.Post (λ κs answer exit. answer)
next_of_fixed κs given answer₁ answer₂ exit₁ exit₂ = by_equation

pub read_head_fixed : OneOutcome read_head.Post (λ κs answer exit. answer)
read_head_fixed κs given answer₁ answer₂ exit₁ exit₂ = by_equation

pub most_lines_fixed : OneOutcome most_lines.Post (λ κs answer exit. answer)
most_lines_fixed κs given answer₁ answer₂ exit₁ exit₂ = by_equation

pub first_bad_fixed : OneOutcome first_bad.Post (λ κs answer exit. answer)
first_bad_fixed κs given answer₁ answer₂ exit₁ exit₂ = by_equation

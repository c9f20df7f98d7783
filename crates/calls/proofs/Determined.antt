-- The contracts of this crate leave one outcome each.
-- Assumes nothing.
use Rattle.logic.specs.Outcome.{OneOutcome}
use Rattle.logic.proofs.Outcome.{by_equation}
use Rattle.refusal.proofs.Told.{answers_differ}
use Rattle.calls.proofs.CallTryFromU32.try_from.Reads as try_from
use Rattle.calls.proofs.Call.named.Reads as named
use Rattle.calls.proofs.Call.code.Reads as code
use Rattle.calls.proofs.Call.is_add.Reads as is_add
use Rattle.calls.proofs.Call.is_remove.Reads as is_remove
use Rattle.calls.proofs.Call.is_contains.Reads as is_contains
use Rattle.calls.proofs.Tallies.none.Reads as none
use Rattle.calls.proofs.Tallies.counted.Reads as counted

-- what it is taken for, as `CallOfCode` tells it: by `answers_differ`
pub try_from_fixed : OneOutcome try_from.Post (λ κs answer exit. answer)
try_from_fixed κs given answer₁ answer₂ exit₁ exit₂ first second =
    answers_differ _ _ (λ call. call) (λ x y same. same) _ _ (by_equation first second)

pub named_fixed : OneOutcome named.Post (λ κs answer exit. answer)
named_fixed κs given answer₁ answer₂ exit₁ exit₂ = by_equation

pub code_fixed : OneOutcome code.Post (λ κs answer exit. answer)
code_fixed κs given answer₁ answer₂ exit₁ exit₂ = by_equation

pub is_add_fixed : OneOutcome is_add.Post (λ κs answer exit. answer)
is_add_fixed κs given answer₁ answer₂ exit₁ exit₂ = by_equation

pub is_remove_fixed : OneOutcome is_remove.Post (λ κs answer exit. answer)
is_remove_fixed κs given answer₁ answer₂ exit₁ exit₂ = by_equation

pub is_contains_fixed : OneOutcome is_contains.Post (λ κs answer exit. answer)
is_contains_fixed κs given answer₁ answer₂ exit₁ exit₂ = by_equation

pub none_fixed : OneOutcome none.Post (λ κs answer exit. answer)
none_fixed κs given answer₁ answer₂ exit₁ exit₂ = by_equation

pub counted_fixed : OneOutcome counted.Post (λ κs answer exit. answer)
counted_fixed κs given answer₁ answer₂ exit₁ exit₂ = by_equation

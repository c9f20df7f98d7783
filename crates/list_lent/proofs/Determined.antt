-- The contracts of the entry points for columns lent one by one leave one outcome each.
-- Assumes nothing.
use Prim.{Unit}
use Rattle.std.specs.Prelude.{Result}
use Rattle.logic.specs.Outcome.{OneOutcome}
use Rattle.logic.proofs.Outcome.{by_equation}
use Rattle.refusal.specs.declared.Refusal.{Refusal}
use Rattle.calls.specs.declared.Said.{Said}
use Rattle.calls.specs.Words.{word_of}
use Rattle.calls.proofs.Told.{words_differ}
use Rattle.list_rows.specs.Table.{tab}
use Rattle.list_unchecked.specs.Unchecked.{Machine, machine}
use Rattle.list.proofs.Determined.{left_told}
use Rattle.list_lent.proofs.set_up.Reads as set_up
use Rattle.list_lent.proofs.call.Reads as call
use Rattle.list_lent.proofs.step.Reads as step

-- ---- the four columns, the state and the answer

pub set_up_fixed : OneOutcome {Seen = Machine × Result (Unit {0}) Refusal} set_up.Post
    (λ κs answer exit. (machine (tab exit.0.now exit.1.0.now exit.1.1.0.now exit.1.1.1.0.now) exit.1.1.1.1.0.now, answer))
set_up_fixed κs given answer₁ answer₂ exit₁ exit₂ p q =
    left_told _ _ _ (λ done. done) (λ x y same. same) _ _ answer₁ answer₂ (by_equation p q)

pub call_fixed : OneOutcome {Seen = Machine × Result (Unit {0}) Refusal} call.Post
    (λ κs answer exit. (machine (tab exit.0.now exit.1.0.now exit.1.1.0.now exit.1.1.1.0.now) exit.1.1.1.1.0.now, answer))
call_fixed κs given answer₁ answer₂ exit₁ exit₂ p q =
    left_told _ _ _ (λ done. done) (λ x y same. same) _ _ answer₁ answer₂ (by_equation p q)

pub step_fixed : OneOutcome {Seen = Machine × Result Said Refusal} step.Post
    (λ κs answer exit. (machine (tab exit.0.now exit.1.0.now exit.1.1.0.now exit.1.1.1.0.now) exit.1.1.1.1.0.now, answer))
step_fixed κs given answer₁ answer₂ exit₁ exit₂ p q =
    left_told _ _ _ word_of words_differ _ _ answer₁ answer₂ (by_equation p q)

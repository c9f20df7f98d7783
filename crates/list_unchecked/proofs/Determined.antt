-- The contracts of the unchecked call and move leave one outcome each.
-- Assumes nothing.
use Rattle.std.specs.Borrow.{GName}
use Rattle.logic.specs.Outcome.{OneOutcome}
use Rattle.logic.proofs.Outcome.{by_equation}
use Rattle.list_rows.specs.Table.{table_of}
use Rattle.list_rows.proofs.Lent.{names, one_lent}
use Rattle.list_unchecked.specs.Unchecked.{Machine, columns_of, machine_of, Made, made}
use Rattle.list_unchecked.proofs.Engine.view.Reads as view
use Rattle.list_unchecked.proofs.Engine.call_unchecked.Reads as call_unchecked
use Rattle.list_unchecked.proofs.Engine.step_unchecked.Reads as step_unchecked

-- the table that is lent on
pub view_fixed : OneOutcome view.Post (λ κs answer exit. table_of answer)
view_fixed κs given answer₁ answer₂ exit₁ exit₂ = by_equation

-- the columns and the state after a call, and whose the columns are
pub call_unchecked_fixed : OneOutcome {Seen = Machine × (GName × GName × GName × GName)} call_unchecked.Post
    (λ κs answer exit. (machine_of exit.0.now, names (columns_of exit.0.now)))
call_unchecked_fixed κs given answer₁ answer₂ exit₁ exit₂ first second = one_lent first.0 second.0 first.1 second.1

-- the columns and the state after a move, what is said, and whose the columns are
pub step_unchecked_fixed : OneOutcome {Seen = Made × (GName × GName × GName × GName)} step_unchecked.Post
    (λ κs answer exit. (made (machine_of exit.0.now) answer, names (columns_of exit.0.now)))
step_unchecked_fixed κs given answer₁ answer₂ exit₁ exit₂ first second = one_lent first.0 second.0 first.1 second.1

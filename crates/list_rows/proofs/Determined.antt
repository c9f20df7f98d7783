-- The contracts of this crate leave one outcome each.
-- Assumes nothing.
use Rattle.logic.specs.Outcome.{OneOutcome}
use Rattle.logic.proofs.Outcome.{by_equation}
use Rattle.list_rows.proofs.Columns.kind_at.Reads as kind_at
use Rattle.list_rows.proofs.Columns.key_at.Reads as key_at
use Rattle.list_rows.proofs.Columns.next_at.Reads as next_at
use Rattle.list_rows.proofs.Columns.back_at.Reads as back_at
use Rattle.list_rows.proofs.Row.is_item.Reads as is_item
use Rattle.list_rows.proofs.Row.is_splice.Reads as is_splice
use Rattle.list_rows.proofs.Row.below.Reads as below
use Rattle.list_rows.proofs.Row.below_key.Reads as below_key
use Rattle.list_rows.proofs.Row.equals_key.Reads as equals_key
use Rattle.list_rows.proofs.ColumnsMut.view.Reads as view
use Rattle.list_rows.proofs.ColumnsMut.apply.Reads as apply
use Rattle.std.specs.Borrow.{GName}
use Rattle.list_rows.proofs.Lent.{names, one_lent}
use Rattle.list_rows.specs.Table.{Table, table_of, table_held}

pub kind_at_fixed : OneOutcome kind_at.Post (λ κs answer exit. answer)
kind_at_fixed κs given answer₁ answer₂ exit₁ exit₂ = by_equation

pub key_at_fixed : OneOutcome key_at.Post (λ κs answer exit. answer)
key_at_fixed κs given answer₁ answer₂ exit₁ exit₂ = by_equation

pub next_at_fixed : OneOutcome next_at.Post (λ κs answer exit. answer)
next_at_fixed κs given answer₁ answer₂ exit₁ exit₂ = by_equation

pub back_at_fixed : OneOutcome back_at.Post (λ κs answer exit. answer)
back_at_fixed κs given answer₁ answer₂ exit₁ exit₂ = by_equation

pub is_item_fixed : OneOutcome is_item.Post (λ κs answer exit. answer)
is_item_fixed κs given answer₁ answer₂ exit₁ exit₂ = by_equation

pub is_splice_fixed : OneOutcome is_splice.Post (λ κs answer exit. answer)
is_splice_fixed κs given answer₁ answer₂ exit₁ exit₂ = by_equation

pub below_fixed : OneOutcome below.Post (λ κs answer exit. answer)
below_fixed κs given answer₁ answer₂ exit₁ exit₂ = by_equation

pub below_key_fixed : OneOutcome below_key.Post (λ κs answer exit. answer)
below_key_fixed κs given answer₁ answer₂ exit₁ exit₂ = by_equation

pub equals_key_fixed : OneOutcome equals_key.Post (λ κs answer exit. answer)
equals_key_fixed κs given answer₁ answer₂ exit₁ exit₂ = by_equation

-- the table that is lent on
pub view_fixed : OneOutcome view.Post (λ κs answer exit. table_of answer)
view_fixed κs given answer₁ answer₂ exit₁ exit₂ = by_equation

-- the four columns after a write, as one table, and whose they are
pub apply_fixed : OneOutcome {Seen = Table × (GName × GName × GName × GName)} apply.Post
    (λ κs answer exit. (table_held exit.0.now, names exit.0.now))
apply_fixed κs given answer₁ answer₂ exit₁ exit₂ first second = one_lent first.0 second.0 first.1 second.1

-- The contracts of this crate leave one outcome each.
-- Assumes nothing.
use Rattle.logic.specs.Outcome.{OneOutcome}
use Rattle.std.specs.Borrow.{GName}
use Rattle.list_rows.proofs.Lent.{names, one_lent}
use Rattle.list_rows.specs.Table.{Table, table_held}
use Rattle.list_fresh.proofs.fresh_table.Reads as fresh_table

-- the four columns, as one table, and whose they are
pub fresh_table_fixed : OneOutcome {Seen = Table × (GName × GName × GName × GName)} fresh_table.Post
    (λ κs answer exit. (table_held exit.0.now, names exit.0.now))
fresh_table_fixed κs given answer₁ answer₂ exit₁ exit₂ first second = one_lent first.0 second.0 first.1 second.1

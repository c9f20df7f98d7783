-- The loop of `chain_rises`: the whole chain rises exactly if the rest of it does.
use Rattle.std.proofs.Common.{◌≡◌, ◌-◌}
use Rattle.list_rows.specs.Table.{table_of}
use Rattle.list_chain.specs.Chain.{rises}
use Rattle.list_chain.proofs.chain_rises.Given as goal

abbrev pub invariant-loop : goal.invariant-loop
invariant-loop l = rises (table_of l.columns) l.taken 1 ≡ rises (table_of l.columns) (l.taken - l.counter) l.row

-- The loop of `live_count`: the count so far and the live keys on the rest of the chain are those on the whole chain.
use Rattle.std.proofs.Common.{◌≡◌, ◌≤◌, ◌+◌, ◌-◌, length}
use Rattle.list_rows.specs.Table.{table_of}
use Rattle.list_chain.specs.Chain.{live_from}
use Rattle.list_chain.proofs.live_count.Given as goal

abbrev pub invariant-loop : goal.invariant-loop
invariant-loop l = record {
  within : l.count ≤ l.counter;
  so_far : length (live_from (table_of l.columns) l.taken 1)
      ≡ l.count + length (live_from (table_of l.columns) (l.taken - l.counter) l.row);
}

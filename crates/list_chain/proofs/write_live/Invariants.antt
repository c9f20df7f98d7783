-- The loop of `write_live`: writing the rest of the live keys from this place on leaves what writing all of them would.
use Rattle.std.proofs.Common.{◌≡◌, ◌≤◌, ◌-◌}
use Rattle.std.proofs.Math.Seq.{sets}
use Rattle.list_rows.specs.Table.{table_of}
use Rattle.list_chain.specs.Chain.{live_from}
use Rattle.list_chain.proofs.write_live.Given as goal

abbrev pub invariant-loop : goal.invariant-loop
invariant-loop l = record {
  within : l.place ≤ l.counter;
  so_far : sets l.fn.places 0 (live_from (table_of l.columns) l.taken 1)
      ≡ sets l.places l.place (live_from (table_of l.columns) (l.taken - l.counter) l.row);
}

-- The loop of `read_all`: the entries before this one are read, and the next is read behind them.
use Rattle.std.proofs.Common.{◌≡◌, ◌+◌, ◌*◌}
use Rattle.probe_layout.proofs.Laws.{read_to}
use Rattle.probe_layout.proofs.bytes.read_all.Given as goal

abbrev pub invariant-loop-entry : goal.invariant-loop-entry
invariant-loop-entry g l = record {
  place : l.at ≡ l.fn.from + g.T.InBytes.WIDTH * l.entry-index;
  so_far : l.row ≡ read_to (g.T.InBytes.read_at l.bytes) g.T.InBytes.WIDTH l.fn.row l.fn.from l.entry-index;
}

-- The loop of `put_all`: the entries before this one are put on.
use Rattle.std.proofs.Common.{◌≡◌, take}
use Rattle.page.specs.Page.{page_of, put}
use Rattle.probe_layout.specs.Bytes.{one_by_one}
use Rattle.probe_layout.proofs.bytes.put_all.Given as goal

abbrev pub invariant-loop-entry : goal.invariant-loop-entry
invariant-loop-entry g l = record {
  so_far : page_of l.page ≡ put (page_of l.initial.page) (one_by_one g.T.InBytes.bytes_of (take l.entry-index l.row));
  lent : l.page.out.ghost_name ≡ l.initial.page.out.ghost_name;
}

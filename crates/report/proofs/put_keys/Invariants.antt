-- The loop over the keys.
use Rattle.std.proofs.Common.{◌≡◌, take}
use Rattle.page.specs.Page.{page_of, put}
use Rattle.report.specs.Lines.{key_lines}
use Rattle.report.proofs.put_keys.Given as goal

abbrev pub invariant-loop-key : goal.invariant-loop-key
invariant-loop-key l = record {
  so_far : page_of l.page ≡ put (page_of l.initial.page) (key_lines (take l.key-index l.keys));
  lent : l.page.out.ghost_name ≡ l.initial.page.out.ghost_name;
}

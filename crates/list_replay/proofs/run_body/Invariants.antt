-- The loop of `run_body`: the lines so far are on the page, and with the rest of them it is what the whole text puts there.
use Rattle.std.proofs.Common.{◌≡◌, ◌-◌}
use Rattle.page.specs.Page.{page_of, put}
use Rattle.list_unchecked.specs.Unchecked.{machine_of}
use Rattle.list_replay.proofs.Laws.{played_from}
use Rattle.list_replay.proofs.run_body.Given as goal

abbrev pub invariant-loop-seen : goal.invariant-loop-seen
invariant-loop-seen l = record {
  goes_on : put (page_of l.page) (played_from l.text l.head.order (machine_of l.engine) l.seen l.at (l.seen-end - l.seen))
      ≡ put (page_of l.fn.page) (played_from l.text l.head.order (machine_of l.fn.engine) 0 l.head.next l.seen-end);
  lent : l.page.out.ghost_name ≡ l.fn.page.out.ghost_name;
}

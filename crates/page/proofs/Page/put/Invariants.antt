-- The loop over the bytes.
use Rattle.std.proofs.Common.{◌≡◌, take}
use Rattle.page.specs.Page.{page_of, put}
use Rattle.page.proofs.Page.put.Given as goal

abbrev pub invariant-loop-byte : goal.invariant-loop-byte
invariant-loop-byte l = record {
  so_far : page_of l.self ≡ put (page_of l.initial.self) (take l.byte-index l.bytes);
  lent : l.self.out.ghost_name ≡ l.initial.self.out.ghost_name;
}

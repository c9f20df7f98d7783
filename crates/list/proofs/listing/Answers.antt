-- `listing`, where nothing refuses: there is a place for each key.
use Rattle.std.proofs.Common.{rules, ◌≡◌, length, sym}
use Rattle.refusal.specs.Answer.{passed}
use Rattle.refusal.proofs.Laws.{answer_past}
use Rattle.list_rows.specs.Table.{table_of}
use Rattle.list_unchecked.specs.Unchecked.{machine}
use Rattle.list.specs.Engine.{form_tests, list_asks, live_keys}
use Rattle.list.proofs.Laws.{list_accepts}
use Rattle.list.proofs.listing.Goals as goal

pub returns : goal.returns
returns c =
    let m = machine (table_of c.args.columns.now) c.args.state.now in
    let forms : form_tests m passed ≡ passed = search rules in
    let asked = answer_past (list_asks m (length c.args.places.now)) (length (live_keys m)) c.in_ok-count.count (sym c.in_ok-count.ensures) in
    rw (sym asked.1) (list_accepts m c.args.places.now forms asked.0 c.write_live.ensures)

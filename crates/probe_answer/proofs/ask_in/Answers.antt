-- The table and the state are read, the question is asked, and all that is seen is written.
use Rattle.std.proofs.Common.{ap, ◌∙◌}
use Rattle.list_rows.specs.Table.{Table}
use Rattle.list_unchecked.specs.Unchecked.{Machine, machine}
use Rattle.page.specs.Page.{page_of, put}
use Rattle.probe_answer.specs.Probe.{Seen, seen_bytes, seen_is}
use Rattle.probe_answer.proofs.Laws.{seen_told}
use Rattle.probe_answer.proofs.ask_in.Goals as goal

pub returns : goal.returns
returns c =
    let read = c.read_in.ensures.read in
    let seen = seen_told c.args.bytes.now _ c.requires.0 (ap (λ (m : Machine). m.table) read) c.question_in.ensures (ap (λ (m : Machine). m.state) read)
    c.requires.1 c.ask-found.ensures.answers in
    let lent : Table → Seen = λ t. seen_is (machine t c.ask-found.new.engine.state) c.ask-found.new.places c.ask-found.result in
    let shown = ap lent c.view.ensures ∙ seen in
    (c.put_seen.ensures.0 ∙ ap (λ (s : Seen). put (page_of c.args.page.now) (seen_bytes s)) shown, c.put_seen.ensures.1)

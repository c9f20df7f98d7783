-- Columns of zeros, lent as far as the head says, and set up.
use Rattle.std.proofs.Common.{ap, ◌∙◌, List, ℕ, take}
use Rattle.columns.specs.Column.{zeros}
use Rattle.list_party.specs.declared.State.{State}
use Prim.{Unit}
use Rattle.refusal.specs.Answer.{Left}
use Rattle.page.specs.Page.{page_of, put}
use Rattle.list_rows.specs.Table.{tab}
use Rattle.list_party.specs.State.{resting_state}
use Rattle.list_unchecked.specs.Unchecked.{Machine, machine}
use Rattle.list.specs.Engine.{set_up_of}
use Rattle.script.specs.Body.{body_of}
use Rattle.list_replay.specs.Output.{plain, played}
use Rattle.std.proofs.lemmas.List.{take-replicate}
use Rattle.list_replay.proofs.run_new.Goals as goal

pub returns : goal.returns
returns c =
    let head = c.args.head in
    let prints : Machine → List ℕ = λ m. played plain head.order m 0 (body_of c.args.text.now head) in
    let set_up_on : List ℕ → State → Machine = λ l st. (set_up_of (machine (tab l l l l) st) head.parties).memory in
    let fresh_list =
    ap (λ (l : Left Machine (Unit {0})). l.memory) c.set_up.ensures.leaves
    ∙ ap (set_up_on (take head.nodes (zeros 4096))) c.resting.ensures
    ∙ ap (λ (l : List ℕ). set_up_on l (resting_state 0 0)) (take-replicate head.nodes 4096 0 c.requires) in
    (c.run_body.ensures.0 ∙ ap (λ (m : Machine). put (page_of c.args.page.now) (prints m)) fresh_list, c.run_body.ensures.1)

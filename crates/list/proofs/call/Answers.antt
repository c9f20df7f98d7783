-- `call`, where what it asks of the state refuses.
use Rattle.std.proofs.Common.{rules, ◌≡◌}
use Rattle.refusal.specs.Answer.{refused, passed, verdict_is}
use Rattle.refusal.proofs.Laws.{refused_past}
use Rattle.refusal.specs.Number.{number_of}
use Rattle.list_unchecked.specs.Unchecked.{machine_of}
use Rattle.list_form.specs.Form.{rows_in}
use Rattle.list.specs.Engine.{form_tests, call_asks}
use Rattle.list.proofs.Laws.{call_refuses}
use Rattle.list.proofs.call.Goals as goal

pub returns-in_err-call-clause-leaves : goal.returns-in_err-call-clause-leaves
returns-in_err-call-clause-leaves c =
    let m = machine_of c.args.engine.now in
    let forms : form_tests m passed ≡ passed = search rules in
    let asked : call_asks m.state (rows_in m.table) c.args.number c.args.code ≡ refused (number_of c.in_err-call.field-0.0) =
    refused_past _ _ c.in_err-call.ensures in
    let told : verdict_is c.from_residual-in_err-call.result ≡ refused (number_of c.in_err-call.field-0.0) = search rules in
    rw told (call_refuses m c.args.number c.args.code c.args.wanted forms asked)

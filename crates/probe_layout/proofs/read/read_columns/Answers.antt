-- The four columns, one behind another.
use mathlib.Core.Path.{ap, ◌∙◌}
use Rattle.probe_layout.specs.declared.Question.{Question}
use Rattle.probe_layout.proofs.Laws.{table_told}
use Rattle.probe_layout.proofs.Fitting.{rooms_of}
use native.Mathlib.Omega.{arith}
use Rattle.probe_layout.proofs.read.read_columns.Goals as goal

pub read_all-requires : goal.read_all-requires
read_all-requires c = omega (arith, (rooms_of _ _ c.requires).kinds, c.type_inv.bytes 15, c.type_inv.bytes 16)

pub read_all-requires-2 : goal.read_all-requires-2
read_all-requires-2 c = omega (arith, (rooms_of _ _ c.requires).keys, c.type_inv.bytes 17, c.type_inv.bytes 18)

pub read_all-requires-3 : goal.read_all-requires-3
read_all-requires-3 c = omega (arith, (rooms_of _ _ c.requires).nexts, c.type_inv.bytes 19, c.type_inv.bytes 20)

pub read_all-requires-4 : goal.read_all-requires-4
read_all-requires-4 c = omega (arith, (rooms_of _ _ c.requires).backs, c.type_inv.bytes 21, c.type_inv.bytes 22)

pub returns-clause-written : goal.returns-clause-written
returns-clause-written c =
    let asked = c.question_in-asked.ensures in
    table_told c.args.bytes.now (rooms_of _ _ c.requires)
    (c.from-keys_from.ensures ∙ ap (λ (q : Question). q.kinds) asked)
    (c.from.ensures ∙ ap (λ (q : Question). q.keys) asked)
    (c.from-2.ensures ∙ ap (λ (q : Question). q.nexts) asked)
    c.read_all.ensures c.read_all-2.ensures c.read_all-3.ensures c.read_all-4.ensures

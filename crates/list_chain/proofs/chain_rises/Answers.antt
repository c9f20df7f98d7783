-- `chain_rises` follows the chain as long as it rises.
use Rattle.std.proofs.Common.{◌≡◌, ◌-◌, ℕ, sym, ap, ◌∙◌, arith}
use Rattle.list_rows.specs.Table.{table_of}
use Rattle.list_chain.specs.Chain.{rises}
use Rattle.list_chain.proofs.Walk.{rises_none, rises_end, rises_stop, rises_on}
use Rattle.list_chain.proofs.chain_rises.Goals as goal

pub returns-then-row : goal.returns-then-row
returns-then-row c =
    let t = table_of c.args.columns.now in
    sym (c.loop.invariant ∙ rises_end t c.loop.row (c.args.taken - c.loop.counter) c.if-row.true)

pub returns-then-not-below : goal.returns-then-not-below
returns-then-not-below c =
    let t = table_of c.args.columns.now in
    sym
    (c.loop.invariant
    ∙ rises_stop t c.loop.row (c.args.taken - c.loop.counter) (omega arith) c.if-row.false c.row_behind-later.ensures
    (sym c.below.ensures ∙ c.if-not-below.true))

pub loop-preserved : goal.loop-preserved
loop-preserved c =
    let t = table_of c.args.columns.now in
    c.loop.invariant
    ∙ rises_on t c.loop.row c.args.taken c.loop.counter (omega arith) c.if-row.false c.row_behind-later.ensures
    (sym c.below.ensures ∙ c.if-not-below.false)

pub returns : goal.returns
returns c =
    let t = table_of c.args.columns.now in
    let spent : c.args.taken - c.loop.counter ≡ 0 = omega arith in
    sym (c.loop.invariant ∙ ap (λ (n : ℕ). rises t n c.loop.row) spent ∙ rises_none t c.loop.row)

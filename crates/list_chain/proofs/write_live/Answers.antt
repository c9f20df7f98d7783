-- `write_live` writes the live keys on the chain, one after another.
use Rattle.std.proofs.Common.{◌≡◌, ◌-◌, ℕ, sym, ap, ◌∙◌, arith}
use Rattle.list_rows.specs.Table.{table_of}
use Rattle.std.proofs.lemmas.List.Edits.{sets}
use Rattle.list_chain.specs.Chain.{live_from}
use Rattle.list_chain.proofs.Walk.{live_none, live_end, put_live, put_dead}
use Rattle.list_chain.proofs.write_live.Goals as goal
use Rattle.list_chain.proofs.write_live.Goals.{then-is_live, else-is_live}

pub returns-then-row : goal.returns-then-row
returns-then-row c =
    let t = table_of c.args.columns.now in
    sym (c.loop.invariant.so_far ∙ ap (sets c.loop.places c.loop.place) (live_end t c.loop.row (c.args.taken - c.loop.counter) c.if-row.true))

pub loop-preserved : goal.loop-preserved
loop-preserved c =
    let t = table_of c.args.columns.now in
    elim c.if-is_live.branch [
      | then-is_live w ↦
          record {
            within = omega (arith, w.place-is);
            so_far = c.loop.invariant.so_far
                ∙ put_live t c.loop.row c.args.taken c.loop.counter (omega arith) c.if-row.false c.row_behind-row.ensures c.loop.places c.loop.place
                (sym c.is_live.ensures ∙ w.if-is_live.true)
                ∙ rw (w.places-is, w.place-is, w.put.ensures, w.key_at.ensures);
          }
      | else-is_live w ↦
          record {
            within = omega (arith, w.place-is);
            so_far = c.loop.invariant.so_far
                ∙ put_dead t c.loop.row c.args.taken c.loop.counter (omega arith) c.if-row.false c.row_behind-row.ensures c.loop.places c.loop.place
                (sym c.is_live.ensures ∙ w.if-is_live.false)
                ∙ rw (w.places-is, w.place-is);
          }
    ]

pub returns : goal.returns
returns c =
    let t = table_of c.args.columns.now in
    let spent : c.args.taken - c.loop.counter ≡ 0 = omega arith in
    sym
    (c.loop.invariant.so_far
    ∙ ap (sets c.loop.places c.loop.place)
    (ap (λ (n : ℕ). live_from t n c.loop.row) spent ∙ live_none t c.loop.row))

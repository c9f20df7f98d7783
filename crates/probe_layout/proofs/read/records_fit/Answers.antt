-- The records are tested one after another, by their numbers.
use mathlib.Core.Path.{refl, ◌∙◌}
use Prim.Native.Nat.{ℕ, ◌+◌, ◌*◌}
use Rattle.std.proofs.Common.{rules, tests}
use Rattle.std.proofs.lemmas.Iterator.{YieldsList-from_range}
use Rattle.std.proofs.lemmas.Iterator.Search.{all_from_yields_List}
use Rattle.probe_layout.specs.Records.{record_fits}
use Rattle.probe_layout.proofs.Fitting.{every_counted}
use Rattle.probe_layout.proofs.read.records_fit.Goals as goal

pub returns : goal.returns
returns c =
    all_from_yields_List (λ (i : ℕ). record_fits c.args.bytes.now (43 + 20 * i)) _ _ c.all.result c.all.ensures.ran
    (YieldsList-from_range 0 16 16 refl refl) (λ x b q k. search (rules, tests))
    ∙ every_counted (λ (i : ℕ). record_fits c.args.bytes.now (43 + 20 * i)) 16

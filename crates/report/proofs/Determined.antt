-- The contracts of this crate leave one outcome each: the page once the lines are put on.
-- Assumes nothing.
use Rattle.logic.specs.Outcome.{OneOutcome}
use Rattle.page.proofs.Determined.{held, one_lent}
use Rattle.report.proofs.put_reply.Reads as put_reply
use Rattle.report.proofs.put_bad.Reads as put_bad
use Rattle.report.proofs.put_keys.Reads as put_keys
use Rattle.report.proofs.put_tallies.Reads as put_tallies

pub put_reply_fixed : OneOutcome put_reply.Post (λ κs answer exit. held exit.0.now)
put_reply_fixed κs given answer₁ answer₂ exit₁ exit₂ = one_lent

pub put_bad_fixed : OneOutcome put_bad.Post (λ κs answer exit. held exit.0.now)
put_bad_fixed κs given answer₁ answer₂ exit₁ exit₂ = one_lent

pub put_keys_fixed : OneOutcome put_keys.Post (λ κs answer exit. held exit.0.now)
put_keys_fixed κs given answer₁ answer₂ exit₁ exit₂ = one_lent

pub put_tallies_fixed : OneOutcome put_tallies.Post (λ κs answer exit. held exit.0.now)
put_tallies_fixed κs given answer₁ answer₂ exit₁ exit₂ = one_lent

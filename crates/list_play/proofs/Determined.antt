-- The contracts of this crate leave one outcome each.
-- Assumes nothing.
use Rattle.std.specs.Prelude.{Result}
use Rattle.std.specs.Borrow.{GName}
use Rattle.list_rows.proofs.Lent.{names}
use Rattle.logic.specs.Outcome.{OneOutcome}
use Rattle.logic.proofs.Outcome.{by_equation}
use Rattle.refusal.specs.declared.Refusal.{Refusal}
use Rattle.calls.specs.declared.Said.{Said}
use Rattle.calls.specs.Words.{word_of}
use Rattle.calls.proofs.Told.{words_differ}
use Rattle.list_unchecked.specs.Unchecked.{Machine, columns_of, machine_of}
use Rattle.list.proofs.Determined.{engine_told}
use Rattle.list_play.proofs.party_in.Reads as party_in
use Rattle.list_play.proofs.play_line.Reads as play_line

pub party_in_fixed : OneOutcome party_in.Post (λ κs answer exit. answer)
party_in_fixed κs given answer₁ answer₂ exit₁ exit₂ = by_equation

-- the four columns and whose they are, the state and the answer
pub play_line_fixed : OneOutcome {Seen = (Machine × Result Said Refusal) × (GName × GName × GName × GName)} play_line.Post
    (λ κs answer exit. ((machine_of exit.0.now, answer), names (columns_of exit.0.now)))
play_line_fixed κs given answer₁ answer₂ exit₁ exit₂ p q = engine_told _ _ word_of words_differ p.0 q.0 p.1 q.1

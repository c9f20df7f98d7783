-- The contracts of this crate leave one outcome each; that of `read_full` where the stream's bytes are known, since else the stream decides.
-- Assumes nothing.
use Rattle.std.proofs.Common.{◌≡◌, sym, ◌∙◌, ℕ, List, take, Some, Ok}
use denote.RattleType.{RattleType}
use Rattle.std.specs.declared.io.traits.Read as Read
use Rattle.logic.specs.Outcome.{OneOutcome}
use Rattle.logic.proofs.Outcome.{by_equation}
use Rattle.streams.proofs.Came.{one_came}
use Rattle.streams.proofs.front.Reads as front
use Rattle.streams.proofs.room.Reads as room
use Rattle.streams.proofs.read_full.Reads as read_full

pub front_fixed : OneOutcome front.Post (λ κs answer exit. answer.now)
front_fixed κs given answer₁ answer₂ exit₁ exit₂ = by_equation

-- of a room of any length
pub room_fixed : (N : _) (fits : _) → OneOutcome (room.Post N fits) (λ κs answer exit. answer)
room_fixed N fits κs given answer₁ answer₂ exit₁ exit₂ first second = by_equation first.1 second.1

-- any two outcomes that a contract allows for the same arguments, and what they then have in common
abbrev pub AnyTwo : {K : Type 0} {Given Answer Exit : K → Type 0} → (post : (κs : K) → Given κs → Answer κs → Exit κs → Type 0)
    → (alike : (κs : K) → Given κs → Answer κs → Answer κs → Exit κs → Exit κs → Type 0) → Type 0
AnyTwo post alike = (κs : _) (given : _) (answer₁ answer₂ : _) (exit₁ exit₂ : _) → post κs given answer₁ exit₁ → post κs given answer₂ exit₂ →
    alike κs given answer₁ answer₂ exit₁ exit₂

-- of a stream whose bytes are known, where the reads are accepted: how many bytes came, and these bytes
pub read_full_fixed : (R : RattleType) (laws : _) (reads : Read.Ghosts R.Denot) (dict : _) →
    AnyTwo (read_full.Post R laws reads dict)
    (λ κs given answer₁ answer₂ exit₁ exit₂. (bytes : List ℕ) (n₁ n₂ : ℕ) → reads.remaining given.0.now ≡ Some bytes →
    answer₁ ≡ Ok n₁ → answer₂ ≡ Ok n₂ → (n₁ ≡ n₂) × (take n₁ exit₁.1.0.now ≡ take n₂ exit₂.1.0.now))
read_full_fixed R laws reads dict κs given answer₁ answer₂ exit₁ exit₂ first second bytes n₁ n₂ known ok₁ ok₂ =
    let one = one_came _ _ bytes _ answer₁ n₁ _ known ok₁ first.0 first.1.0 first.1.1.0 first.1.1.1 in
    let two = one_came _ _ bytes _ answer₂ n₂ _ known ok₂ second.0 second.1.0 second.1.1.0 second.1.1.1 in
    (one.0 ∙ sym two.0, one.1 ∙ sym two.1)

-- A refusal is told by its number, an answer by its reading.
-- Assumes nothing.
use mathlib.Core.Path.{◌≡◌, refl, ap, sym, ◌∙◌}
use mathlib.Core.List.{List, [], ◌∷◌}
use Prim.Native.Nat.{ℕ}
use lib.ListN.{get_or}
use Prim.{tt}
use Rattle.std.specs.Prelude.{Ok, Err}
use Rattle.refusal.specs.declared.Refusal.{Refusal}
use Rattle.refusal.specs.declared.Refusal.TheVariants.{
  BadColumns,
  BadParties,
  BadForm,
  NoSuchParty,
  PartyBusy,
  NoSuchCall,
  TableFull,
  PartyIdle,
  MovesSpent,
  NoRoom,
  NoSuchOrder,
}
use Rattle.refusal.specs.Number.{number_of}
use Rattle.refusal.specs.Claims.{NumbersDiffer, AnswersDiffer, VerdictsDiffer}
use Rattle.refusal.proofs.Laws.{not_both}

-- the refusals in the order of their numbers, from 1
table : List Refusal
table =
    BadColumns ∷ BadParties ∷ BadForm ∷ NoSuchParty ∷ PartyBusy ∷ NoSuchCall ∷ TableFull ∷ PartyIdle ∷ MovesSpent ∷ NoRoom ∷ NoSuchOrder ∷ []

named : ℕ → Refusal
named n = get_or (BadColumns ∷ table) n BadColumns

named_number : (r : Refusal) → named (number_of r) ≡ r
unfolding named table
named_number BadColumns = refl
named_number BadParties = refl
named_number BadForm = refl
named_number NoSuchParty = refl
named_number PartyBusy = refl
named_number NoSuchCall = refl
named_number TableFull = refl
named_number PartyIdle = refl
named_number MovesSpent = refl
named_number NoRoom = refl
named_number NoSuchOrder = refl

pub numbers_differ : NumbersDiffer
numbers_differ a b e = sym (named_number a) ∙ ap named e ∙ named_number b

pub answers_differ : AnswersDiffer
answers_differ A B read told (Ok a) (Ok b) e = let same : read a ≡ read b = cc in ap Ok (told a b same)
answers_differ A B read told (Ok a) (Err b) e = absurd (not_both e)
answers_differ A B read told (Err a) (Ok b) e = absurd (not_both (sym e))
answers_differ A B read told (Err a) (Err b) e = let n : number_of a ≡ number_of b = cc in ap Err (numbers_differ a b n)

pub verdicts_differ : VerdictsDiffer
verdicts_differ = answers_differ _ _ (λ found. tt) (λ x y same. refl)

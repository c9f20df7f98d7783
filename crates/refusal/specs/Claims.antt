-- What is proved of the numbers and the answers: a promise made by the number determines the case of the enum.
use Prim.{Unit}
use Rattle.std.specs.Prelude.{◌≡◌, Result}
use Rattle.refusal.specs.declared.Refusal.{Refusal}
use Rattle.refusal.specs.Number.{number_of}
use Rattle.refusal.specs.Answer.{answer_is, verdict_is}

-- no two refusals share a number
abbrev pub NumbersDiffer : Type 0
NumbersDiffer = (a b : Refusal) → number_of a ≡ number_of b → a ≡ b

-- two answers that read the same in the document's terms are the same, where their values are
abbrev pub AnswersDiffer : Type 1
AnswersDiffer = (A B : Type 0) (read : A → B) → ((x y : A) → read x ≡ read y → x ≡ y) →
    (a b : Result A Refusal) → answer_is read a ≡ answer_is read b → a ≡ b

abbrev pub VerdictsDiffer : Type 0
VerdictsDiffer = (a b : Result (Unit {0}) Refusal) → verdict_is a ≡ verdict_is b → a ≡ b

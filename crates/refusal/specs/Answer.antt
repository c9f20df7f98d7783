-- Answers in the document's terms: a value, or a refusal's number alone (document 01, "Refusal numbers").
use Prim.{Unit, tt}
use Rattle.std.specs.Prelude.{Bool, true, false, ℕ, Result, Ok, Err}
use Rattle.refusal.specs.declared.Refusal.{Refusal}
use Rattle.refusal.specs.Number.{number_of}

-- what an entry point answers: it accepts and gives a value, or it refuses and gives a number
pub data Answer (A : Type 0) : Type 0 where
  accepted : A → Answer A
  refused : ℕ → Answer A

-- what an entry point leaves: the lent memory as it is afterwards, and the answer
pub record Left (M A : Type 0) : Type 0 where
  pub memory : M
  pub answer : Answer A

abbrev pub left : {M A : Type 0} → M → Answer A → Left M A
left memory answer = record { memory = memory; answer = answer }

-- what tests find: nothing to refuse, or the number of the first refusal that applies
abbrev pub Tests : Type 0
Tests = Answer (Unit {0})

abbrev pub passed : Tests
passed = accepted tt

-- one row of the table in its place: where the test holds its number is given, and no later test counts
abbrev pub refusing : Bool → ℕ → Tests → Tests
refusing true number later = refused number
refusing false number later = later

-- the answer of an entry point that changes nothing: the tests come first
abbrev pub answering : {A : Type 0} → Tests → Answer A → Answer A
answering (accepted done) answer = answer
answering (refused number) answer = refused number

-- what an entry point leaves: a refusal gives its number alone and leaves the memory as found
abbrev pub leaving : {M A : Type 0} → Tests → (found : M) → Left M A → Left M A
leaving (accepted done) found changed = changed
leaving (refused number) found changed = left found (refused number)

-- what the code answers in the document's terms: its value as it is read there, or the refusal's number
abbrev pub answer_is : {A B : Type 0} → (read : A → B) → Result A Refusal → Answer B
answer_is read (Ok value) = accepted (read value)
answer_is read (Err why) = refused (number_of why)

-- of tests alone, which have no value to give
abbrev pub verdict_is : {A : Type 0} → Result A Refusal → Tests
verdict_is verdict = answer_is (λ found. tt) verdict

-- The answers of the code in the document's terms.
use Rattle.std.specs.Prelude.{ℕ, Result}
use Rattle.refusal.specs.declared.Refusal.{Refusal}
use Rattle.refusal.specs.Answer.{Answer, answer_is}
use Rattle.calls.specs.declared.Call.{Call}

-- what a call asks gives the call of its code, or the refusal's number
abbrev pub asked_is : Result Call Refusal → Answer Call
asked_is asked = answer_is (λ call. call) asked

-- a listing says how many keys it has listed, or the refusal's number
abbrev pub listed_is : Result ℕ Refusal → Answer ℕ
listed_is listed = answer_is (λ count. count) listed

-- Calls: the code and the name of each (document 01, "Refusal numbers" and "The schedule program").
use Rattle.std.specs.Prelude.{◌≡◌, List, ◌++◌, Bool, ℕ, zero, suc, eqb, ltb, Result}
use Rattle.refusal.specs.declared.Refusal.{Refusal}
use Rattle.refusal.specs.Answer.{accepted, passed, refusing, answer_is, answering}
use Rattle.logic.specs.Quoted.{bytes}
use Rattle.calls.specs.declared.Call.{Call}
use Rattle.calls.specs.declared.Call.TheVariants.{Add, Remove, Contains}
use Rattle.calls.specs.declared.Asked.{Asked}

-- 0 ADD, 1 REMOVE, 2 CONTAINS
abbrev pub code_of : Call → ℕ
code_of Add = 0
code_of Remove = 1
code_of Contains = 2

-- the call of a code; one over 2, which the entry points refuse first, gives CONTAINS
abbrev pub call_named : ℕ → Call
call_named zero = Add
call_named (suc zero) = Remove
call_named (suc (suc more)) = Contains

-- the answer to a code: its call, or 6 for one over 2
abbrev pub CallOfCode : ℕ → Result Call Refusal → Type 0
CallOfCode code answer =
    answer_is (λ call. call) answer ≡ answering (refusing (ltb 2 code) 6 passed) (accepted (call_named code))

-- the name of a call in schedules and their outputs
abbrev pub name_of : Call → List ℕ
name_of Add = bytes "add"
name_of Remove = bytes "remove"
name_of Contains = bytes "contains"

-- as it stands in a line of a schedule, with a space on both sides
abbrev pub spaced : Call → List ℕ
spaced call = bytes " " ++ name_of call ++ bytes " "

-- a call with its key
abbrev pub asked : Call → (key : ℕ) → Asked
asked call key = record { call = call; key = key }

-- ---- which call it is

abbrev pub is_add : Call → Bool
is_add call = eqb (code_of call) 0

abbrev pub is_remove : Call → Bool
is_remove call = eqb (code_of call) 1

abbrev pub is_contains : Call → Bool
is_contains call = eqb (code_of call) 2

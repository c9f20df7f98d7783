-- What is proved of calls and answers: a promise made in the document's words determines the case of the enum.
use Rattle.std.specs.Prelude.{◌≡◌, ℕ, ◌≤◌, Result}
use Rattle.calls.specs.declared.Call.{Call}
use Rattle.calls.specs.declared.Said.{Said}
use Rattle.refusal.specs.declared.Refusal.{Refusal}
use Rattle.calls.specs.Calls.{call_named, code_of}
use Rattle.calls.specs.Words.{word_of, reply_is}

-- the code of a call names that call
abbrev pub NamedByItsCode : Type 0
NamedByItsCode = (call : Call) → call_named (code_of call) ≡ call

-- and the call of a code has that code
abbrev pub CodeOfItsCall : Type 0
CodeOfItsCall = (code : ℕ) → code ≤ 2 → code_of (call_named code) ≡ code

-- what reads the same is the same
abbrev pub WordsDiffer : Type 0
WordsDiffer = (a b : Said) → word_of a ≡ word_of b → a ≡ b

abbrev pub RepliesDiffer : Type 0
RepliesDiffer = (a b : Result Said Refusal) → reply_is a ≡ reply_is b → a ≡ b

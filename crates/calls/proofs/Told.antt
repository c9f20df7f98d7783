-- A call is told by its code, what is said by its word, a reply by its reading.
-- Assumes nothing.
use mathlib.Core.Path.{◌≡◌, refl, ap, sym, ◌∙◌}
use Prim.Native.Nat.{zero, suc}
use native.Mathlib.Omega.{arith}
use Rattle.refusal.proofs.Told.{answers_differ}
use Rattle.calls.specs.declared.Call.TheVariants.{Add, Remove, Contains}
use Rattle.calls.specs.declared.Said.{Said}
use Rattle.calls.specs.declared.Said.TheVariants.{Nothing, Yes, No}
use Rattle.calls.specs.Words.{Word, nothing, yes, no, word_of}
use Rattle.calls.specs.Claims.{NamedByItsCode, CodeOfItsCall, WordsDiffer, RepliesDiffer}

pub named_by_its_code : NamedByItsCode
named_by_its_code Add = refl
named_by_its_code Remove = refl
named_by_its_code Contains = refl

pub code_of_its_call : CodeOfItsCall
code_of_its_call zero small = refl
code_of_its_call (suc zero) small = refl
code_of_its_call (suc (suc zero)) small = refl
code_of_its_call (suc (suc (suc more))) small = absurd (omega arith)

said_by : Word → Said
said_by nothing = Nothing
said_by yes = Yes
said_by no = No

back : (said : Said) → said_by (word_of said) ≡ said
unfolding said_by
back Nothing = refl
back Yes = refl
back No = refl

pub words_differ : WordsDiffer
words_differ a b e = sym (back a) ∙ ap said_by e ∙ back b

pub replies_differ : RepliesDiffer
replies_differ = answers_differ _ _ word_of words_differ

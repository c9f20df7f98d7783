-- What a move says, in the document's words: each case of the code's enums with its value or its number.
use Rattle.std.specs.Prelude.{Result}
use Rattle.refusal.specs.declared.Refusal.{Refusal}
use Rattle.refusal.specs.Answer.{Answer, answer_is}
use Rattle.calls.specs.declared.Said.{Said}
use Rattle.calls.specs.declared.Said.TheVariants.{Nothing, Yes, No}

-- a call is answered yes or no; until then its moves say nothing
pub data Word : Type 0 where
  nothing : Word
  yes : Word
  no : Word

abbrev pub word_of : Said → Word
word_of Nothing = nothing
word_of Yes = yes
word_of No = no

-- the word, or the refusal's number
abbrev pub reply_is : Result Said Refusal → Answer Word
reply_is reply = answer_is word_of reply

-- The lines of a schedule's output (document 01, "The schedule program"): all numbers and keys in decimal.
use Rattle.std.specs.Prelude.{List, [], ◌++◌, ◌∷◌, ℕ}
use Rattle.logic.specs.Quoted.{bytes}
use Rattle.page.specs.Page.{decimal}
use Rattle.refusal.specs.Answer.{Answer, accepted, refused}
use Rattle.calls.specs.declared.Asked.{Asked}
use Rattle.calls.specs.declared.Tallies.{Tallies}
use Rattle.calls.specs.Calls.{name_of}
use Rattle.calls.specs.Words.{Word, nothing, yes, no}

-- ---- answers and refusals

-- call key
unfoldable pub asked_text : Asked → List ℕ
asked_text a = name_of a.call ++ bytes " " ++ decimal a.key

-- answer=P call key yes|no
unfoldable pub answer_line : (party : ℕ) → Asked → (word : List ℕ) → List ℕ
answer_line party a word =
    bytes "answer=" ++ decimal party ++ bytes " " ++ asked_text a ++ bytes " " ++ word ++ bytes "\n"

-- refused=line number
unfoldable pub refused_line : (line number : ℕ) → List ℕ
refused_line line number =
    bytes "refused=" ++ decimal line ++ bytes " " ++ decimal number ++ bytes "\n"

-- an answer is printed as it falls
unfoldable pub heard : (party : ℕ) → Asked → Word → List ℕ
heard party a nothing = []
heard party a yes = answer_line party a (bytes "yes")
heard party a no = answer_line party a (bytes "no")

-- what is printed for the line of this number, which called or moved the party; before, it had been asked this
unfoldable pub reply_line : (line party : ℕ) → Asked → Answer Word → List ℕ
reply_line line party a (accepted word) = heard party a word
reply_line line party a (refused number) = refused_line line number

-- ---- the closing lines

-- a word, a number and LF
unfoldable pub number_line : (word : List ℕ) → ℕ → List ℕ
number_line word n = word ++ decimal n ++ bytes "\n"

abbrev pub key_line : ℕ → List ℕ
key_line key = number_line (bytes "key=") key

unfoldable pub key_lines : List ℕ → List ℕ
key_lines [] = []
key_lines (key ∷ rest) = key_line key ++ key_lines rest

unfoldable pub tally_lines : Tallies → (taken : ℕ) → List ℕ
tally_lines t taken =
    number_line (bytes "moves=") t.moves
    ++ number_line (bytes "won=") t.won
    ++ number_line (bytes "lost=") t.lost
    ++ number_line (bytes "taken=") taken

-- ---- a text that breaks the rules

abbrev pub bad_line : ℕ → List ℕ
bad_line line = number_line (bytes "bad=") line

-- The whole output of a schedule's text (document 01, "The schedule program").
use Rattle.std.specs.Prelude.{List, [], ◌∷◌, ◌++◌, cond, ℕ, ◌+◌, Option, None, Some, length, take, ltb}
use Rattle.refusal.specs.Answer.{Answer, accepted, refused, Left}
use Rattle.columns.specs.Column.{zeros}
use Rattle.list_party.specs.Party.{asked_at}
use Rattle.list_unchecked.specs.Unchecked.{Machine, party_of}
use Rattle.list.specs.Engine.{live_keys, list_of}
use Rattle.list.specs.Run.{event_of, fresh}
use Rattle.report.specs.Lines.{reply_line, key_lines, tally_lines, bad_line}
use Rattle.script.specs.declared.Head.{Head}
use Rattle.script.specs.declared.Line.{Line}
use Rattle.script.specs.Head.{head_of}
use Rattle.script.specs.Body.{body_of, first_bad}
use Rattle.list_play.specs.Play.{TakesEvent, plain_event, party_in, line_of}

-- ---- what an engine has to give: how it takes an event, and the keys to print at the end

pub record Runner : Type 0 where
  pub takes : TakesEvent
  pub keys : Machine → List ℕ

-- the engine of document 01: calls and moves with all their tests, and the live keys
abbrev pub checked : Runner
checked = record { takes = event_of; keys = live_keys }

-- what a listing has put into its places
abbrev pub keys_in : (places : List ℕ) → Answer ℕ → List ℕ
keys_in places (accepted count) = take count places
keys_in places (refused number) = []

abbrev pub keys_left : Left (List ℕ) ℕ → List ℕ
keys_left l = keys_in l.memory l.answer

-- the keys that a listing into 4,096 places gives; none if it is refused (`ListingStands` in Claims: it is not)
abbrev pub listed : Machine → List ℕ
listed m = keys_left (list_of m (zeros 4096))

-- the engine that the program runs: no event tests the form, the listing at the end does once
-- (`SameOutput` in Claims: it prints the same)
abbrev pub plain : Runner
plain = record { takes = plain_event; keys = listed }

-- ---- the run

-- what is printed for the line of this number: the answer or the refusal, as it falls
unfoldable pub line_says : TakesEvent → (order : ℕ) → Machine → (number : ℕ) → Line → List ℕ
line_says takes order m number line =
    let party = party_in line in
    reply_line number party (asked_at (party_of m party).place) (line_of takes order m line).answer

-- answers and refusals, line by line; the lines of the body are numbered from 4
unfoldable pub says_from : TakesEvent → (order : ℕ) → Machine → (seen : ℕ) → List Line → List ℕ
says_from takes order m seen [] = []
says_from takes order m seen (line ∷ rest) =
    line_says takes order m (seen + 4) line ++ says_from takes order (line_of takes order m line).memory (seen + 1) rest

-- the list after all lines
unfoldable pub last_of : TakesEvent → (order : ℕ) → Machine → List Line → Machine
last_of takes order m [] = m
last_of takes order m (line ∷ rest) = last_of takes order (line_of takes order m line).memory rest

-- one line for each key, then moves, won, lost and taken
unfoldable pub closing : Runner → Machine → List ℕ
closing e m = key_lines (e.keys m) ++ tally_lines m.state.tallies m.state.taken

-- answers and refusals, then the closing lines
abbrev pub played : Runner → (order : ℕ) → Machine → (seen : ℕ) → List Line → List ℕ
played e order m seen lines =
    says_from e.takes order m seen lines ++ closing e (last_of e.takes order m lines)

-- ---- the output

-- a good text is run on a fresh list; of any other only its first bad line is printed
abbrev pub judged : Runner → List ℕ → Head → (bad : Option ℕ) → List ℕ
judged e text head None = played e head.order (fresh head.nodes head.parties) 0 (body_of text head)
judged e text head (Some line) = bad_line line

-- a text of over 65,536 bytes gives bad=0, whatever it holds
unfoldable pub output_by : Runner → List ℕ → List ℕ
output_by e text =
    cond (ltb 65536 (length text))
    (bad_line 0)
    (judged e text (head_of text) (first_bad text (head_of text)))

-- the output that document 01 asks for: by calls and moves with all their tests
abbrev pub output_of : List ℕ → List ℕ
output_of text = output_by checked text

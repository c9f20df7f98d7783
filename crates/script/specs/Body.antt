-- The lines between the head and `end=`, and the first line of a text that breaks the rules
-- (document 01, "The schedule program").
use Rattle.std.specs.Option.{option_or}
use Rattle.std.specs.Prelude.{Option, None, Some, List, [], ◌∷◌, cond, ℕ, zero, suc, ◌+◌, ◌/◌, length, eqb}
use Rattle.script.specs.Lines.{line_at, ends_body, next_of}
use Rattle.script.specs.declared.Head.{Head}
use Rattle.script.specs.declared.Line.{Line}
use Rattle.script.specs.declared.Line.TheVariants.{Call, Step, End, Bad}

-- no good line is shorter than `end=0` with its LF, so no more good lines than this stand in a text
-- (`FuelNeverDecides` in Claims)
unfoldable pub most_lines : List ℕ → ℕ
most_lines text = length text / 6

-- the calls and steps from a place on, at most so many
unfoldable pub body_from : List ℕ → (at left : ℕ) → List Line
body_from text at zero = []
body_from text at (suc left) =
    let line = line_at text at in
    cond (ends_body line) [] (line ∷ body_from text (next_of line) left)

-- ---- the first bad line, or none

-- behind so many calls and steps stands line 4 + seen; `end=` gives the number of these lines, and nothing follows it
unfoldable pub end_bad : (seen count next len : ℕ) → Option ℕ
end_bad seen count next len = cond (eqb count seen) (cond (eqb next len) None (Some (seen + 5))) (Some (seen + 4))

-- of the line that ended the body: an `end=` is tested, any other is bad itself (a call or a step never ends it)
unfoldable pub last_bad : (seen : ℕ) → Line → (len : ℕ) → Option ℕ
last_bad seen (Call c) len = Some (seen + 4)
last_bad seen (Step party next) len = Some (seen + 4)
last_bad seen (End count next) len = end_bad seen count next len
last_bad seen Bad len = Some (seen + 4)

-- from a place on; a line that is missing is bad (behind a good head the fuel does not run out before the text does)
unfoldable pub bad_from : List ℕ → (seen at left : ℕ) → Option ℕ
bad_from text seen at zero = Some (seen + 4)
bad_from text seen at (suc left) =
    let line = line_at text at in
    cond (ends_body line) (last_bad seen line (length text)) (bad_from text (seen + 1) (next_of line) left)

-- of a whole text, whose head this is: the head comes first
unfoldable pub first_bad : List ℕ → Head → Option ℕ
first_bad text head = option_or head.bad (bad_from text 0 head.next (most_lines text))

-- the calls and steps of a text, whose head this is
abbrev pub body_of : List ℕ → Head → List Line
body_of text head = body_from text head.next (most_lines text)

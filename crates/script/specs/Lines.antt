-- The lines behind the head of a schedule (document 01, "The schedule program").
use Rattle.std.specs.Prelude.{List, Bool, true, false, cond, ℕ, eqb, leb}
use Rattle.calls.specs.declared.Call.{Call as Verb}
use Rattle.calls.specs.declared.Call.TheVariants.{Add, Remove, Contains}
use Rattle.calls.specs.Calls.{code_of, spaced}
use Rattle.text.specs.Reading.{lost, word, only, numeral, number_at, field_at}
use Rattle.logic.specs.Quoted.{bytes}
use Rattle.text.specs.declared.Reading.{Reading}
use Rattle.script.specs.declared.CallLine.{CallLine}
use Rattle.script.specs.declared.Line.{Line}
use Rattle.script.specs.declared.Line.TheVariants.{Call, Step, End, Bad}

-- each line ends with LF
abbrev pub line_end : List ℕ → ℕ → ℕ
line_end text at = word text at (bytes "\n")

-- ---- call=P add HHHHHHHH, or remove, or contains

abbrev pub verb : (call : Verb) (next : ℕ) → Reading Verb
verb call next = record { value = call; next = next }

-- the call whose name stands here, with a space on both sides; any other name ends at `lost`, as CONTAINS
unfoldable pub verb_at : List ℕ → ℕ → Reading Verb
verb_at text at =
    let add = word text at (spaced Add) in
    let remove = word text at (spaced Remove) in
    let contains = word text at (spaced Contains) in
    cond (eqb add lost) (cond (eqb remove lost) (verb Contains contains) (verb Remove remove)) (verb Add add)

-- P is 0 to 99
unfoldable pub call_line : List ℕ → ℕ → CallLine
call_line text at =
    let n = number_at text (word text at (bytes "call=")) in
    let v = verb_at text n.next in
    let f = field_at text v.next in
    record {
      party = n.value;
      code = code_of v.value;
      field = f.value;
      next = only (leb n.value 99) (line_end text f.next);
    }

-- ---- a name, a number and LF

abbrev pub number_line : List ℕ → ℕ → (name : List ℕ) → Reading ℕ
number_line text at name = let n = number_at text (word text at name) in numeral n.value (line_end text n.next)

-- ---- step=P

unfoldable pub step_line : List ℕ → ℕ → Reading ℕ
step_line text at =
    let n = number_at text (word text at (bytes "step=")) in
    numeral n.value (only (leb n.value 99) (line_end text n.next))

-- ---- end= with a number

unfoldable pub end_line : List ℕ → ℕ → Reading ℕ
end_line text at = let n = number_at text (word text at (bytes "end=")) in numeral n.value (line_end text n.next)

-- ---- the line at a place

-- one of the three, or bad
unfoldable pub line_at : List ℕ → ℕ → Line
line_at text at =
    let c = call_line text at in
    let s = step_line text at in
    let e = end_line text at in
    cond (eqb c.next lost)
    (cond (eqb s.next lost)
    (cond (eqb e.next lost) Bad (End e.value e.next))
    (Step s.value s.next))
    (Call c)

-- the body goes on behind a call or a step; any other line ends it
abbrev pub ends_body : Line → Bool
ends_body (Call c) = false
ends_body (Step party next) = false
ends_body (End count next) = true
ends_body Bad = true

-- the place of the next line; behind bytes that are no line, `lost`
abbrev pub next_of : Line → ℕ
next_of (Call c) = c.next
next_of (Step party next) = next
next_of (End count next) = next
next_of Bad = lost

-- A text of at most 65,536 bytes passes the reading of a schedule exactly if it is the text of a schedule,
-- and then it is read as that schedule.
use Prim.{Unit}
use Rattle.std.specs.Prelude.{None, ◌≡◌, List, [], ◌∷◌, ℕ, ◌≤◌, length}
use Rattle.script.specs.Head.{rows_of, head_of}
use Rattle.script.specs.Body.{first_bad, body_of}
use Rattle.script.specs.declared.Line.{Line}
use Rattle.script.specs.declared.Line.TheVariants.{Call, Step, End, Bad}
use Rattle.grammar.specs.Schedule.{Item, calls, steps, Schedule, byte_pairs, GoodSchedule, text_of}

-- a schedule that keeps the rules, and whose text this is
pub record ScheduleOf (text : List ℕ) : Type 0 where
  pub schedule : Schedule
  pub good : GoodSchedule schedule
  pub path : text ≡ text_of schedule

-- a text of at most 65,536 bytes without a bad line is the text of a schedule
abbrev pub OnlyWritten : Type 0
OnlyWritten = (text : List ℕ) → length text ≤ 65536 → first_bad text (head_of text) ≡ None → ScheduleOf text

-- what a line says is what an item says
abbrev pub Says : Line → Item → Type 0
Says (Call c) (calls party code digits) =
    (c.party ≡ party) × (c.code ≡ code) × (c.field ≡ byte_pairs digits)
Says (Call c) (steps party) = ⊥
Says (Step number next) (calls party code digits) = ⊥
Says (Step number next) (steps party) = number ≡ party
Says (End count next) item = ⊥
Says Bad item = ⊥

-- line by line
abbrev pub AllSay : List Line → List Item → Type 0
AllSay [] [] = Unit {0}
AllSay [] (item ∷ items) = ⊥
AllSay (line ∷ lines) [] = ⊥
AllSay (line ∷ lines) (item ∷ items) = Says line item × AllSay lines items

-- a text is read as a schedule; a schedule of 0 nodes has the rows that 0 stands for
pub record ReadAs (text : List ℕ) (s : Schedule) : Type 0 where
  pub none_bad : first_bad text (head_of text) ≡ None
  pub parties : (head_of text).parties ≡ s.parties
  pub nodes : (head_of text).nodes ≡ rows_of s.nodes
  pub order : (head_of text).order ≡ s.order
  pub body : AllSay (body_of text (head_of text)) s.items

-- and the text of a schedule that keeps the rules, if it is no longer than that, is read as the schedule
abbrev pub Written : Type 0
Written = (s : Schedule) → GoodSchedule s → length (text_of s) ≤ 65536 → ReadAs (text_of s) s

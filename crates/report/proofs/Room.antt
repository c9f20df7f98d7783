-- How long a line of the output can be.
-- Assumes nothing.
use Rattle.std.proofs.Common.{List, [], ◌∷◌, ℕ, ◌+◌, ◌*◌, ◌≤◌, arith, length, length-append}
use Rattle.refusal.specs.Answer.{Answer, accepted, refused}
use Rattle.calls.specs.declared.Call.{Call}
use Rattle.calls.specs.declared.Call.TheVariants.{Add, Remove, Contains}
use Rattle.calls.specs.declared.Asked.{Asked}
use Rattle.calls.specs.declared.Tallies.{Tallies}
use Rattle.calls.specs.Calls.{name_of}
use Rattle.calls.specs.Words.{Word, nothing, yes, no}
use Rattle.logic.specs.Quoted.{bytes}
use Rattle.page.proofs.Room.{digits_are_few}
use Rattle.report.specs.Lines.{asked_text, answer_line, refused_line, heard, reply_line, number_line, key_lines, tally_lines}

-- ---- answers and refusals

name_short : (call : Call) → length (name_of call) ≤ 8
name_short Add = omega arith
name_short Remove = omega arith
name_short Contains = omega arith

asked_short : (a : Asked) → length (asked_text a) ≤ 29
unfolding asked_text
asked_short a = simp length-append (omega (arith, name_short a.call, digits_are_few 20 a.key))

answer_short : (party : ℕ) (a : Asked) (word : List ℕ) → length word ≤ 3 → length (answer_line party a word) ≤ 62
unfolding answer_line
answer_short party a word h = simp length-append (omega (arith, digits_are_few 20 party, asked_short a, h))

refused_short : (line number : ℕ) → length (refused_line line number) ≤ 62
unfolding refused_line
refused_short line number = simp length-append (omega (arith, digits_are_few 20 line, digits_are_few 20 number))

heard_short : (party : ℕ) (a : Asked) (word : Word) → length (heard party a word) ≤ 62
unfolding heard
heard_short party a nothing = omega arith
heard_short party a yes = answer_short party a (bytes "yes") (omega arith)
heard_short party a no = answer_short party a (bytes "no") (omega arith)

pub reply_short : (line party : ℕ) (a : Asked) (answer : Answer Word) → length (reply_line line party a answer) ≤ 62
unfolding reply_line
reply_short line party a (accepted word) = heard_short party a word
reply_short line party a (refused number) = refused_short line number

-- ---- the closing lines

pub number_short : (word : List ℕ) (n : ℕ) → length (number_line word n) ≤ length word + 21
unfolding number_line
number_short word n = simp length-append (omega (arith, digits_are_few 20 n))

pub keys_short : (keys : List ℕ) → length (key_lines keys) ≤ 25 * length keys
unfolding key_lines
keys_short [] = omega arith
keys_short (key ∷ rest) = simp length-append (omega (arith, number_short (bytes "key=") key, keys_short rest))

pub tallies_short : (t : Tallies) (taken : ℕ) → length (tally_lines t taken) ≤ 105
unfolding tally_lines
tallies_short t taken =
    let moves = number_short (bytes "moves=") t.moves in
    let won = number_short (bytes "won=") t.won in
    let lost = number_short (bytes "lost=") t.lost in
    simp length-append (omega (arith, moves, won, lost, number_short (bytes "taken=") taken))

-- How long an output can be.
-- Assumes nothing.
use mathlib.Core.Path.{◌≡◌, refl}
use mathlib.Core.List.{List, [], ◌∷◌}
use Rattle.std.specs.Prelude.{Option, None, Some}
use Prim.Native.Nat.{ℕ, zero, suc, ◌+◌, ◌*◌, ◌/◌, ◌≤◌}
use native.Mathlib.Omega.{arith}
use lib.ListN.{length, length-append}
use lib.Dec.{ltb}
use borrow.Author.Tests.{ltb-false}
use Rattle.list_party.specs.Party.{asked_at}
use Rattle.list_unchecked.specs.Unchecked.{Machine, party_of}
use Rattle.list.specs.Engine.{live_keys}
use Rattle.list.specs.Run.{event_of, fresh}
use Rattle.logic.specs.Quoted.{bytes}
use Rattle.page.proofs.Room.{room}
use Rattle.report.specs.Lines.{bad_line}
use Rattle.report.proofs.Room.{reply_short, number_short, keys_short, tallies_short}
use Rattle.script.specs.declared.Line.{Line}
use Rattle.script.specs.Lines.{line_at, ends_body, next_of}
use Rattle.script.specs.Head.{head_of}
use Rattle.script.specs.Body.{most_lines, body_from, body_of, first_bad}
use Rattle.list_play.specs.Play.{party_in, line_of}
use Rattle.logic.proofs.Cases.{on_cond}
use Rattle.list_replay.specs.Output.{checked, line_says, says_from, last_of, closing, judged, output_by, output_of}
use Rattle.list_replay.specs.Claims.{OutputFits, WholeOutput}
use Rattle.list_replay.proofs.Sound.{Sound, few_keys}
use Rattle.list_replay.proofs.Judged.{good_run}

-- ---- all lines

answers_short : (order : ℕ) (m : Machine) (seen : ℕ) (lines : List Line) → length
    (says_from event_of order m seen lines) ≤ 62 * length lines
unfolding says_from line_says
answers_short order m seen [] = omega arith
answers_short order m seen (line ∷ rest) =
    simp length-append
    (omega (
      arith,
      reply_short (seen + 4) (party_in line) (asked_at (party_of m (party_in line)).place) (line_of event_of order m line).answer,
      answers_short order (line_of event_of order m line).memory (seen + 1) rest,
    ))

body_short : (text : List ℕ) (at left : ℕ) → length (body_from text at left) ≤ left
unfolding body_from
body_short text at zero = omega arith
body_short text at (suc left) =
    on_cond (λ (l : List Line). length l ≤ suc left) (ends_body (line_at text at)) [] (line_at text at ∷ body_from text (next_of
    (line_at text at)) left)
    (λ e. omega arith) (λ e. omega (arith, body_short text (next_of (line_at text at)) left))

-- ---- the closing lines

closing_short : (m : Machine) → Sound m → length (closing checked m) ≤ 102505
unfolding closing
closing_short m s = simp length-append (omega (arith, keys_short (live_keys m), few_keys m s, tallies_short m.state.tallies m.state.taken))

-- ---- the output

bad_short : (line : ℕ) → length (bad_line line) ≤ 786432
bad_short line = omega (arith, number_short (bytes "bad=") line)

module _ (text : List ℕ) (short : length text ≤ 65536) where
  judged_short : (bad : Option ℕ) → first_bad text (head_of text) ≡ bad → length (judged checked text (head_of text) bad) ≤ 786432
  unfolding most_lines
  judged_short None good =
      let head = head_of text in
      let m = fresh head.nodes head.parties in
      let lines = body_of text head in
      let answers = answers_short head.order m 0 lines in
      let few = body_short text head.next (length text / 6) in
      let last = closing_short (last_of event_of head.order m lines) (good_run text short good).sound in
      simp length-append (omega (arith, short, answers, few, last))
  judged_short (Some line) bad = bad_short line

pub output_fits : OutputFits
unfolding output_by
output_fits text =
    on_cond (λ (l : List ℕ). length l ≤ 786432) (ltb 65536 (length text)) (bad_line 0) (judged checked text (head_of text)
    (first_bad text (head_of text)))
    (λ e. bad_short 0) (λ e. judged_short text (ltb-false 65536 (length text) e) (first_bad text (head_of text)) refl)

pub whole_output : WholeOutput
whole_output text out after enough wrote =
    let fits = output_fits text in
    let start : 0 + length (output_of text) ≡ length (output_of text) = omega arith in
    rw start at (room out (output_of text) 0 after (omega (arith, fits)) wrote)

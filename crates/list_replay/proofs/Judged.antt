-- Texts as they are judged: too long, bad at a line, or good; and what a good one is known for.
-- Assumes nothing.
use mathlib.Core.Path.{◌≡◌, refl, ap, sym, ◌∙◌}
use mathlib.Core.Bool.{cond}
use mathlib.Core.List.{List, []}
use Rattle.std.specs.Prelude.{Option, None, Some}
use Prim.Native.Nat.{ℕ, ◌<◌, ◌≤◌}
use native.Mathlib.Omega.{arith}
use lib.ListN.{length, length-replicate}
use lib.Dec.{ltb}
use borrow.Author.Tests.{lt-ltb, le-ltb, ltb-false, eq-eqb, ne_eqb, le-leb}
use Rattle.refusal.specs.Answer.{passed}
use Rattle.list.specs.Engine.{set_up_of}
use Rattle.list.specs.Run.{run, unset, fresh}
use Rattle.list_grown.specs.History.{keys_are_32}
use Rattle.report.specs.Lines.{bad_line}
use Rattle.text.specs.Reading.{lost}
use Rattle.script.specs.declared.Head.{Head}
use Rattle.script.specs.Head.{head_of}
use Rattle.script.specs.Body.{most_lines, body_of, first_bad}
use Rattle.script.proofs.Progress.{good_head}
use Rattle.logic.proofs.Cases.{by_test}
use Rattle.list_replay.specs.Output.{Runner, checked, plain, played, judged, output_by, output_of}
use Rattle.list_replay.specs.Claims.{SameOutput, end_of, ListingStands}
use Rattle.list_replay.proofs.Sound.{Sound, sound_listing}
use Rattle.list_replay.proofs.Same.{body_fits, SameRun, run_same, played_same}

-- ---- a good text

-- no line is bad: then none of the head is
pub head_good : (text : List ℕ) (head : Head) → first_bad text head ≡ None → head.bad ≡ None
unfolding first_bad
head_good text head none = grind arith

-- columns and parties within their bounds can be set up
set_up_passes : (rows parties : ℕ) → 4 ≤ rows → rows ≤ 4096 → 1 ≤ parties → parties ≤ 16 →
    (set_up_of (unset rows) parties).answer ≡ passed
unfolding set_up_of
set_up_passes rows parties low high some few =
    rw (
      length-replicate {A = ℕ} rows 0,
      eq-eqb rows rows refl,
      le-leb 4 rows low,
      le-leb rows 4096 high,
      ne_eqb parties 0 (λ z. omega arith),
      le-ltb 16 parties few,
    )

module _ (text : List ℕ) (short : length text ≤ 65536) (good : (head_of text).bad ≡ None) where
  pub sound_fresh : Sound (fresh (head_of text).nodes (head_of text).parties)
  unfolding run keys_are_32
  sound_fresh =
      let rows = (head_of text).nodes in
      let h = good_head text (omega arith) good in
      record {
        came = unset rows;
        parties = (head_of text).parties;
        history = [];
        set = set_up_passes rows (head_of text).parties h.2 h.3 h.0 h.1;
        fit = refl;
        path = refl;
      }

-- ---- the claims

module _ (text : List ℕ) (short : length text ≤ 65536) where
  abbrev head : Head
  head = head_of text

  -- the run of a good text is the same by both engines
  pub good_run : first_bad text head ≡ None → SameRun head.order (fresh head.nodes head.parties) 0 (body_of text head)
  good_run good =
      run_same head.order (fresh head.nodes head.parties) 0 (body_of text head) (sound_fresh text short (head_good text head good))
      (body_fits text head.next (most_lines text))

  judged_same : (bad : Option ℕ) → first_bad text head ≡ bad → judged plain text head bad ≡ judged checked text head bad
  judged_same None good = played_same head.order (fresh head.nodes head.parties) 0 (body_of text head) (good_run good)
  judged_same (Some line) bad = refl

pub same_output : SameOutput
unfolding output_by
same_output text =
    let bad = first_bad text (head_of text) in
    let by_plain = judged plain text (head_of text) bad in
    let by_checked = judged checked text (head_of text) bad in
    by_test (λ long. ltb 65536 (length text) ≡ long → cond long (bad_line 0) by_plain ≡ cond long (bad_line 0) by_checked)
    (ltb 65536 (length text)) (λ t e. refl) (λ f e. judged_same text (ltb-false 65536 (length text) e) bad refl) refl

pub listing_stands : ListingStands
listing_stands text places short good enough = sound_listing (end_of text) (good_run text short good).sound places enough

-- ---- the output in the three cases, and what a good head is known for

module _ (e : Runner) (text : List ℕ) where
  pub out_large : 65536 < length text → bad_line 0 ≡ output_by e text
  unfolding output_by
  out_large long = rw (lt-ltb 65536 (length text) long)

  out_small : length text ≤ 65536 → judged e text (head_of text) (first_bad text (head_of text)) ≡ output_by e text
  unfolding output_by
  out_small short = rw (le-ltb 65536 (length text) short)

  pub out_bad : {line : ℕ} → length text ≤ 65536 → first_bad text (head_of text) ≡ Some line → bad_line line ≡ output_by e text
  out_bad short is = ap (judged e text (head_of text)) (sym is) ∙ out_small short

  pub out_good : length text ≤ 65536 → first_bad text (head_of text) ≡ None →
      played e (head_of text).order (fresh (head_of text).nodes (head_of text).parties) 0 (body_of text (head_of text)) ≡ output_by e text
  out_good short is = ap (judged e text (head_of text)) (sym is) ∙ out_small short

-- the same of what the code prints: it runs a good text by the plain engine
module _ (text : List ℕ) where
  pub too_large : 65536 < length text → bad_line 0 ≡ output_of text
  too_large = out_large checked text

  pub bad_there : {line : ℕ} → length text ≤ 65536 → first_bad text (head_of text) ≡ Some line → bad_line line ≡ output_of text
  bad_there = out_bad checked text

  pub none_bad : length text ≤ 65536 → first_bad text (head_of text) ≡ None →
      played plain (head_of text).order (fresh (head_of text).nodes (head_of text).parties) 0 (body_of text (head_of text)) ≡ output_of text
  none_bad short is = out_good plain text short is ∙ same_output text

  -- of a text of any length that a slice can have
  pub rows_few : length text < lost → first_bad text (head_of text) ≡ None → (head_of text).nodes ≤ 4096
  rows_few small is = (good_head text small (head_good text (head_of text) is)).3

pub ruleset out_cases = (too_large, bad_there, none_bad, rows_few)

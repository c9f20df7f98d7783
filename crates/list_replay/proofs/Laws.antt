-- A run line by line, and the places that a listing has filled.
-- Assumes nothing.
use mathlib.Core.Path.{◌≡◌, ap, sym, ◌∙◌}
use mathlib.Core.Bool.{false}
use mathlib.Core.List.{List, [], ◌∷◌, append_assoc}
use Prim.Native.Nat.{ℕ, ◌+◌, ◌-◌, ◌<◌, ◌≤◌}
use lib.ListN.{length, take, length-append}
use lib.Seq.{length-take-le}
use native.Mathlib.Omega.{arith}
use Rattle.refusal.specs.Answer.{Answer, accepted, refused, Left, left}
use Rattle.refusal.proofs.Laws.{change_past, leaves_changed}
use Rattle.list_unchecked.specs.Unchecked.{Machine}
use Rattle.list.specs.Engine.{live_keys, list_tests, places_with, list_of}
use Rattle.page.specs.Page.{Page, put}
use Rattle.page.proofs.Laws.{put_put, put_nothing}
use Rattle.script.specs.declared.Line.{Line}
use Rattle.script.specs.Lines.{line_at, ends_body, next_of}
use Rattle.script.specs.Body.{body_from}
use Rattle.script.proofs.Laws.{body_on, body_none, body_stop}
use Rattle.list_play.specs.Play.{plain_event, line_of}
use Rattle.list_replay.specs.Output.{plain, line_says, says_from, last_of, closing, played}

-- ---- the rest of a run

-- what the lines from a place on print, and the closing lines
abbrev pub played_from : List ℕ → (order : ℕ) → Machine → (seen at left : ℕ) → List ℕ
played_from text order m seen at left = played plain order m seen (body_from text at left)

module _ (text : List ℕ) (order : ℕ) (m : Machine) (at : ℕ) where
  -- behind the last line only the closing ones are left
  pub played_end : (p : Page) (seen left : ℕ) → body_from text at left ≡ [] → put p (closing plain m) ≡ put p (played_from text order m seen at left)
  unfolding says_from last_of
  played_end p seen left done = ap (λ (lines : List Line). put p (played plain order m seen lines)) (sym done)

  -- what one line prints, and then the rest
  pub played_on : (p : Page) (seen all : ℕ) → seen < all → ends_body (line_at text at) ≡ false →
      let after = (line_of plain_event order m (line_at text at)).memory in
      put (put p (line_says plain_event order m (seen + 4) (line_at text at)))
      (played_from text order after (seen + 1) (next_of (line_at text at)) (all - (seen + 1)))
      ≡ put p (played_from text order m seen at (all - seen))
  unfolding says_from last_of
  played_on p seen all some goes =
      let l = line_at text at in
      let m' = (line_of plain_event order m l).memory in
      let rest = body_from text (next_of l) (all - (seen + 1)) in
      let one : all - seen - 1 ≡ all - (seen + 1) = omega arith in
      let lines : body_from text at (all - seen) ≡ l ∷ rest = rw (← one) (body_on text at (all - seen) (omega (arith, some)) goes) in
      put_put p _ _
      ∙ ap (put p) (sym (append_assoc (line_says plain_event order m (seen + 4) l) (says_from plain_event order m' (seen + 1) rest)
      (closing plain (last_of plain_event order m' rest)))
      ∙ ap (played plain order m seen) (sym lines))

-- what the loop over the lines needs
pub ruleset body_steps = (played_end, played_on, body_none, body_stop)

-- ---- the listing

-- the value of an answer that has one
abbrev value_in : Answer ℕ → ℕ
value_in (accepted value) = value
value_in (refused number) = 0

-- where it is not refused, as many keys as it says stand in its places
pub places_hold : (m : Machine) (places : List ℕ) {filled : List ℕ} {count : ℕ} → left filled (accepted count) ≡ list_of m places →
    count ≤ length filled
unfolding list_of
places_hold m places {filled} {count} e =
    let all = left (places_with (live_keys m) places) (accepted (length (live_keys m))) in
    let passes = change_past (list_tests m (length places)) places all count (sym (ap (λ (l : Left (List ℕ) ℕ). l.answer) e)) in
    let told : left filled (accepted count) ≡ all = e ∙ sym (leaves_changed (list_tests m (length places)) places all passes) in
    let keys : filled ≡ places_with (live_keys m) places = ap (λ (l : Left (List ℕ) ℕ). l.memory) told in
    let number : count ≡ length (live_keys m) = ap (λ (l : Left (List ℕ) ℕ). value_in l.answer) told in
    rw (keys, number, length-append) (omega arith)

-- and the first of them are as many
pub taken_long : (m : Machine) (places : List ℕ) {filled : List ℕ} {count : ℕ} → left filled (accepted count) ≡ list_of m places →
    count ≡ length (take count filled)
taken_long m places e = sym (length-take-le _ _ (places_hold m places e))

-- what the lines of the keys need
pub ruleset listing_steps = (places_hold, taken_long, put_nothing)

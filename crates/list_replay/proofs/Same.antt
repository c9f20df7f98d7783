-- The output by events without tests of the form and a listing is the output by checked events and live keys.
-- Assumes nothing.
use Prim.{Unit, tt}
use mathlib.Core.Path.{◌≡◌, refl, ap, ◌∙◌}
use mathlib.Core.Bool.{Bool, true, false, cond}
use mathlib.Core.List.{List, [], ◌∷◌, ◌++◌}
use Prim.Native.Nat.{ℕ, zero, suc, ◌+◌, ◌<◌, ◌≤◌}
use native.Mathlib.Omega.{arith}
use lib.ListN.{length, drop, length-replicate}
use lib.Seq.{take_at}
use lib.Dec.{eqb, ltb}
use borrow.Author.Tests.{lt-ltb}
use Rattle.refusal.specs.Answer.{Answer, accepted, refused, left}
use Rattle.refusal.proofs.Laws.{answer_past}
use Rattle.columns.specs.Column.{zeros}
use Rattle.list_unchecked.specs.Unchecked.{Machine}
use Rattle.field.specs.Field.{field_tests, field_at, order_of, load_of}
use Rattle.field.specs.Layout.{Bytes}
use Rattle.field.proofs.Numbers.{number_below_power}
use Rattle.list.specs.Engine.{live_keys}
use Rattle.list.specs.Run.{calls, moves, event_of}
use Rattle.report.specs.Lines.{key_lines, tally_lines}
use Rattle.text.specs.Reading.{lost}
use Rattle.text.proofs.Bytes.{field_is_bytes}
use Rattle.script.specs.declared.CallLine.{CallLine}
use Rattle.script.specs.declared.Line.{Line}
use Rattle.script.specs.declared.Line.TheVariants.{Call, Step, End, Bad}
use Rattle.script.specs.Lines.{line_at, call_line, step_line, end_line, ends_body, next_of}
use Rattle.script.specs.Body.{body_from}
use Rattle.list_play.specs.Play.{plain_event, field_in, loaded, line_of}
use Rattle.logic.proofs.Cases.{on_cond}
use Rattle.list_replay.specs.Output.{checked, listed, keys_left, plain, line_says, says_from, last_of, closing, played}
use Rattle.list_replay.proofs.Sound.{Sound, sound_event, plain_same, sound_listing}

-- ---- lines whose fields are bytes

abbrev pub Fits : Line → Type 0
Fits (Call c) = Bytes (field_in c)
Fits (Step party next) = Unit
Fits (End count next) = Unit
Fits Bad = Unit

four_bytes_lem : (a b c d : ℕ) → a < 256 → b < 256 → c < 256 → d < 256 → Bytes (a ∷ b ∷ c ∷ d ∷ [])
four_bytes_lem a b c d p q r s zero = p
four_bytes_lem a b c d p q r s (suc zero) = q
four_bytes_lem a b c d p q r s (suc (suc zero)) = r
four_bytes_lem a b c d p q r s (suc (suc (suc zero))) = s
four_bytes_lem a b c d p q r s (suc (suc (suc (suc place)))) = omega arith

call_fits : (text : List ℕ) (at : ℕ) → Fits (Call (call_line text at))
unfolding call_line
call_fits text at =
    let b = field_is_bytes text _ in
    four_bytes_lem _ _ _ _ (b.1 0 0 (omega (arith, b.0))) (b.1 1 0 (omega (arith, b.0))) (b.1 2 0 (omega (arith, b.0)))
    (b.1 3 0 (omega (arith, b.0)))

line_if : (a b d : Bool) (c : CallLine) (v n w k : ℕ) → Fits (Call c) → Fits (cond a (cond b (cond d Bad (End v n)) (Step w k)) (Call c))
line_if true true true c v n w k fits = tt
line_if true true false c v n w k fits = tt
line_if true false d c v n w k fits = tt
line_if false b d c v n w k fits = fits

line_fits : (text : List ℕ) (at : ℕ) → Fits (line_at text at)
unfolding line_at
line_fits text at =
    line_if (eqb (call_line text at).next lost) (eqb (step_line text at).next lost) (eqb (end_line text at).next lost)
    (call_line text at) _ _ _ _
    (call_fits text at)

unfoldable pub AllFit : List Line → Type 0
AllFit [] = Unit
AllFit (line ∷ rest) = Fits line × AllFit rest

pub body_fits : (text : List ℕ) (at left : ℕ) → AllFit (body_from text at left)
unfolding AllFit body_from
body_fits text at zero = tt
body_fits text at (suc left) =
    on_cond AllFit (ends_body (line_at text at)) _ _ (λ e. tt) (λ e. (line_fits text at, body_fits text (next_of (line_at text at)) left))

-- ---- one line

-- the key of four bytes has 32 bits
key_small : (c : CallLine) (order key : ℕ) → Bytes (field_in c) → load_of (field_in c) 0 order ≡ accepted key → ltb key 4294967296 ≡ true
unfolding load_of field_at
key_small c order key all e =
    let told = (answer_past (field_tests 4 0 order) (field_at (order_of order) 4 (field_in c) 0) key e).1 in
    rw (← told) (lt-ltb _ 4294967296 (number_below_power (order_of order) (field_in c) all))

-- a line does what the checked one does, and leaves a list that is sound again
pub record SameLine (order : ℕ) (m : Machine) (line : Line) : Type 0 where
  pub path : line_of plain_event order m line ≡ line_of event_of order m line
  pub sound : Sound (line_of event_of order m line).memory

call_same : (order : ℕ) (m : Machine) (c : CallLine) (answer : Answer ℕ) → load_of (field_in c) 0 order ≡ answer → Sound m → Bytes
    (field_in c) →
    (loaded plain_event m c answer ≡ loaded event_of m c answer) × Sound (loaded event_of m c answer).memory
unfolding loaded
call_same order m c (accepted key) e s all =
    (plain_same m s (calls c.party c.code key), sound_event m (calls c.party c.code key) s (key_small c order key all e))
call_same order m c (refused number) e s all = (refl, s)

line_same : (order : ℕ) (m : Machine) (line : Line) → Sound m → Fits line → SameLine order m line
unfolding line_of
line_same order m (Call c) s fits = let r = call_same order m c (load_of (field_in c) 0 order) refl s fits in
    record { path = r.0; sound = r.1 }
line_same order m (Step party next) s fits = record { path = plain_same m s (moves party); sound = sound_event m (moves party) s refl }
line_same order m (End count next) s fits = record { path = refl; sound = s }
line_same order m Bad s fits = record { path = refl; sound = s }

-- ---- all lines

pub record SameRun (order : ℕ) (m : Machine) (seen : ℕ) (lines : List Line) : Type 0 where
  pub answers : says_from plain_event order m seen lines ≡ says_from event_of order m seen lines
  pub last : last_of plain_event order m lines ≡ last_of event_of order m lines
  pub sound : Sound (last_of event_of order m lines)

pub run_same : (order : ℕ) (m : Machine) (seen : ℕ) (lines : List Line) → Sound m → AllFit lines → SameRun order m seen lines
unfolding says_from last_of line_says AllFit
run_same order m seen [] s fits = record { answers = refl; last = refl; sound = s }
run_same order m seen (line ∷ rest) s fits =
    let one = line_same order m line s fits.0 in
    let all = run_same order (line_of event_of order m line).memory (seen + 1) rest one.sound fits.1 in
    record {
      answers = rw one.path (ap (λ (l : List ℕ). line_says event_of order m (seen + 4) line ++ l) all.answers);
      last = rw one.path all.last;
      sound = all.sound;
    }

-- ---- the closing lines

pub listed_same : (m : Machine) → Sound m → listed m ≡ live_keys m
listed_same m s =
    let many : 4096 ≤ length (zeros 4096) = rw (length-replicate {A = ℕ} 4096 0) (omega arith) in
    ap keys_left (sound_listing m s (zeros 4096) many) ∙ take_at (live_keys m) (drop (length (live_keys m)) (zeros 4096)) (length
    (live_keys m)) refl

closing_same : (m : Machine) → Sound m → closing plain m ≡ closing checked m
unfolding closing
closing_same m s = ap (λ (keys : List ℕ). key_lines keys ++ tally_lines m.state.tallies m.state.taken) (listed_same m s)

pub played_same : (order : ℕ) (m : Machine) (seen : ℕ) (lines : List Line) → SameRun order m seen lines →
    played plain order m seen lines ≡ played checked order m seen lines
played_same order m seen lines run =
    rw (run.answers, run.last)
    (ap (λ (l : List ℕ). says_from event_of order m seen lines ++ l) (closing_same (last_of event_of order m lines) run.sound))

-- Every reading of a text leads on: to `lost`, or to a place behind its own that is still within the text.
-- Assumes nothing.
use Rattle.std.proofs.Common.{◌≢◌, Bool, false, ◌&&◌, ◌||◌, List, [], ◌∷◌, ℕ, ◌+◌, ◌≡◌, ◌<◌, ◌≤◌, arith, length, eqb, leb}
use Rattle.text.specs.Reading.{lost, place_after, word, only, first_digit, next_digit, number_at, pair_at, field_at}
use Rattle.logic.specs.Quoted.{bytes}
use Rattle.text.specs.declared.Reading.{Reading}
use Rattle.script.specs.Lines.{line_end, verb_at, call_line, step_line, line_at, ends_body, next_of}
use Rattle.script.specs.Head.{parties_line, nodes_line, order_line}

-- a place is lost, or no less than `least` and within the text
pub record Reach (text : List ℕ) (least place : ℕ) : Type 0 where
  pub led : place ≢ lost → (least ≤ place) × (place ≤ length text)

module _ (text : List ℕ) (L : length text < lost) where
  pub here : (at : ℕ) → at ≤ length text → Reach text at at
  here at h = record { led = λ k. (omega arith, h) }

  -- ---- a byte and a word

  after_reach : {b at : ℕ} → Reach text b at → Reach text (b + 1) (place_after text at)
  unfolding place_after
  after_reach r = record { led = λ k. (grind (arith, r.led), grind (arith, r.led)) }

  word_reach : (w : List ℕ) {b at : ℕ} → Reach text b at → Reach text (b + length w) (word text at w)
  unfolding word
  word_reach [] r = record { led = λ k. (grind (arith, r.led), grind (arith, r.led)) }
  word_reach (x ∷ xs) r =
      let rest = word_reach xs (after_reach r) in
      record { led = λ k. (grind (arith, rest.led), grind (arith, rest.led)) }

  -- ---- a number and a field

  first_reach : {b at : ℕ} → Reach text b at → Reach text (b + 1) (first_digit text at).next
  first_reach r =
      let next = after_reach r in
      record { led = λ k. (grind (arith, next.led), grind (arith, next.led)) }

  next_reach : {b : ℕ} (n : Reading ℕ) → Reach text b n.next → Reach text b (next_digit text n).next
  unfolding next_digit
  next_reach n r =
      let next = after_reach r in
      record { led = λ k. (grind (arith, r.led, next.led), grind (arith, r.led, next.led)) }

  number_reach : {b at : ℕ} → Reach text b at → Reach text (b + 1) (number_at text at).next
  number_reach r = next_reach _ (next_reach _ (next_reach _ (next_reach _ (first_reach r))))

  pair_reach : {b at : ℕ} → Reach text b at → Reach text b (pair_at text at).next
  unfolding pair_at
  pair_reach r =
      let next = after_reach (after_reach r) in
      record { led = λ k. (grind (arith, next.led), grind (arith, next.led)) }

  field_reach : {b at : ℕ} → Reach text b at → Reach text b (field_at text at).next
  unfolding field_at
  field_reach r = pair_reach (pair_reach (pair_reach (pair_reach r)))

  -- ---- the lines

  -- from a place on, or from a lesser one
  weaken : {b : ℕ} (a : ℕ) {n : ℕ} → a ≤ b → Reach text b n → Reach text a n
  weaken a h r = record { led = λ k. (omega (arith, h, r.led k), (r.led k).1) }

  -- LF, where a condition holds
  end_reach : (holds : Bool) {b at : ℕ} → Reach text b at → Reach text (b + 1) (only holds (line_end text at))
  end_reach holds r =
      let next = word_reach (bytes "\n") r in
      record { led = λ k. (grind (arith, next.led), grind (arith, next.led)) }

  -- a word, a number that passes a test, and LF
  numbered : (w : List ℕ) (test : ℕ → Bool) {b at : ℕ} → Reach text b at
      → Reach text (b + length w + 1 + 1) (let n = number_at text (word text at w) in only (test n.value) (line_end text n.next))
  numbered w test {at = at} r = end_reach (test (number_at text (word text at w)).value) (number_reach (word_reach w r))

  verb_reach : {b at : ℕ} → Reach text b at → Reach text b (verb_at text at).next
  unfolding verb_at
  verb_reach r =
      let add = word_reach (bytes " add ") r in
      let remove = word_reach (bytes " remove ") r in
      let contains = word_reach (bytes " contains ") r in
      record {
        led = λ k. (grind (arith, add.led, remove.led, contains.led), grind (arith, add.led, remove.led, contains.led));
      }

  call_reach : {b at : ℕ} → Reach text b at → Reach text (b + 6) (call_line text at).next
  unfolding call_line
  call_reach {at = at} r =
      weaken _ (omega arith)
      (end_reach (leb (number_at text (word text at (bytes "call="))).value 99)
      (field_reach (verb_reach (number_reach (word_reach (bytes "call=") r)))))

  step_reach : {b at : ℕ} → Reach text b at → Reach text (b + 6) (step_line text at).next
  unfolding step_line
  step_reach r = weaken _ (omega arith) (numbered (bytes "step=") (λ v. leb v 99) r)

  pub parties_reach : {b : ℕ} → Reach text b 0 → Reach text (b + 6) (parties_line text).next
  unfolding parties_line
  parties_reach r = weaken _ (omega arith) (numbered (bytes "parties=") (λ v. leb 1 v && leb v 16) r)

  pub nodes_reach : {b at : ℕ} → Reach text b at → Reach text b (nodes_line text at).next
  unfolding nodes_line
  nodes_reach r = weaken _ (omega arith) (numbered (bytes "nodes=") (λ v. eqb v 0 || (leb 4 v && leb v 4096)) r)

  pub order_reach : {b at : ℕ} → Reach text b at → Reach text b (order_line text at).next
  unfolding order_line
  order_reach r =
      let big = word_reach (bytes "order=big\n") r in
      let little = word_reach (bytes "order=little\n") r in
      record { led = λ k. (grind (arith, big.led, little.led), grind (arith, big.led, little.led)) }

  -- ---- a call or a step leads at least six bytes on

  pub onward : (at : ℕ) → at ≤ length text → ends_body (line_at text at) ≡ false
      → (at + 6 ≤ next_of (line_at text at)) × (next_of (line_at text at) ≤ length text)
  unfolding line_at
  onward at h e =
      let call = call_reach (here at h) in
      let step = step_reach (here at h) in
      (grind (arith, call.led, step.led), grind (arith, call.led, step.led))

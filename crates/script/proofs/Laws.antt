-- The body and its first bad line, line by line.
-- Assumes nothing.
use Rattle.std.proofs.Common.{◌≡◌, refl, true, false, List, [], ◌∷◌, ℕ, zero, suc, ◌-◌, ◌<◌, not-suc-le-zero, sub-one}
use Rattle.text.proofs.Laws.{one_left}
use Rattle.script.specs.Lines.{line_at, ends_body, next_of}
use Rattle.script.specs.Body.{body_from}

-- the body ends where no fuel is left, and at a line without call and step; any other line belongs to it
module _ (text : List ℕ) (at : ℕ) where
  pub body_none : (left : ℕ) → left ≡ 0 → body_from text at left ≡ []
  unfolding body_from
  body_none left h = rw h

  pub body_stop : (left : ℕ) → ends_body (line_at text at) ≡ true → body_from text at left ≡ []
  unfolding body_from
  body_stop zero e = refl
  body_stop (suc k) e = rw e

  pub body_on : (left : ℕ) → 0 < left → ends_body (line_at text at) ≡ false
      → body_from text at left ≡ line_at text at ∷ body_from text (next_of (line_at text at)) (left - 1)
  unfolding body_from
  body_on zero h e = absurd (not-suc-le-zero h)
  body_on (suc k) h e = rw (e, sub-one)

-- what the loop over the lines of a body needs
pub ruleset on = (one_left)

-- What the loops over a word and over the digits of a number need.
-- Assumes nothing.
use Rattle.std.proofs.Common.{◌≡◌, arith, ◌-◌, List, ℕ, zero, suc, ◌+◌, ◌<◌, drop_of_length-le, drop-cons}
use Rattle.text.specs.declared.Reading.{Reading}
use Rattle.text.specs.Reading.{next_digit}

-- the bytes of a word from an index on: one and the rest, or none
pub ruleset word_steps = (drop-cons, drop_of_length-le)

-- so many digits more
abbrev pub more_digits : List ℕ → Reading ℕ → ℕ → Reading ℕ
more_digits text n zero = n
more_digits text n (suc k) = more_digits text (next_digit text n) k

-- what is left is one and the others
pub one_left : (all done : ℕ) → done < all → all - done ≡ suc (all - (done + 1))
one_left all done h = omega (arith, h)

-- Reading and writing of numbers fit together.
use Rattle.std.specs.Prelude.{◌≡◌, List, ◌++◌, ℕ, ◌<◌, length, get_or}
use Rattle.text.specs.Reading.{number_at, numeral, digit_of}
use Rattle.page.specs.Page.{decimal}

-- a number of at most five digits that stands in a text as `decimal` writes it, with no digit behind it,
-- is read as that number, and the reading ends behind it
abbrev pub ReadsBack : Type 0
ReadsBack = (before behind : List ℕ) (n : ℕ) → n < 100000 → digit_of (get_or behind 0 0) ≡ 10 →
    number_at (before ++ decimal n ++ behind) (length before) ≡ numeral n (length (before ++ decimal n))

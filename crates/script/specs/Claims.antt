-- What is proved of the lines of a schedule, beside the contracts.
use Rattle.std.specs.Prelude.{None, ◌≡◌, List, ℕ, ◌+◌, ◌<◌, ◌≤◌, length}
use Rattle.text.specs.Reading.{lost}
use Rattle.script.specs.Head.{head_of}
use Rattle.script.specs.Body.{most_lines, body_from, bad_from}

-- behind a good head, in a text as long as a slice can be, the fuel that the two readings of a body
-- are allowed never decides: with more of it they find the same
abbrev pub FuelNeverDecides : Type 0
FuelNeverDecides = (text : List ℕ) (more : ℕ) → length text < lost → (head_of text).bad ≡ None →
    let from = (head_of text).next in
    (bad_from text 0 from (most_lines text + more) ≡ bad_from text 0 from (most_lines text))
    × (body_from text from (most_lines text + more) ≡ body_from text from (most_lines text))

-- a good head sets what a list can be set up with, and names one of the two orders
abbrev pub GoodHead : Type 0
GoodHead = (text : List ℕ) → length text < lost → (head_of text).bad ≡ None →
    (1 ≤ (head_of text).parties) × ((head_of text).parties ≤ 16)
    × (4 ≤ (head_of text).nodes) × ((head_of text).nodes ≤ 4096)
    × ((head_of text).order < 2)

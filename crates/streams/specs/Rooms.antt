-- A room before anything is read into it.
use Rattle.std.specs.Prelude.{List, ℕ, replicate}

-- so many zeros; opaque where nobody asks for the bytes, since large rooms would be counted out
unfoldable pub zeros : ℕ → List ℕ
zeros long = replicate long 0

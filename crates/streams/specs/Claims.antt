-- What is proved of the streams, beside the contracts.
use Rattle.std.specs.Prelude.{◌≡◌, List, [], ◌++◌, ℕ, ◌<◌, ◌≤◌, length, take, min}

-- Where a stream's bytes are known, `read_full` has one outcome that accepts: what its clauses say of the number of
-- bytes that came, of the room and of the bytes that are left to the stream fixes all three, as far as they came.
abbrev pub CameIsKnown : Type 0
CameIsKnown =
    (bytes left room : List ℕ) (n : ℕ) → n ≤ length room → bytes ≡ take n room ++ left →
    (n < length room → left ≡ []) →
    (n ≡ min (length room) (length bytes)) × (take n room ≡ take (length room) bytes)

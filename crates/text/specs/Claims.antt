-- What is proved of reading, beside the contracts.
use Rattle.std.specs.Prelude.{◌≡◌, List, ℕ, ◌<◌, length}
use Rattle.std.specs.List.{All}
use Rattle.text.specs.Reading.{field_at}

-- a field is four bytes
abbrev pub FieldIsBytes : Type 0
FieldIsBytes = (text : List ℕ) (at : ℕ) →
    let bytes = (field_at text at).value in
    (length bytes ≡ 4) × All (λ byte. byte < 256) bytes

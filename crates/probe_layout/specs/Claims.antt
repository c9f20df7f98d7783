-- What is proved of the layout, beside the contracts.
use Rattle.std.specs.Prelude.{◌≡◌, true, List, ℕ, ◌+◌, ◌≤◌, length, drop}
use Rattle.field.specs.declared.ByteOrder.TheVariants.{LowFirst}
use Rattle.field.specs.Layout.{Bytes}
use Rattle.field.specs.Field.{field_at}
use Rattle.probe_layout.specs.Bytes.{two_at, four_at}
use Rattle.probe_layout.specs.Layout.{machine_in, fits, machine_bytes}

-- the numbers are those of the one number layout of the project, low byte first
abbrev pub NumbersAreFields : Type 0
NumbersAreFields =
    (bytes : List ℕ) (at : ℕ) →
    (at + 2 ≤ length bytes → two_at bytes at ≡ field_at LowFirst 2 bytes at)
    × (at + 4 ≤ length bytes → four_at bytes at ≡ field_at LowFirst 4 bytes at)

-- nothing is lost by reading: what fits is written back, from byte 15 on, as it came
abbrev pub ReadIsWritten : Type 0
ReadIsWritten = (bytes : List ℕ) → Bytes bytes → fits bytes ≡ true → machine_bytes (machine_in bytes) ≡ drop 15 bytes

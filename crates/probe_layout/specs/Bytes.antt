-- Numbers in bytes, low byte first: one, two or four bytes each, alone or many in a row.
use Rattle.std.specs.Prelude.{List, [], ◌∷◌, ◌++◌, ℕ, zero, suc, ◌+◌, ◌*◌, get_or}
use Rattle.field.specs.declared.ByteOrder.TheVariants.{LowFirst}
use Rattle.field.specs.Layout.{bytes_in}

-- ---- reading; past the end every byte is 0

abbrev pub byte_at : List ℕ → ℕ → ℕ
byte_at bytes at = get_or bytes at 0

abbrev pub two_at : List ℕ → ℕ → ℕ
two_at bytes at = byte_at bytes at + 256 * byte_at bytes (at + 1)

abbrev pub four_at : List ℕ → ℕ → ℕ
four_at bytes at = two_at bytes at + 65536 * two_at bytes (at + 2)

-- what is read at so many places, each a width behind the one before
unfoldable pub each : {A : Type 0} → (ℕ → A) → (width count at : ℕ) → List A
each read width zero at = []
each read width (suc count) at = read at ∷ each read width count (at + width)

-- ---- writing, in the layout of `field`

abbrev pub low : (width number : ℕ) → List ℕ
low width number = bytes_in LowFirst width number

-- the bytes of one thing behind those of another
unfoldable pub one_by_one : {A : Type 0} → (A → List ℕ) → List A → List ℕ
one_by_one bytes_of [] = []
one_by_one bytes_of (first ∷ rest) = bytes_of first ++ one_by_one bytes_of rest

abbrev pub lows : (width : ℕ) → List ℕ → List ℕ
lows width numbers = one_by_one (low width) numbers

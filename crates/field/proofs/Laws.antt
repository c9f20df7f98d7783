-- What the code's shifts are: shifts and ors as sums of products, and that sum as the number of four bytes.
-- Assumes nothing.
use mathlib.Core.Path.{◌≡◌, refl}
use mathlib.Core.List.{List, [], ◌∷◌}
use Prim.Native.Nat.{ℕ, ◌+◌, ◌*◌, ◌%◌, ◌^◌, ◌<◌}
use native.Mathlib.Omega.{arith}
use lib.Bits.{bit_or, or_shifted}
use lib.ListN.{length, get_or}
use Rattle.field.specs.declared.ByteOrder.{ByteOrder}
use Rattle.field.specs.Layout.{high_number, arranged, number_in}
use Rattle.field.specs.Field.{bytes_at, field_at}

-- ---- shifts and masks

-- an or of a multiple of a power of two and of what is below that power is their sum
or_sum : (k x high low : ℕ) → x ≡ high * 2 ^ k → low < 2 ^ k → bit_or x low ≡ x + low
or_sum k x high low multiple below = rw multiple (or_shifted high k low below)

-- four bytes shifted to their places and joined: the first counts 16,777,216, the last 1
pub joined : (a b c d : ℕ) → a < 256 → b < 256 → c < 256 → d < 256 →
    bit_or (bit_or (bit_or (a * 16777216 % 4294967296) (b * 65536 % 4294967296)) (c * 256 % 4294967296)) d ≡ a * 16777216 + b * 65536 + c * 256 + d
joined a b c d a_byte b_byte c_byte d_byte =
    let whole_a : a * 16777216 % 4294967296 ≡ a * 16777216 = omega arith in
    let whole_b : b * 65536 % 4294967296 ≡ b * 65536 = omega arith in
    let whole_c : c * 256 % 4294967296 ≡ c * 256 = omega arith in
    rw (
      whole_a,
      whole_b,
      whole_c,
      or_sum 24 (a * 16777216) a (b * 65536) refl (omega arith),
      or_sum 16 (a * 16777216 + b * 65536) (a * 256 + b) (c * 256) (omega arith) (omega arith),
      or_sum 8 (a * 16777216 + b * 65536 + c * 256) (a * 65536 + b * 256 + c) d (omega arith) (omega arith),
    )

-- the sum that four bytes count is their number, the high byte first
pub counted : (four : List ℕ) → length four ≡ 4 →
    get_or four 0 0 * 16777216 + get_or four 1 0 * 65536 + get_or four 2 0 * 256 + get_or four 3 0 ≡ high_number four
counted [] long = absurd (omega arith)
counted (a ∷ []) long = absurd (omega arith)
counted (a ∷ b ∷ []) long = absurd (omega arith)
counted (a ∷ b ∷ c ∷ []) long = absurd (omega arith)
counted (a ∷ b ∷ c ∷ d ∷ []) long = omega arith
counted (a ∷ b ∷ c ∷ d ∷ e ∷ more) long = absurd (omega arith)

-- and the number of the bytes of a field, arranged high byte first, is what it holds
pub held : (order : ByteOrder) (bytes : List ℕ) (place : ℕ) → high_number (arranged order (bytes_at 4 bytes place)) ≡ field_at order 4 bytes place
unfolding field_at number_in
held order bytes place = refl

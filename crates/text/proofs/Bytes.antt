-- Two hex digits make a byte.
-- Assumes nothing.
use Rattle.std.proofs.Common.{refl, List, ℕ, ◌<◌, arith}
use Rattle.text.specs.Reading.{pair_at, field_at}
use Rattle.text.specs.Claims.{FieldIsBytes}

pair_byte : (text : List ℕ) (at : ℕ) → (pair_at text at).value < 256
unfolding pair_at
pair_byte text at = grind arith

pub field_is_bytes : FieldIsBytes
unfolding field_at
field_is_bytes text at = (refl, λ k d h. grind (arith, pair_byte))

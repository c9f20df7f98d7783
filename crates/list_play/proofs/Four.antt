-- The four bytes of a field are all of it.
-- Assumes nothing.
use Rattle.std.proofs.Common.{◌≡◌, refl, ℕ, List, [], ◌∷◌, get_or, length, arith}

pub four_whole : (field : List ℕ) → length field ≡ 4 → field ≡ get_or field 0 0 ∷ get_or field 1 0 ∷ get_or field 2 0 ∷ get_or field 3 0 ∷ []
four_whole [] long = absurd (omega arith)
four_whole (a ∷ []) long = absurd (omega arith)
four_whole (a ∷ b ∷ []) long = absurd (omega arith)
four_whole (a ∷ b ∷ c ∷ []) long = absurd (omega arith)
four_whole (a ∷ b ∷ c ∷ d ∷ []) long = refl
four_whole (a ∷ b ∷ c ∷ d ∷ e ∷ more) long = absurd (omega arith)

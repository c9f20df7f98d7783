-- Examples that the checker computes on the definitions: a load in the wrong order, where a field ends, 11 before 10.
use Rattle.std.specs.Prelude.{◌≡◌, List, [], ◌∷◌, ℕ}
use Rattle.refusal.specs.Answer.{accepted, refused, left, passed}
use Rattle.field.specs.Field.{load_of, store_of}

-- twelve zero bytes into which 1, 2 and 256 were stored low first
abbrev pub three_low_first : List ℕ
three_low_first =
    let none : List ℕ = 0 ∷ 0 ∷ 0 ∷ 0 ∷ 0 ∷ 0 ∷ 0 ∷ 0 ∷ 0 ∷ 0 ∷ 0 ∷ 0 ∷ [] in
    (store_of (store_of (store_of none 0 1 1).memory 4 1 2).memory 8 1 256).memory

-- loaded in the wrong order, the third key seems to belong before the other two
abbrev pub LoadedInWrongOrder : Type 0
LoadedInWrongOrder =
    (load_of three_low_first 0 0 ≡ accepted 16777216)
    × (load_of three_low_first 4 0 ≡ accepted 33554432)
    × (load_of three_low_first 8 0 ≡ accepted 65536)

-- loaded low first, as they were stored, they are what they were
abbrev pub LoadedInRightOrder : Type 0
LoadedInRightOrder =
    (load_of three_low_first 0 1 ≡ accepted 1)
    × (load_of three_low_first 4 1 ≡ accepted 2)
    × (load_of three_low_first 8 1 ≡ accepted 256)

-- A field may end where its record ends and not a byte later; an empty record has none,
-- and a place near the largest number is as far out as any.
abbrev pub FieldEnds : Type 0
FieldEnds =
    (load_of (9 ∷ 0 ∷ 0 ∷ 0 ∷ 7 ∷ []) 1 0 ≡ accepted 7)
    × (load_of (9 ∷ 0 ∷ 0 ∷ 0 ∷ 7 ∷ []) 2 0 ≡ refused 10)
    × (load_of [] 0 1 ≡ refused 10)
    × (load_of (9 ∷ 0 ∷ 0 ∷ 0 ∷ 7 ∷ []) 18446744073709551615 1 ≡ refused 10)
    × (store_of (9 ∷ 0 ∷ 0 ∷ 0 ∷ 7 ∷ []) 1 0 4294967295 ≡ left (9 ∷ 255 ∷ 255 ∷ 255 ∷ 255 ∷ []) passed)
    × (store_of (9 ∷ 0 ∷ 0 ∷ 0 ∷ 7 ∷ []) 2 0 4294967295 ≡ left (9 ∷ 0 ∷ 0 ∷ 0 ∷ 7 ∷ []) (refused 10))

-- 11 is given before 10
abbrev pub OrderFirst : Type 0
OrderFirst = (load_of [] 0 2 ≡ refused 11) × (store_of [] 0 2 5 ≡ left [] (refused 11))

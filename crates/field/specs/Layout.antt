-- Numbers as bytes, for every width and both orders: the one number layout of the project (document 01, "Key fields").
use Rattle.std.specs.Prelude.{List, [], ◌∷◌, reverse, ℕ, zero, suc, ◌+◌, ◌*◌, ◌/◌, ◌%◌, ◌^◌, ◌<◌, length, get_or}
use Rattle.field.specs.declared.ByteOrder.{ByteOrder}
use Rattle.field.specs.declared.ByteOrder.TheVariants.{HighFirst, LowFirst}

-- High byte first: each byte counts a power of 256, the last byte 1, the first of four 16,777,216.
abbrev pub high_number : List ℕ → ℕ
high_number [] = 0
high_number (byte ∷ rest) = byte * 256 ^ length rest + high_number rest

-- The bytes of a number, as many as the width says, high byte first.
abbrev pub high_bytes : ℕ → ℕ → List ℕ
high_bytes zero number = []
high_bytes (suc width) number = number / 256 ^ width % 256 ∷ high_bytes width number

-- In the other order, low byte first, the same bytes stand the other way round.
abbrev pub arranged : ByteOrder → List ℕ → List ℕ
arranged HighFirst bytes = bytes
arranged LowFirst bytes = reverse bytes

-- the number that bytes stand for in an order
unfoldable pub number_in : ByteOrder → List ℕ → ℕ
number_in order bytes = high_number (arranged order bytes)

-- the bytes, as many as the width says, that stand for a number in an order
unfoldable pub bytes_in : ByteOrder → ℕ → ℕ → List ℕ
bytes_in order width number = arranged order (high_bytes width number)

-- each entry of a list is a byte
abbrev pub Bytes : List ℕ → Type 0
Bytes bytes = (place : ℕ) → get_or bytes place 0 < 256

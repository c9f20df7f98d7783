-- What is proved of the number layout and of fields: for every width and both orders, and of the two entry points.
use Rattle.std.specs.Prelude.{◌≡◌, List, ◌⊎◌, ℕ, ◌+◌, ◌^◌, ◌<◌, ◌≤◌, length, get_or, Result}
use Rattle.refusal.specs.Answer.{accepted, refused, left, passed}
use Rattle.field.specs.declared.ByteOrder.{ByteOrder}
use Rattle.refusal.specs.declared.Refusal.{Refusal}
use Rattle.field.specs.Layout.{number_in, bytes_in, Bytes}
use Rattle.field.specs.Field.{field_at, stored, order_of, load_of, store_of}
use Rattle.field.specs.Readings.{loaded_is}

-- the number of the bytes of a number is the number
abbrev pub NumberOfItsBytes : Type 0
NumberOfItsBytes = (order : ByteOrder) (width number : ℕ) → number < 256 ^ width →
    number_in order (bytes_in order width number) ≡ number

-- the bytes of the number of bytes are the bytes
abbrev pub BytesOfTheirNumber : Type 0
BytesOfTheirNumber = (order : ByteOrder) (bytes : List ℕ) → Bytes bytes →
    bytes_in order (length bytes) (number_in order bytes) ≡ bytes

-- a number of n bytes is below 256 to the power of n
abbrev pub NumberBelowPower : Type 0
NumberBelowPower = (order : ByteOrder) (bytes : List ℕ) → Bytes bytes → number_in order bytes < 256 ^ length bytes

-- storing a number changes no byte before its field and none behind it, and not the length
abbrev pub StoreTouchesNoOther : Type 0
StoreTouchesNoOther =
    (order : ByteOrder) (width : ℕ) (bytes : List ℕ) (place number : ℕ) → place + width ≤ length bytes →
    (length (stored order width bytes place number) ≡ length bytes)
    × ((other : ℕ) → (other < place) ⊎ (place + width ≤ other) →
    get_or (stored order width bytes place number) other 0 ≡ get_or bytes other 0)

-- what was stored in a field is what the field holds
abbrev pub StoredIsHeld : Type 0
StoredIsHeld =
    (order : ByteOrder) (width : ℕ) (bytes : List ℕ) (place number : ℕ) →
    place + width ≤ length bytes → number < 256 ^ width →
    field_at order width (stored order width bytes place number) place ≡ number

-- storing what a field holds gives the record back
abbrev pub HeldIsStored : Type 0
HeldIsStored =
    (order : ByteOrder) (width : ℕ) (bytes : List ℕ) (place : ℕ) → Bytes bytes → place + width ≤ length bytes →
    stored order width bytes place (field_at order width bytes place) ≡ bytes

-- When a load is refused, and with what. The three cases leave none out and their answers differ,
-- so each is given exactly in its case:
-- 11 where the code names no order; else 10 where the field runs past the end; else the key that the field holds.
abbrev pub LoadsExactly : Type 0
LoadsExactly =
    (bytes : List ℕ) (place code : ℕ) →
    (1 < code → load_of bytes place code ≡ refused 11)
    × (code ≤ 1 → length bytes < place + 4 → load_of bytes place code ≡ refused 10)
    × (code ≤ 1 → place + 4 ≤ length bytes →
    load_of bytes place code ≡ accepted (field_at (order_of code) 4 bytes place))

-- a store in the same three cases; refused, it leaves the record as found
abbrev pub StoresExactly : Type 0
StoresExactly =
    (bytes : List ℕ) (place code key : ℕ) →
    (1 < code → store_of bytes place code key ≡ left bytes (refused 11))
    × (code ≤ 1 → length bytes < place + 4 → store_of bytes place code key ≡ left bytes (refused 10))
    × (code ≤ 1 → place + 4 ≤ length bytes →
    store_of bytes place code key ≡ left (stored (order_of code) 4 bytes place key) passed)

-- a store that is accepted, then a load: the key
abbrev pub StoreThenLoad : Type 0
StoreThenLoad =
    (bytes : List ℕ) (place code key : ℕ) → key < 4294967296 → (store_of bytes place code key).answer ≡ passed →
    load_of (store_of bytes place code key).memory place code ≡ accepted key

-- a load that is accepted, then a store of its key: the record as it was
abbrev pub LoadThenStore : Type 0
LoadThenStore =
    (bytes : List ℕ) (place code key : ℕ) → Bytes bytes → load_of bytes place code ≡ accepted key →
    store_of bytes place code key ≡ left bytes passed

-- two answers to a load that read the same in the document's terms are the same
abbrev pub LoadedDiffer : Type 0
LoadedDiffer = (a b : Result ℕ Refusal) → loaded_is a ≡ loaded_is b → a ≡ b

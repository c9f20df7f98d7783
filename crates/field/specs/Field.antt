-- Fields of a lent record: where they stand, what is refused, what a load answers and a store leaves
-- (document 01, "Key fields" and "Refusal numbers").
use Prim.{Unit}
use Rattle.std.specs.Prelude.{◌≡◌, Result, Bool, List, ◌++◌, ℕ, zero, suc, ◌+◌, ltb, length, take, drop}
use Rattle.refusal.specs.declared.Refusal.{Refusal}
use Rattle.refusal.specs.Answer.{Answer, accepted, answer_is, Left, left, Tests, passed, refusing, answering, leaving}
use Rattle.field.specs.declared.ByteOrder.{ByteOrder}
use Rattle.field.specs.declared.ByteOrder.TheVariants.{HighFirst, LowFirst}
use Rattle.field.specs.Layout.{number_in, bytes_in}

-- the bytes of a record from a place on, as many as the width says
abbrev pub bytes_at : ℕ → List ℕ → ℕ → List ℕ
bytes_at width bytes place = take width (drop place bytes)

-- a record with other bytes from a place on, and no byte changed before them or behind them
abbrev pub put_bytes : List ℕ → ℕ → List ℕ → List ℕ
put_bytes bytes place new = take place bytes ++ new ++ drop (place + length new) bytes

-- the number that a field holds
unfoldable pub field_at : ByteOrder → ℕ → List ℕ → ℕ → ℕ
field_at order width bytes place = number_in order (bytes_at width bytes place)

-- a record after a number is stored in a field
unfoldable pub stored : ByteOrder → ℕ → List ℕ → ℕ → ℕ → List ℕ
stored order width bytes place number = put_bytes bytes place (bytes_in order width number)

-- Code 0 names the order with the high byte first, code 1 the one with the low byte first.
-- (No other code gets past the tests.)
abbrev pub order_of : ℕ → ByteOrder
order_of zero = HighFirst
order_of (suc code) = LowFirst

-- 11: the code names neither order
abbrev pub no_such_order : ℕ → Bool
no_such_order code = ltb 1 code

-- the answer to a code: its order, or 11
abbrev pub OrderOfCode : ℕ → Result ByteOrder Refusal → Type 0
OrderOfCode code answer =
    answer_is (λ order. order) answer ≡ answering (refusing (no_such_order code) 11 passed) (accepted (order_of code))

-- 10: part of the field, or all of it, lies past the end of its record, which has this length
abbrev pub runs_past : ℕ → ℕ → Bool
runs_past len place = ltb len (place + 4)

-- fields are tested for 11, then 10
unfoldable pub field_tests : ℕ → ℕ → ℕ → Tests
field_tests len place code = refusing (no_such_order code) 11 (refusing (runs_past len place) 10 passed)

-- a load answers the key that the four bytes stand for in the named order
unfoldable pub load_of : List ℕ → ℕ → ℕ → Answer ℕ
load_of bytes place code =
    answering (field_tests (length bytes) place code) (accepted (field_at (order_of code) 4 bytes place))

-- a store puts the key's four bytes into the field and changes nothing else
unfoldable pub store_of : List ℕ → ℕ → ℕ → ℕ → Left (List ℕ) (Unit {0})
store_of bytes place code key =
    leaving (field_tests (length bytes) place code) bytes (left (stored (order_of code) 4 bytes place key) passed)

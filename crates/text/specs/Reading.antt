-- Reading at a place of a text (document 01, "The schedule program"). A reading that fails goes to `lost`,
-- a place past the end of every text, where every later reading fails too:
-- so a line that is broken anywhere ends at `lost`.
use Rattle.std.specs.Prelude.{List, [], ◌∷◌, Bool, cond, ℕ, ◌+◌, ◌-◌, ◌*◌, length, get_or, eqb, ltb}
use Rattle.text.specs.declared.Reading.{Reading}

abbrev pub lost : ℕ
lost = 18446744073709551615

-- the byte at a place; past the end 0, which stands in no line
abbrev pub byte_at : List ℕ → ℕ → ℕ
byte_at text at = get_or text at 0

-- the place behind a byte; `lost` where no byte stands
unfoldable pub place_after : List ℕ → ℕ → ℕ
place_after text at = cond (ltb at (length text)) (at + 1) lost

-- the place behind a word, if the word stands here
unfoldable pub word : List ℕ → ℕ → List ℕ → ℕ
word text at [] = at
word text at (b ∷ bs) = cond (eqb (byte_at text at) b) (word text (place_after text at) bs) lost

-- the place, if a condition holds
abbrev pub only : Bool → ℕ → ℕ
only holds at = cond holds at lost

-- ---- decimal numbers, without leading zeros

-- what a digit stands for; 10 for any other byte
unfoldable pub digit_of : ℕ → ℕ
digit_of byte = cond (ltb byte 48) 10 (cond (ltb byte 58) (byte - 48) 10)

-- a number that was read, and the place behind it
abbrev pub numeral : (value next : ℕ) → Reading ℕ
numeral value next = record { value = value; next = next }

-- a number starts with a digit
abbrev pub first_digit : List ℕ → ℕ → Reading ℕ
first_digit text at =
    let d = digit_of (byte_at text at) in
    cond (ltb d 10) (numeral d (place_after text at)) (numeral 0 lost)

-- one digit more, where one stands: but none behind a 0 in front, and none behind five digits
unfoldable pub next_digit : List ℕ → Reading ℕ → Reading ℕ
next_digit text n =
    let d = digit_of (byte_at text n.next) in
    cond (eqb n.value 0) n
    (cond (ltb n.value 10000)
    (cond (ltb d 10) (numeral (n.value * 10 + d) (place_after text n.next)) n) n)

-- Up to five digits are read. No number of a good line in a text of at most 65,536 bytes has more,
-- and a sixth digit stands where the line has to end.
abbrev pub number_at : List ℕ → ℕ → Reading ℕ
number_at text at = next_digit text (next_digit text (next_digit text (next_digit text (first_digit text at))))

-- ---- fields: eight hex digits, either case

-- what a hex digit stands for; 16 for any other byte
unfoldable pub hex_of : ℕ → ℕ
hex_of byte =
    cond (ltb byte 48) 16
    (cond (ltb byte 58) (byte - 48)
    (cond (ltb byte 65) 16
    (cond (ltb byte 71) (byte - 55)
    (cond (ltb byte 97) 16
    (cond (ltb byte 103) (byte - 87) 16)))))

abbrev pub no_pair : Reading ℕ
no_pair = record { value = 0; next = lost }

-- two hex digits are a byte
unfoldable pub pair_at : List ℕ → ℕ → Reading ℕ
pair_at text at =
    let second = place_after text at in
    let high = hex_of (byte_at text at) in
    let low = hex_of (byte_at text second) in
    cond (ltb high 16)
    (cond (ltb low 16) (record { value = high * 16 + low; next = place_after text second }) no_pair) no_pair

-- four of them are a field
unfoldable pub field_at : List ℕ → ℕ → Reading (List ℕ)
field_at text at =
    let p = pair_at text at in
    let q = pair_at text p.next in
    let r = pair_at text q.next in
    let s = pair_at text r.next in
    record { value = p.value ∷ q.value ∷ r.value ∷ s.value ∷ []; next = s.next }

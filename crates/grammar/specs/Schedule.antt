-- What a schedule is, and the text that it is written as (document 01, "The schedule program").
-- Of reading it takes only what a hex digit stands for.
use Prim.{Unit}
use Rattle.std.specs.Prelude.{◌⊎◌, ◌≡◌, cond, List, [], ◌∷◌, ◌++◌, ℕ, ◌+◌, ◌*◌, ◌<◌, ◌≤◌, length, eqb}
use Prim.Native.String.{String}
use Rattle.calls.specs.declared.Call.TheVariants.{Add, Remove, Contains}
use Rattle.calls.specs.Calls.{spaced}
use Rattle.text.specs.Reading.{hex_of}
use Rattle.logic.specs.Quoted.{bytes}
use Rattle.page.specs.Page.{decimal}

-- a line between the head and `end=`; the hex digits are the bytes that stand in the text
pub data Item : Type 0 where
  calls : (party code : ℕ) (digits : List ℕ) → Item
  steps : (party : ℕ) → Item

-- two hex digits are a byte
abbrev pub byte_pairs : List ℕ → List ℕ
byte_pairs [] = []
byte_pairs (high ∷ []) = []
byte_pairs (high ∷ low ∷ rest) = (hex_of high * 16 + hex_of low) ∷ byte_pairs rest

-- order code 0 is big, 1 is little
pub record Schedule : Type 0 where
  pub parties : ℕ
  pub nodes : ℕ
  pub order : ℕ
  pub items : List Item

-- ---- the text

-- a line of a name and a number
abbrev pub number_text : String → ℕ → List ℕ
number_text name n = bytes name ++ decimal n ++ bytes "\n"

unfoldable pub order_text : ℕ → List ℕ
order_text order = cond (eqb order 0) (bytes "order=big\n") (bytes "order=little\n")

-- call code 0 is add, 1 is remove, 2 is contains
unfoldable pub verb_text : ℕ → List ℕ
verb_text code = cond (eqb code 0) (spaced Add) (cond (eqb code 1) (spaced Remove) (spaced Contains))

abbrev pub item_text : Item → List ℕ
item_text (calls party code digits) = bytes "call=" ++ decimal party ++ verb_text code ++ digits ++ bytes "\n"
item_text (steps party) = number_text "step=" party

-- line by line
abbrev pub items_text : List Item → List ℕ
items_text [] = []
items_text (item ∷ rest) = item_text item ++ items_text rest

-- the three lines of the head, the calls and steps, and their number
abbrev pub text_of : Schedule → List ℕ
text_of s =
    number_text "parties=" s.parties ++ number_text "nodes=" s.nodes ++ order_text s.order
    ++ items_text s.items ++ number_text "end=" (length s.items)

-- ---- the rules

-- each is a hex digit, of either case
abbrev pub AllHex : List ℕ → Type 0
AllHex [] = Unit {0}
AllHex (digit ∷ rest) = (hex_of digit < 16) × AllHex rest

-- the party is 0 to 99, and a field has eight hex digits
abbrev pub GoodItem : Item → Type 0
GoodItem (calls party code digits) = (party ≤ 99) × (code < 3) × (length digits ≡ 8) × AllHex digits
GoodItem (steps party) = party ≤ 99

-- each item is good
abbrev pub GoodItems : List Item → Type 0
GoodItems [] = Unit {0}
GoodItems (item ∷ rest) = GoodItem item × GoodItems rest

-- parties are 1 to 16, nodes 0 or 4 to 4,096
pub record GoodSchedule (s : Schedule) : Type 0 where
  pub parties : (1 ≤ s.parties) × (s.parties ≤ 16)
  pub nodes : (s.nodes ≡ 0) ⊎ ((4 ≤ s.nodes) × (s.nodes ≤ 4096))
  pub order : s.order < 2
  pub items : GoodItems s.items

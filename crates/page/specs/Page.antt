-- Bytes written one after another into a buffer, and numbers in decimal.
use Rattle.std.specs.Prelude.{◌≡◌, List, [], ◌∷◌, ◌++◌, cond, ℕ, zero, suc, ◌+◌, ◌/◌, ◌%◌, length, set, ltb}
use Rattle.std.specs.Borrow.{MutBor}
use denote.Triple.Both.{Both}
use Rattle.page.specs.declared.Page as lent

-- a buffer, and the place of the next byte
pub record Page : Type 0 where
  pub out : List ℕ
  pub at : ℕ

abbrev pub page : List ℕ → ℕ → Page
page out at = record { out = out; at = at }

-- one byte more; at or past the end nothing is written, and the place stays
abbrev pub put_byte : Page → ℕ → Page
put_byte p byte = cond (ltb p.at (length p.out)) (page (set p.out p.at byte) (p.at + 1)) p

-- bytes one after another
unfoldable pub put : Page → List ℕ → Page
put p [] = p
put p (byte ∷ rest) = put (put_byte p byte) rest

-- one page comes from another by writing these bytes, as far as they have room, and nothing else
pub record Wrote (before : Page) (bytes : List ℕ) (after : Page) : Type 0 where
  pub path : after ≡ put before bytes

-- ---- contracts

-- a lent buffer, as it came and as it is left
abbrev pub Buffer : Type 0
Buffer = Both (MutBor (List ℕ)) (MutBor (List ℕ))

-- from this place on these bytes are put into the buffer, and the next byte goes to the last place
abbrev pub Puts : Buffer → (to : ℕ) → (bytes : List ℕ) → (next : ℕ) → Type 0
Puts out to bytes next = Wrote (page out.entry.now to) bytes (page out.exit.now next)

-- what a lent page is: what its buffer holds, and the place of the next byte
abbrev pub page_of : lent.Page → Page
page_of p = page p.out.now p.at

-- a page that nothing is put on yet, in this buffer
abbrev pub StartsIn : MutBor (List ℕ) → lent.Page → Type 0
StartsIn out p = (page_of p ≡ page out.now 0) × (p.out.ghost_name ≡ out.ghost_name)

-- these bytes are put on a lent page, and into the buffer that it was made of
abbrev pub PutsOn : Both (MutBor lent.Page) (MutBor lent.Page) → (bytes : List ℕ) → Type 0
PutsOn p bytes =
    (page_of p.exit.now ≡ put (page_of p.entry.now) bytes) × (p.exit.now.out.ghost_name ≡ p.entry.now.out.ghost_name)

-- ---- numbers

-- the digits of a number without leading zeros, at most so many
unfoldable pub digits : (most n : ℕ) → List ℕ
digits zero n = []
digits (suc most) n = cond (ltb n 10) ((48 + n) ∷ []) (digits most (n / 10) ++ ((48 + n % 10) ∷ []))

-- twenty are enough for every number of 64 bits (`DecimalIsWhole` in Claims)
abbrev pub decimal : ℕ → List ℕ
decimal n = digits 20 n

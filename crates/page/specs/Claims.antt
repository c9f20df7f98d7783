-- What is proved of pages and numbers, beside the contracts.
use Rattle.std.specs.Prelude.{◌≡◌, List, ◌++◌, ℕ, ◌+◌, ◌^◌, ◌<◌, ◌≤◌, length, take, drop}
use Rattle.page.specs.Page.{Page, page, Wrote, digits, decimal}

-- with room for them the bytes stand where they were put, every other byte is as before,
-- and the place is the one behind them
abbrev pub Room : Type 0
Room = (out bytes : List ℕ) (at : ℕ) (after : Page) → at + length bytes ≤ length out → Wrote (page out at) bytes after →
    after ≡ page (take at out ++ bytes ++ drop (at + length bytes) out) (at + length bytes)

-- a buffer keeps its length, and its bytes before the place
abbrev pub KeepsBefore : Type 0
KeepsBefore = (out bytes : List ℕ) (at : ℕ) (after : Page) → Wrote (page out at) bytes after →
    (length after.out ≡ length out) × (take at after.out ≡ take at out)

-- a number has no more digits than it may have
abbrev pub DigitsAreFew : Type 0
DigitsAreFew = (most n : ℕ) → length (digits most n) ≤ most

-- no digit of a number of 64 bits is missing: with more digits allowed it reads the same
abbrev pub DecimalIsWhole : Type 0
DecimalIsWhole = (n more : ℕ) → n < 10 ^ 20 → digits (20 + more) n ≡ decimal n

-- What a buffer holds once bytes were put into it, and how many digits a number has.
-- Assumes nothing.
use Rattle.std.proofs.Common.{◌≡◌, refl, ap, ◌∙◌, Bool, true, false, cond, List, [], ◌∷◌, ◌++◌, ℕ, zero, suc, ◌+◌, ◌/◌, ◌%◌, ◌<◌, ◌≤◌}
use Rattle.std.proofs.Common.{add-one, arith, length, take, set, length-set, length-append, ltb, lt-ltb}
use Rattle.std.proofs.Math.Seq.{sets, sets-eq, take-set-le}
use Rattle.logic.proofs.Cases.{on_cond}
use Rattle.page.specs.Page.{Page, page, put_byte, put, digits}
use Rattle.page.proofs.Laws.{digits_enough}
use Rattle.page.specs.Claims.{Room, KeepsBefore, DigitsAreFew, DecimalIsWhole}

-- ---- bytes

put_sets : (bytes out : List ℕ) (at : ℕ) → at + length bytes ≤ length out →
    put (page out at) bytes ≡ page (sets out at bytes) (at + length bytes)
unfolding put
put_sets [] out at fits = ap (page out) (omega arith)
put_sets (byte ∷ rest) out at fits =
    let inside : at < length out = omega arith in
    let fits_on : suc at + length rest ≤ length (set out at byte) = simp length-set (omega arith) in
    ap (λ (p : Page). put p rest) (simp (lt-ltb at (length out) inside, add-one at))
    ∙ put_sets rest (set out at byte) (suc at) fits_on
    ∙ ap (page (sets (set out at byte) (suc at) rest)) (omega arith)

pub room : Room
room out bytes at after fits wrote =
    wrote.path ∙ put_sets bytes out at fits ∙ ap (λ (l : List ℕ). page l (at + length bytes)) (sets-eq bytes out at fits)

-- what a page has kept of an earlier one: its length, its bytes before a start, and a place that is not before that start
abbrev Kept : (start : ℕ) (p q : Page) → Type 0
Kept start p q = (start ≤ q.at) × (length q.out ≡ length p.out) × (take start q.out ≡ take start p.out)

byte_keeps : (inside : Bool) (start : ℕ) (p : Page) (byte : ℕ) → start ≤ p.at →
    Kept start p (cond inside (page (set p.out p.at byte) (p.at + 1)) p)
byte_keeps true start p byte h = (omega arith, length-set p.out p.at byte, take-set-le start p.out p.at byte h)
byte_keeps false start p byte h = (h, refl, refl)

put_keeps : (start : ℕ) (bytes : List ℕ) (p : Page) → start ≤ p.at → Kept start p (put p bytes)
unfolding put
put_keeps start [] p h = (h, refl, refl)
put_keeps start (byte ∷ rest) p h =
    let one = byte_keeps (ltb p.at (length p.out)) start p byte h in
    let all = put_keeps start rest (put_byte p byte) one.0 in
    (all.0, all.1 ∙ one.1, all.2 ∙ one.2)

pub keeps_before : KeepsBefore
keeps_before out bytes at after wrote =
    let kept = put_keeps at bytes (page out at) (omega arith) in
    (ap (λ (p : Page). length p.out) wrote.path ∙ kept.1, ap (λ (p : Page). take at p.out) wrote.path ∙ kept.2)

-- ---- numbers

pub digits_are_few : DigitsAreFew
unfolding digits
digits_are_few zero n = omega arith
digits_are_few (suc most) n =
    let fewer = digits_are_few most (n / 10) in
    on_cond (λ l. length l ≤ suc most) (ltb n 10) ((48 + n) ∷ []) (digits most (n / 10) ++ ((48 + n % 10) ∷ []))
    (λ one. omega arith) (λ more. simp length-append (omega arith))

pub decimal_is_whole : DecimalIsWhole
decimal_is_whole n more h = digits_enough 19 n more h

-- Reading a written number: its first digit, one reading for each further digit, and readings that find no digit and change nothing.
-- Assumes nothing.
use Rattle.std.proofs.lemmas.Bool.Decides.{nat_tests}
use Rattle.std.proofs.Common.{◌≡◌, refl, ap, sym, ◌∙◌, List, [], ◌∷◌, ◌++◌, append_assoc, ℕ, zero, suc, ◌+◌, ◌-◌, ◌*◌, ◌/◌, ◌%◌, ◌^◌}
use Rattle.std.proofs.Common.{◌<◌, ◌≤◌, not-suc-le-zero, pow-suc, add-zero, zero-add, suc-add, arith, length, get_or, length-append, get_or-append-add}
use Rattle.std.proofs.Common.{lt-ltb, le-ltb, ne_eqb}
use Rattle.std.proofs.Math.Logic.{dite}
use Rattle.std.proofs.Math.Decide.{dec_lt}
use Rattle.std.proofs.Math.Seq.{get_or_at, append_snoc}
use Rattle.text.specs.declared.Reading.{Reading}
use Rattle.text.specs.Reading.{byte_at, place_after, digit_of, numeral, first_digit, next_digit}
use Rattle.page.specs.Page.{digits, decimal}
use Rattle.grammar.specs.Numerals.{ReadsBack}

-- ---- one digit

digit_of_lem : (q : ℕ) → q < 10 → digit_of (48 + q) ≡ q
unfolding digit_of
digit_of_lem q h = grind (arith, nat_tests)

-- a digit that stands behind `before`
module _ (before : List ℕ) (q : ℕ) (behind : List ℕ) (at : ℕ) (here : length before ≡ at) where
  digit_there : q < 10 → digit_of (byte_at (before ++ (48 + q) ∷ behind) at) ≡ q
  digit_there h = ap digit_of (get_or_at before (48 + q) behind 0 at here) ∙ digit_of_lem q h

  place_there : place_after (before ++ (48 + q) ∷ behind) at ≡ at + 1
  unfolding place_after
  place_there = simp (lt-ltb at (length (before ++ (48 + q) ∷ behind)) (simp length-append (omega arith)))

  first_there : q < 10 → first_digit (before ++ (48 + q) ∷ behind) at ≡ numeral q (at + 1)
  first_there h = simp (digit_there h, lt-ltb q 10 h, place_there)

  next_there : (v : ℕ) → q < 10 → 0 < v → v < 10000 →
      next_digit (before ++ (48 + q) ∷ behind) (numeral v at) ≡ numeral (v * 10 + q) (at + 1)
  unfolding next_digit
  next_there v h positive few =
      simp (ne_eqb v 0 (λ e. omega arith), lt-ltb v 10000 few, digit_there h, lt-ltb q 10 h, place_there)

-- the byte behind
byte_behind : (before behind : List ℕ) → byte_at (before ++ behind) (length before) ≡ get_or behind 0 0
byte_behind before behind =
    ap (byte_at (before ++ behind)) (sym (add-zero (length before))) ∙ get_or-append-add before behind 0 0

-- ---- readings that find no digit

next_stays : (text : List ℕ) (v at : ℕ) → digit_of (byte_at text at) ≡ 10 → next_digit text (numeral v at) ≡ numeral v at
unfolding next_digit
next_stays text v at ends = grind (arith, ends)

-- so many readings
abbrev more_digits : List ℕ → ℕ → Reading ℕ → Reading ℕ
more_digits text zero x = x
more_digits text (suc k) x = next_digit text (more_digits text k x)

digits_stay : (text : List ℕ) (x y : Reading ℕ) (j i : ℕ) → more_digits text j x ≡ y → next_digit text y ≡ y → more_digits text (i + j) x ≡ y
digits_stay text x y j zero e stays = ap (λ (k : ℕ). more_digits text k x) (zero-add j) ∙ e
digits_stay text x y j (suc i) e stays =
    ap (λ (k : ℕ). more_digits text k x) (suc-add i j) ∙ ap (next_digit text) (digits_stay text x y j i e stays) ∙ stays

-- ---- all digits

-- a number of one digit in a text
module _ (most n : ℕ) (small : n < 10) (before : List ℕ) where
  pub one_is : digits (suc most) n ≡ (48 + n) ∷ []
  unfolding digits
  one_is = simp (lt-ltb n 10 small)

  one_stands : (behind : List ℕ) → before ++ digits (suc most) n ++ behind ≡ before ++ (48 + n) ∷ behind
  one_stands behind = ap (λ (l : List ℕ). before ++ l ++ behind) one_is ∙ append_snoc before (48 + n) behind

  one_long : length before + 1 ≡ length (before ++ digits (suc most) n)
  one_long = sym (ap (λ (l : List ℕ). length (before ++ l)) one_is ∙ length-append before ((48 + n) ∷ []))

-- a longer one: its front digits, and its last
module _ (most n : ℕ) (large : 10 ≤ n) (before : List ℕ) where
  pub more_is : before ++ digits (suc most) n ≡ before ++ digits most (n / 10) ++ ((48 + n % 10) ∷ [])
  unfolding digits
  more_is = simp (le-ltb n 10 large) (sym (append_assoc before (digits most (n / 10)) ((48 + n % 10) ∷ [])))

  more_stands : (behind : List ℕ) →
      before ++ digits (suc most) n ++ behind ≡ before ++ digits most (n / 10) ++ (48 + n % 10) ∷ behind
  more_stands behind =
      ap (λ (l : List ℕ). l ++ behind) more_is ∙ append_snoc (before ++ digits most (n / 10)) (48 + n % 10) behind

  more_long : length (before ++ digits most (n / 10)) + 1 ≡ length (before ++ digits (suc most) n)
  more_long = sym (ap length more_is ∙ length-append (before ++ digits most (n / 10)) ((48 + n % 10) ∷ []))

-- a number that stands in a text behind `before` is read to its end by its first digit and at most k readings
record Read (text before spelt : List ℕ) (k n : ℕ) : Type 0 where
  count : ℕ
  few : count ≤ k
  path : more_digits text count (first_digit text (length before)) ≡ numeral n (length (before ++ spelt))

read_one : (k n most : ℕ) → n < 10 → (text before behind : List ℕ) → text ≡ before ++ digits (suc most) n ++ behind →
    Read text before (digits (suc most) n) k n
read_one k n most small text before behind stands =
    record {
      count = 0;
      few = omega arith;
      path = ap (λ (t : List ℕ). first_digit t (length before)) (stands ∙ one_stands most n small before behind)
          ∙ first_there before n behind (length before) refl small
          ∙ ap (numeral n) (one_long most n small before);
    }

read_more : (k n most : ℕ) → 10 ≤ n → n < 100000 → (text before behind : List ℕ) →
    text ≡ before ++ digits most (n / 10) ++ (48 + n % 10) ∷ behind →
    Read text before (digits most (n / 10)) k (n / 10) → Read text before (digits (suc most) n) (suc k) n
read_more k n most large short text before behind stands front =
    let at = length (before ++ digits most (n / 10)) in
    let last = next_there (before ++ digits most (n / 10)) (n % 10) behind at refl (n / 10) in
    record {
      count = suc front.count;
      few = omega (arith, front.few);
      path = ap (next_digit text) front.path
          ∙ ap (λ (t : List ℕ). next_digit t (numeral (n / 10) at)) stands
          ∙ last (omega arith) (omega arith) (omega arith)
          ∙ ap (λ (v : ℕ). numeral v (at + 1)) (omega arith)
          ∙ ap (numeral n) (more_long most n large before);
    }

read_all : (k n most : ℕ) → k ≤ most → n < 10 ^ suc k → n < 100000 → (text before behind : List ℕ) →
    text ≡ before ++ digits (suc most) n ++ behind → Read text before (digits (suc most) n) k n
read_all zero n most fits small short text before behind stands = read_one zero n most small text before behind stands
read_all (suc k) n zero fits small short text before behind stands = absurd (not-suc-le-zero fits)
read_all (suc k) n (suc most) fits small short text before behind stands =
    let smaller : n / 10 < 10 ^ suc k = omega (arith, rw (pow-suc 10 (suc k)) at small) in
    dite (dec_lt n 10)
    (λ (tiny : n < 10). read_one (suc k) n (suc most) tiny text before behind stands)
    (λ (not_tiny : n < 10 → ⊥).
    let large : 10 ≤ n = omega arith in
    let parted = stands ∙ more_stands (suc most) n large before behind in
    let front = read_all k (n / 10) most (omega arith) smaller (omega arith) text before ((48 + n % 10) ∷ behind) parted in
    read_more k n (suc most) large short text before behind parted front)

pub reads_back : ReadsBack
reads_back before behind n short ends =
    let text = before ++ decimal n ++ behind in
    let at = length (before ++ decimal n) in
    let start = first_digit text (length before) in
    let read = read_all 4 n 19 (omega arith) short short text before behind refl in
    let next : digit_of (byte_at text at) ≡ 10 = ap digit_of (byte_behind (before ++ decimal n) behind) ∙ ends in
    let four : 4 ≡ 4 - read.count + read.count = omega (arith, read.few) in
    ap (λ (k : ℕ). more_digits text k start) four
    ∙ digits_stay text start (numeral n at) read.count (4 - read.count) read.path (next_stays text n at next)

-- Writing on, and the digits of a number.
-- Assumes nothing.
use Rattle.std.proofs.Common.{sym, ◌≡◌, refl, ap, ◌∙◌, List, [], ◌∷◌, ◌++◌, ℕ, zero, suc, ◌+◌, ◌/◌, ◌%◌, ◌^◌, ◌<◌, ◌≤◌}
use Rattle.std.proofs.Common.{arith, cond, ltb, lt-ltb, le-ltb, add-one, suc-add, pow-suc, length, get_or, take, append_assoc}
use Rattle.std.proofs.Math.Seq.{take-suc}
use Rattle.std.proofs.lemmas.List.{append-nil}
use Rattle.page.specs.Page.{Page, put_byte, put, Wrote, digits, decimal}

-- two texts one after the other are one text
pub put_put : (p : Page) (a b : List ℕ) → put (put p a) b ≡ put p (a ++ b)
unfolding put
put_put p [] b = refl
put_put p (x ∷ a) b = put_put (put_byte p x) a b

-- no text
pub put_nothing : (p : Page) → put p [] ≡ p
unfolding put
put_nothing p = refl

-- a text, and then another
pub on : {p q r : Page} {a b : List ℕ} → Wrote p a q → Wrote q b r → Wrote p (a ++ b) r
on {p} {q} {r} {a} {b} e f = record { path = f.path ∙ ap (λ (x : Page). put x b) e.path ∙ put_put p a b }

-- one byte more of a text
pub put_more : (p : Page) (text : List ℕ) (i : ℕ) → i < length text → put p (take (i + 1) text) ≡ put (put p (take i text)) (get_or text i 0 ∷ [])
put_more p text i h = rw (add-one i, take-suc text i 0 h) (sym (put_put p _ _))

-- A text made of one line for each of several things, one after another.
module _ {A : Type 0} (text : List A → List ℕ) (line : A → List ℕ)
    (none : text [] ≡ []) (more : (first : A) (rest : List A) → text (first ∷ rest) ≡ line first ++ text rest) where
  both : (a b : List A) → text (a ++ b) ≡ text a ++ text b
  both [] b = ap (λ (l : List ℕ). l ++ text b) (sym none)
  both (first ∷ a) b =
      more first (a ++ b) ∙ ap (λ (l : List ℕ). line first ++ l) (both a b)
      ∙ sym (append_assoc (line first) (text a) (text b)) ∙ ap (λ (l : List ℕ). l ++ text b) (sym (more first a))

  one : (first : A) → text (first ∷ []) ≡ line first
  one first = more first [] ∙ ap (λ (l : List ℕ). line first ++ l) none ∙ append-nil (line first)

  -- one line more
  pub each_more : (p : Page) (l : List A) (i : ℕ) (d : A) → i < length l →
      put p (text (take (i + 1) l)) ≡ put (put p (text (take i l))) (line (get_or l i d))
  each_more p l i d h =
      ap (λ (x : List A). put p (text x)) (rw (add-one i, take-suc l i d h))
      ∙ ap (put p) (both (take i l) (get_or l i d ∷ []) ∙ ap (λ (x : List ℕ). text (take i l) ++ x) (one (get_or l i d)))
      ∙ sym (put_put p _ _)

-- a number below a power of ten has no more digits than the power has zeros, however many it may have
pub digits_enough : (k n more : ℕ) → n < 10 ^ suc k → digits (suc k + more) n ≡ digits (suc k) n
unfolding digits
digits_enough zero n more h = rw (suc-add zero more, lt-ltb n 10 h)
digits_enough (suc k) n more h =
    let smaller : n / 10 < 10 ^ suc k = omega (arith, rw (pow-suc 10 (suc k)) at h) in
    ap (λ (m : ℕ). digits m n) (suc-add (suc k) more)
    ∙ ap (λ (l : List ℕ). cond (ltb n 10) ((48 + n) ∷ []) (l ++ ((48 + n % 10) ∷ []))) (digits_enough k (n / 10) more smaller)

-- a number of one digit
pub one_digit : (p : Page) (n : ℕ) → n < 10 → put p ((48 + n % 10) ∷ []) ≡ put p (decimal n)
unfolding digits
one_digit p n h = let e : n % 10 ≡ n = omega arith in rw (e, lt-ltb n 10 h)

-- the last digit of a longer number
pub last_digit : (p : Page) (n : ℕ) → 10 ≤ n → n < 10 ^ 20 → put (put p (decimal (n / 10))) ((48 + n % 10) ∷ []) ≡ put p (decimal n)
unfolding digits
last_digit p n h fits =
    let fewer : digits 20 (n / 10) ≡ digits 19 (n / 10) = digits_enough 18 (n / 10) 1 (omega arith) in
    put_put p _ _ ∙ ap (λ (l : List ℕ). put p (l ++ ((48 + n % 10) ∷ []))) fewer ∙ rw (le-ltb n 10 h)

-- the same bytes written to the same page leave one buffer and one place
pub one_page : {p : Page} {bytes : List ℕ} {q r : Page} → Wrote p bytes q → Wrote p bytes r → q ≡ r
one_page e f = e.path ∙ sym f.path

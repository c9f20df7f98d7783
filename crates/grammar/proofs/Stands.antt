-- A reading that is not lost has read what stands in the text: words, numbers as `decimal` writes them, hex digits.
-- Assumes nothing.
use Rattle.std.proofs.Common.{◌≡◌, refl, ap, sym, subst, ◌∙◌, ◌≢◌, Bool, true, false, cond, List, [], ◌∷◌, ◌++◌, append_assoc, ℕ, zero, suc, ◌+◌, ◌*◌}
use Rattle.std.proofs.Common.{◌/◌, ◌%◌, ◌^◌, ◌<◌, ◌≤◌, pow-suc, add-one, arith, length, drop, drop-cons, eqb, ltb, ltb-true, lt-ltb, eqb-true}
use Prim.Native.String.{String}
use Rattle.std.proofs.lemmas.Bool.{eqb-false}
use Rattle.text.specs.Reading.{lost, byte_at, place_after, word, only, digit_of, numeral, first_digit, next_digit, number_at, hex_of, no_pair, pair_at}
use Rattle.text.specs.Reading.{field_at}
use Rattle.logic.specs.Quoted.{bytes}
use Rattle.logic.proofs.Cases.{on_cond}
use Rattle.text.specs.declared.Reading.{Reading}
use Rattle.page.specs.Page.{digits, decimal}
use Rattle.script.specs.Lines.{line_end}
use Rattle.grammar.specs.Schedule.{AllHex, number_text}
use Rattle.grammar.proofs.Numerals.{one_is, more_is}

-- ---- tests

-- a choice whose other place is lost, and which is not lost, was taken
pub taken : {A : Type 0} (b : Bool) (x y : A) (place : A → ℕ) → place y ≡ lost → place (cond b x y) ≢ lost
    → (b ≡ true) × (place (cond b x y) ≡ place x)
taken true x y place e h = (refl, refl)
taken false x y place e h = absurd (h e)

-- ---- what stands in a text

-- from a place that is not lost on stand these bytes, up to another place
pub record Stands (text : List ℕ) (at : ℕ) (w : List ℕ) (next : ℕ) : Type 0 where
  pub kept : at ≢ lost
  pub path : drop at text ≡ w ++ drop next text

module _ {text : List ℕ} where
  -- one after another
  pub then : {a b c : ℕ} {v w : List ℕ} → Stands text a v b → Stands text b w c → Stands text a (v ++ w) c
  then {a = a} {b = b} {c = c} {v = v} {w = w} s t =
      record { kept = s.kept; path = s.path ∙ ap (λ (l : List ℕ). v ++ l) t.path ∙ sym (append_assoc v w (drop c text)) }

  -- up to the same place by another name
  pub upto : {a b c : ℕ} {w : List ℕ} → Stands text a w b → b ≡ c → Stands text a w c
  upto {a = a} {w = w} s e = subst (λ (x : ℕ). Stands text a w x) e s

-- ---- digits

-- if a byte stands for less than 10, it is this digit
abbrev Spells : (byte digit : ℕ) → Type 0
Spells b d = d < 10 → 48 + d ≡ b

digit_byte : (b : ℕ) → Spells b (digit_of b)
unfolding digit_of
digit_byte b h = grind arith

-- enough digits are as good as one more
digits_more : (k v : ℕ) → v < 10 ^ suc k → digits (suc (suc k)) v ≡ digits (suc k) v
unfolding digits
digits_more zero v h = rw (lt-ltb v 10 h)
digits_more (suc k) v h =
    let smaller : v / 10 < 10 ^ suc k = omega (arith, rw (pow-suc 10 (suc k)) at h) in
    ap (λ (l : List ℕ). cond (ltb v 10) ((48 + v) ∷ []) (l ++ ((48 + v % 10) ∷ []))) (digits_more k (v / 10) smaller)

decimal_one : (d b : ℕ) → d < 10 → 48 + d ≡ b → b ∷ [] ≡ decimal d
decimal_one d b h e = ap (λ (x : ℕ). x ∷ []) (sym e) ∙ sym (one_is 19 d h [])

decimal_more : (v d b : ℕ) → 0 < v → v < 10000 → d < 10 → 48 + d ≡ b → decimal v ++ (b ∷ []) ≡ decimal (v * 10 + d)
decimal_more v d b positive few h e =
    let n = v * 10 + d in
    let front : v ≡ n / 10 = omega arith in
    let last : b ≡ 48 + n % 10 = omega arith in
    ap (λ (l : List ℕ). l ++ (b ∷ [])) (digits_more 18 v (omega arith))
    ∙ ap (λ (x : ℕ). digits 19 x ++ (b ∷ [])) front
    ∙ ap (λ (x : ℕ). digits 19 (n / 10) ++ (x ∷ [])) last
    ∙ sym (more_is 19 n (omega arith) [])

-- eight hex digits stand here
pub record Hex (text : List ℕ) (at next : ℕ) : Type 0 where
  pub digits : List ℕ
  pub long : length digits ≡ 8
  pub hex : AllHex digits
  pub stands : Stands text at digits next

module _ (text : List ℕ) (L : length text ≤ 65536) where
  -- ---- a byte and a word

  pub byte_stands : (at : ℕ) → place_after text at ≢ lost → Stands text at (byte_at text at ∷ []) (place_after text at)
  unfolding place_after
  byte_stands at h =
      let inside : at < length text = grind (arith, h) in
      record {
        kept = λ (x : at ≡ lost). omega (arith, inside);
        path = rw (lt-ltb at (length text) inside, add-one at, drop-cons text at 0 inside);
      }

  pub word_stands : (w : List ℕ) (at : ℕ) → word text at w ≢ lost → Stands text at w (word text at w)
  unfolding word
  word_stands [] at h = record { kept = h; path = refl }
  word_stands (b ∷ bs) at h =
      let go = word text (place_after text at) bs in
      let t = taken (eqb (byte_at text at) b) go lost (λ n. n) refl h in
      let rest = word_stands bs (place_after text at) (λ (e : go ≡ lost). h (t.1 ∙ e)) in
      let here = subst (λ (x : ℕ). Stands text at (x ∷ []) (place_after text at)) (eqb-true (byte_at text at) b t.0)
      (byte_stands at rest.kept) in
      upto (then here rest) (sym t.1)

  -- ---- a number

  -- if the reading of a number is not lost, the number stands here
  abbrev NumberAt : ℕ → Reading ℕ → Type 0
  NumberAt at n = n.next ≢ lost → Stands text at (decimal n.value) n.next

  first_stands : (at : ℕ) → NumberAt at (first_digit text at)
  first_stands at =
      let b = byte_at text at in
      on_cond (NumberAt at) (ltb (digit_of b) 10) _ _
      (λ e h. let small = ltb-true (digit_of b) 10 e in
      subst (λ (w : List ℕ). Stands text at w (place_after text at)) (decimal_one (digit_of b) b small (digit_byte b small))
      (byte_stands at h))
      (λ e h. absurd (h refl))

  one_more_lem : (at : ℕ) (n : Reading ℕ) → NumberAt at n → 0 < n.value → n.value < 10000 → digit_of (byte_at text n.next) < 10
      → NumberAt at (numeral (n.value * 10 + digit_of (byte_at text n.next)) (place_after text n.next))
  one_more_lem at n front positive few small h =
      let b = byte_at text n.next in
      let last = byte_stands n.next h in
      subst (λ (w : List ℕ). Stands text at w (place_after text n.next))
      (decimal_more n.value (digit_of b) b positive few small (digit_byte b small))
      (then (front last.kept) last)

  next_stands : (at : ℕ) (n : Reading ℕ) → NumberAt at n → NumberAt at (next_digit text n)
  unfolding next_digit
  next_stands at n front =
      let b = byte_at text n.next in
      on_cond (NumberAt at) (eqb n.value 0) n _ (λ e. front)
      (λ e. let some = eqb-false n.value 0 e in
      on_cond (NumberAt at) (ltb n.value 10000) _ n
      (λ f. on_cond (NumberAt at) (ltb (digit_of b) 10) _ n
      (λ g. one_more_lem at n front (omega (arith, some)) (ltb-true n.value 10000 f) (ltb-true (digit_of b) 10 g))
      (λ g. front)) (λ f. front))

  pub number_stands : (at : ℕ) → NumberAt at (number_at text at)
  number_stands at =
      next_stands at _ (next_stands at _ (next_stands at _ (next_stands at _ (first_stands at))))

  -- ---- a field

  pair_stands : (at : ℕ) → (pair_at text at).next ≢ lost
      → let a = byte_at text at in let b = byte_at text (place_after text at) in
      (hex_of a < 16) × (hex_of b < 16) × Stands text at (a ∷ b ∷ []) (pair_at text at).next
  unfolding pair_at
  pair_stands at h =
      let a = hex_of (byte_at text at) in
      let b = hex_of (byte_at text (place_after text at)) in
      let s = taken (ltb a 16) _ no_pair (λ p. p.next) refl h in
      let t = taken (ltb b 16) _ no_pair (λ p. p.next) refl (λ e. h (s.1 ∙ e)) in
      let low = byte_stands (place_after text at) (λ e. h (s.1 ∙ t.1 ∙ e)) in
      (ltb-true a 16 s.0, ltb-true b 16 t.0, upto (then (byte_stands at low.kept) low) (sym (s.1 ∙ t.1)))

  pub field_stands : (at : ℕ) → (field_at text at).next ≢ lost → Hex text at (field_at text at).next
  unfolding field_at
  field_stands at h =
      let two : ℕ → List ℕ = λ p. byte_at text p ∷ byte_at text (place_after text p) ∷ [] in
      let p1 = (pair_at text at).next in
      let p2 = (pair_at text p1).next in
      let p3 = (pair_at text p2).next in
      let f4 = pair_stands p3 h in
      let f3 = pair_stands p2 f4.2.kept in
      let f2 = pair_stands p1 f3.2.kept in
      let f1 = pair_stands at f2.2.kept in
      record {
        digits = two at ++ two p1 ++ two p2 ++ two p3;
        long = refl;
        hex = (f1.0, (f1.1, (f2.0, (f2.1, (f3.0, (f3.1, (f4.0, (f4.1, tt))))))));
        stands = then (then (then f1.2 f2.2) f3.2) f4.2;
      }

  -- ---- a line of a name and a number

  -- the test holds, the line stands here, and its name was found
  pub line_stands : (name : String) (test : ℕ → Bool) (at : ℕ) →
      let n = number_at text (word text at (bytes name)) in
      let next = only (test n.value) (line_end text n.next) in
      next ≢ lost
      → (test n.value ≡ true) × Stands text at (number_text name n.value) next × (word text at (bytes name) ≢ lost)
  line_stands name test at h =
      let n = number_at text (word text at (bytes name)) in
      let t = taken (test n.value) (line_end text n.next) lost (λ p. p) refl h in
      let end = word_stands (bytes "\n") n.next (λ e. h (t.1 ∙ e)) in
      let number = number_stands (word text at (bytes name)) end.kept in
      let front = word_stands (bytes name) at number.kept in
      (t.0, upto (then (then front number) end) (sym t.1), number.kept)

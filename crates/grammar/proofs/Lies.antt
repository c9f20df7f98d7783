-- What lies ahead in a text is read, and the reading ends where the rest lies ahead: words, numbers, hex digits.
-- Assumes nothing.
use Rattle.std.proofs.Common.{◌≡◌, refl, ap, sym, subst, ◌∙◌, Bool, true, false, cond, true≢false, List, [], ◌∷◌, ◌++◌, append_assoc, ℕ, zero, suc, ◌+◌, ◌*◌}
use Rattle.std.proofs.Common.{◌<◌, ◌≤◌, add-zero, arith, length, get_or, take, drop, length-append, length-drop, take-append-drop, length-take-le}
use Rattle.std.proofs.Common.{get_or-drop, drop-drop, eqb, lt-ltb, eq-eqb}
use Prim.Native.String.{String}
use Rattle.std.proofs.Math.Seq.{drop-append_seam}
use Rattle.text.specs.Reading.{lost, byte_at, place_after, word, only, digit_of, numeral, number_at, hex_of, pair_at, field_at}
use Rattle.logic.specs.Quoted.{bytes}
use Rattle.text.specs.declared.Reading.{Reading}
use Rattle.page.specs.Page.{decimal}
use Rattle.script.specs.Lines.{line_end}
use Rattle.grammar.specs.Schedule.{byte_pairs, AllHex, number_text}
use Rattle.grammar.proofs.Numerals.{reads_back}

-- from a place within the text on, these bytes are all that lies ahead
pub record Lies (text : List ℕ) (at : ℕ) (ahead : List ℕ) : Type 0 where
  pub fits : at ≤ length text
  pub path : drop at text ≡ ahead

-- two words that differ before either ends
abbrev pub clash : List ℕ → List ℕ → Bool
clash [] w = false
clash (a ∷ more) [] = false
clash (a ∷ more) (b ∷ bs) = cond (eqb b a) (clash more bs) true

-- the bytes of so many pairs of hex digits
abbrev pairs_at : List ℕ → (at pairs : ℕ) → List ℕ
pairs_at text at zero = []
pairs_at text at (suc k) = (pair_at text at).value ∷ pairs_at text (pair_at text at).next k

-- and the place behind them
abbrev pairs_from : List ℕ → (at pairs : ℕ) → ℕ
pairs_from text at zero = at
pairs_from text at (suc k) = pairs_from text (pair_at text at).next k

module _ {text : List ℕ} where
  -- a front of two parts is one part and then the other
  pub split : {at : ℕ} (u v w : List ℕ) → Lies text at (u ++ v ++ w) → Lies text at (u ++ (v ++ w))
  split u v w l = record { fits = l.fits; path = l.path ∙ append_assoc u v w }

  lies_behind : (front ahead : List ℕ) → text ≡ front ++ ahead → Lies text (length front) ahead
  lies_behind front ahead e =
      record {
        fits = omega (arith, ap length e ∙ length-append front ahead);
        path = ap (drop (length front)) e ∙ drop-append_seam front ahead;
      }

  -- what lies ahead reaches to the end of the text
  lies_long : {at : ℕ} (ahead : List ℕ) → Lies text at ahead → at + length ahead ≡ length text
  lies_long {at = at} ahead l = omega (arith, l.fits, sym (length-drop at text) ∙ ap length l.path)

  -- where nothing lies ahead, the text ends
  pub lies_end : {at : ℕ} → Lies text at [] → at ≡ length text
  lies_end l = omega (arith, lies_long [] l)

  -- ---- a byte and a word

  module _ {at : ℕ} (b : ℕ) (ahead : List ℕ) (l : Lies text at (b ∷ ahead)) where
    byte_is : byte_at text at ≡ b
    byte_is =
        ap (byte_at text) (sym (add-zero at)) ∙ sym (get_or-drop at text 0 0) ∙ ap (λ (x : List ℕ). get_or x 0 0) l.path

    byte_within : at < length text
    byte_within = omega (arith, lies_long (b ∷ ahead) l)

    after_lies : Lies text (place_after text at) ahead
    unfolding place_after
    after_lies =
        rw (lt-ltb at (length text) byte_within)
        (record { fits = omega (arith, byte_within); path = sym (drop-drop 1 at text) ∙ ap (drop 1) l.path })

  pub word_lies : (w ahead : List ℕ) {at : ℕ} → Lies text at (w ++ ahead) → Lies text (word text at w) ahead
  unfolding word
  word_lies [] ahead l = l
  word_lies (b ∷ bs) ahead {at = at} l =
      rw (eq-eqb (byte_at text at) b (byte_is b (bs ++ ahead) l)) (word_lies bs ahead (after_lies b (bs ++ ahead) l))

  -- another word is not found
  pub word_lost : (v w ahead : List ℕ) {at : ℕ} → clash v w ≡ true → Lies text at (w ++ ahead) → word text at v ≡ lost
  unfolding word
  word_lost [] w ahead h l = absurd (true≢false (sym h))
  word_lost (a ∷ more) [] ahead h l = absurd (true≢false (sym h))
  word_lost (a ∷ more) (b ∷ bs) ahead {at = at} h l =
      let rest : clash more bs ≡ true → word text (place_after text at) more ≡ lost =
      λ c. word_lost more bs ahead c (after_lies b (bs ++ ahead) l) in
      rw (byte_is b (bs ++ ahead) l) (grind (arith, rest))

  -- ---- a number and a field

  pub number_lies : (n : ℕ) (ahead : List ℕ) {at : ℕ} → n < 100000 → digit_of (get_or ahead 0 0) ≡ 10
      → Lies text at (decimal n ++ ahead) → ((number_at text at).value ≡ n) × Lies text (number_at text at).next ahead
  number_lies n ahead {at = at} short ends l =
      let before = take at text in
      let whole : text ≡ before ++ decimal n ++ ahead =
      sym (take-append-drop at text) ∙ ap (λ (x : List ℕ). before ++ x) l.path ∙ sym (append_assoc before (decimal n) ahead) in
      let read : number_at text at ≡ numeral n (length (before ++ decimal n)) =
      ap (number_at text) (sym (length-take-le at text l.fits))
      ∙ ap (λ (t : List ℕ). number_at t (length before)) whole
      ∙ reads_back before ahead n short ends in (
        ap (λ (m : Reading ℕ). m.value) read,
        subst (λ (m : Reading ℕ). Lies text m.next ahead) (sym read) (lies_behind (before ++ decimal n) ahead whole),
      )

  pair_lies : (a b : ℕ) (ahead : List ℕ) {at : ℕ} → hex_of a < 16 → hex_of b < 16 → Lies text at (a ∷ b ∷ ahead)
      → ((pair_at text at).value ≡ hex_of a * 16 + hex_of b) × Lies text (pair_at text at).next ahead
  unfolding pair_at
  pair_lies a b ahead {at = at} g h l =
      let m = after_lies a (b ∷ ahead) l in
      rw (byte_is a (b ∷ ahead) l, byte_is b ahead m, lt-ltb (hex_of a) 16 g, lt-ltb (hex_of b) 16 h)
      (refl, after_lies b ahead m)

  pairs_lie : (k : ℕ) (ds ahead : List ℕ) {at : ℕ} → length ds ≡ k + k → AllHex ds → Lies text at (ds ++ ahead)
      → (pairs_at text at k ≡ byte_pairs ds) × Lies text (pairs_from text at k) ahead
  pairs_lie zero [] ahead long hex l = (refl, l)
  pairs_lie zero (a ∷ ds) ahead long hex l = absurd (omega arith)
  pairs_lie (suc k) [] ahead long hex l = absurd (omega arith)
  pairs_lie (suc k) (a ∷ []) ahead long hex l = absurd (omega arith)
  pairs_lie (suc k) (a ∷ b ∷ ds) ahead long hex l =
      let p = pair_lies a b (ds ++ ahead) hex.0 hex.1.0 l in
      let more = pairs_lie k ds ahead (omega arith) hex.1.1 p.1 in
      (rw (p.0, more.0) refl, more.1)

  pub field_lies : (ds ahead : List ℕ) {at : ℕ} → length ds ≡ 8 → AllHex ds → Lies text at (ds ++ ahead)
      → let f = field_at text at in
      (f.value ≡ byte_pairs ds) × Lies text f.next ahead
  unfolding field_at
  field_lies ds ahead long hex l = pairs_lie 4 ds ahead long hex l

  -- ---- a line of a name and a number

  pub only_lies : (t : Bool) (ahead : List ℕ) {at : ℕ} → t ≡ true → Lies text at ahead → Lies text (only t at) ahead
  only_lies t ahead e l = rw e l

  -- a line starts with its name
  pub line_first : (name : String) (n : ℕ) (ahead : List ℕ) {at : ℕ} → Lies text at (number_text name n ++ ahead)
      → Lies text at (bytes name ++ (decimal n ++ (bytes "\n" ++ ahead)))
  line_first name n ahead l =
      split (bytes name) (decimal n) (bytes "\n" ++ ahead) (split (bytes name ++ decimal n) (bytes "\n") ahead l)

  pub line_lies : (name : String) (test : ℕ → Bool) (n : ℕ) (ahead : List ℕ) {at : ℕ} → n < 100000 → test n ≡ true
      → Lies text at (number_text name n ++ ahead)
      → let m = number_at text (word text at (bytes name)) in
      (m.value ≡ n) × Lies text (only (test m.value) (line_end text m.next)) ahead
  unfolding digit_of
  line_lies name test n ahead {at = at} short holds l =
      let m = number_at text (word text at (bytes name)) in
      let named = word_lies (bytes name) (decimal n ++ (bytes "\n" ++ ahead)) (line_first name n ahead l) in
      let number = number_lies n (bytes "\n" ++ ahead) short refl named in
      (number.0, only_lies (test m.value) ahead (ap test number.0 ∙ holds) (word_lies (bytes "\n") ahead number.1))

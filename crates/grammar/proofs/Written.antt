-- The text of a schedule is read as the schedule: each line ahead is read as what it is, and then the next one lies ahead.
-- Assumes nothing.
use Rattle.std.proofs.lemmas.Bool.Decides.{nat_tests}
use Rattle.std.proofs.Common.{None, ◌≡◌, refl, ap, sym, subst, ◌∙◌, ◌≢◌, ◌⊎◌, Bool, true, false, ◌&&◌, ◌||◌, List, [], ◌∷◌, ◌++◌, append-nil, ℕ, zero, suc}
use Rattle.std.proofs.Common.{◌+◌, ◌*◌, ◌<◌, ◌≤◌, arith, length, get_or, length-append, eqb, leb, le-leb, eq-eqb, ne_eqb}
use Rattle.text.specs.Reading.{lost, word, digit_of, number_at}
use Rattle.logic.specs.Quoted.{bytes}
use Rattle.page.specs.Page.{decimal}
use Rattle.calls.specs.Calls.{code_of}
use Rattle.script.specs.Lines.{verb_at, call_line, step_line, end_line, line_at, ends_body, next_of}
use Rattle.script.specs.Head.{parties_line, rows_of, nodes_line, order_line, first_lost, head_of}
use Rattle.script.specs.Body.{most_lines, body_from, end_bad, last_bad, bad_from, first_bad}
use Rattle.script.specs.declared.Line.TheVariants.{Call}
use Rattle.grammar.specs.Schedule.{
  Item,
  calls,
  steps,
  Schedule,
  number_text,
  order_text,
  verb_text,
  item_text,
  items_text,
  text_of,
  GoodItem,
  GoodItems,
  GoodSchedule,
}
use Rattle.grammar.specs.Claims.{Says, AllSay, ReadAs, Written}
use Rattle.grammar.proofs.Stands.{line_stands}
use Rattle.grammar.proofs.OnlyWritten.{call_stands}
use Rattle.grammar.proofs.Lies.{
  Lies,
  clash,
  split,
  lies_end,
  word_lies,
  word_lost,
  number_lies,
  field_lies,
  only_lies,
  line_first,
  line_lies,
}

-- what is lost unless a word was found, is lost
lost_if : (next found : ℕ) (t : Bool) → eqb next lost ≡ t → (next ≢ lost → found ≢ lost) → found ≡ lost → t ≡ true
lost_if next found t e f g = grind (arith, f)

-- no verb starts with a digit
verb_first : (code : ℕ) (ahead : List ℕ) → digit_of (get_or (verb_text code ++ ahead) 0 0) ≡ 10
unfolding verb_text digit_of
verb_first code ahead = grind arith

module _ (text : List ℕ) (L : length text ≤ 65536) where
  kept : {at : ℕ} {ahead : List ℕ} → Lies text at ahead → eqb at lost ≡ false
  kept {at = at} l = ne_eqb at lost (λ e. omega (arith, l.fits))

  -- ---- a call

  -- a word that differs from the one ahead
  off : (v w ahead : List ℕ) {at : ℕ} → clash v w ≡ true → Lies text at (w ++ ahead) → eqb (word text at v) lost ≡ true
  off v w ahead {at = at} h l = eq-eqb (word text at v) lost (word_lost v w ahead h l)

  -- if a verb lies ahead, its call is read
  verb_lies : (code : ℕ) (ahead : List ℕ) {at : ℕ} → code < 3 → Lies text at (verb_text code ++ ahead)
      → (code_of (verb_at text at).value ≡ code) × Lies text (verb_at text at).next ahead
  unfolding verb_at verb_text
  verb_lies zero ahead known l = let w = word_lies (bytes " add ") ahead l in rw (kept w) (refl, w)
  verb_lies (suc zero) ahead known l =
      let w = word_lies (bytes " remove ") ahead l in
      rw (off (bytes " add ") (bytes " remove ") ahead refl l, kept w) (refl, w)
  verb_lies (suc (suc zero)) ahead known l =
      let contains = bytes " contains " in
      let w = word_lies contains ahead l in
      rw (off (bytes " add ") contains ahead refl l, off (bytes " remove ") contains ahead refl l) (refl, w)
  verb_lies (suc (suc (suc more))) ahead known l = absurd (omega (arith, known))

  call_lies : (party code : ℕ) (ds ahead : List ℕ) {at : ℕ} → GoodItem (calls party code ds)
      → Lies text at (item_text (calls party code ds) ++ ahead)
      → Says (Call (call_line text at)) (calls party code ds) × Lies text (call_line text at).next ahead
  unfolding call_line
  call_lies party code ds ahead {at = at} good l =
      let end = bytes "\n" ++ ahead in
      let field = ds ++ end in
      let named = verb_text code ++ field in
      let call = bytes "call=" in
      let n = number_at text (word text at call) in
      let a = split (call ++ decimal party ++ verb_text code ++ ds) (bytes "\n") ahead l in
      let b = split (call ++ decimal party ++ verb_text code) ds end a in
      let c = split (call ++ decimal party) (verb_text code) field b in
      let number = number_lies party named (omega (arith, good.0)) (verb_first code field)
      (word_lies call (decimal party ++ named) (split call (decimal party) named c)) in
      let verb = verb_lies code field good.1 number.1 in
      let read = field_lies ds end good.2 good.3 verb.1 in (
        (number.0, verb.0, read.0),
        only_lies (leb n.value 99) ahead (ap (λ (v : ℕ). leb v 99) number.0 ∙ le-leb party 99 good.0)
            (word_lies (bytes "\n") ahead read.1),
      )

  -- ---- the lines behind the head

  -- a call or a step, which says what an item says, and behind which the rest lies ahead
  abbrev GoesOn : (at : ℕ) → Item → List ℕ → Type 0
  GoesOn at item ahead =
      let line = line_at text at in
      (ends_body line ≡ false) × Says line item × Lies text (next_of line) ahead

  -- another line is no call, and no step
  call_lost : (at : ℕ) → word text at (bytes "call=") ≡ lost → eqb (call_line text at).next lost ≡ true
  call_lost at e =
      lost_if (call_line text at).next (word text at (bytes "call=")) _ refl (λ h. (call_stands text L at h).0) e

  step_lost : (at : ℕ) → word text at (bytes "step=") ≡ lost → eqb (step_line text at).next lost ≡ true
  unfolding step_line
  step_lost at e =
      lost_if (step_line text at).next (word text at (bytes "step=")) _ refl
      (λ h. (line_stands text L "step=" (λ v. leb v 99) at h).2) e

  step_lies : (party : ℕ) (ahead : List ℕ) {at : ℕ} → party ≤ 99 → Lies text at (number_text "step=" party ++ ahead)
      → ((step_line text at).value ≡ party) × Lies text (step_line text at).next ahead
  unfolding step_line
  step_lies party ahead few l = line_lies "step=" (λ v. leb v 99) party ahead (omega (arith, few)) (le-leb party 99 few) l

  item_lies : (item : Item) (ahead : List ℕ) {at : ℕ} → GoodItem item → Lies text at (item_text item ++ ahead)
      → GoesOn at item ahead
  unfolding line_at
  item_lies (calls party code ds) ahead good l =
      let c = call_lies party code ds ahead good l in
      rw (kept c.1) (refl, c.0, c.1)
  item_lies (steps party) ahead {at = at} good l =
      let s = step_lies party ahead good l in
      let no_call = word_lost (bytes "call=") (bytes "step=") (decimal party ++ (bytes "\n" ++ ahead)) refl
      (line_first "step=" party ahead l) in
      rw (call_lost at no_call, kept s.1) (refl, s.0, s.1)

  end_lies : (n : ℕ) {at : ℕ} → n < 100000 → Lies text at (number_text "end=" n ++ [])
      → ((end_line text at).value ≡ n) × Lies text (end_line text at).next []
  unfolding end_line
  end_lies n short l = line_lies "end=" (λ v. true) n [] short refl l

  last_lies : (seen : ℕ) {at : ℕ} → seen < 100000 → Lies text at (number_text "end=" seen ++ [])
      → (ends_body (line_at text at) ≡ true) × (last_bad seen (line_at text at) (length text) ≡ None)
  unfolding line_at last_bad end_bad
  last_lies seen {at = at} short l =
      let e = end_lies seen short l in
      let f = line_first "end=" seen [] l in
      let no_call = word_lost (bytes "call=") (bytes "end=") (decimal seen ++ (bytes "\n" ++ [])) refl f in
      let no_step = word_lost (bytes "step=") (bytes "end=") (decimal seen ++ (bytes "\n" ++ [])) refl f in
      rw (
        call_lost at no_call,
        step_lost at no_step,
        kept e.1,
        eq-eqb (end_line text at).value seen e.0,
        eq-eqb (end_line text at).next (length text) (lies_end e.1),
      )
      (refl, refl)

  body_good : (items : List Item) (left seen count : ℕ) {at : ℕ} → GoodItems items → length items < left
      → count ≡ seen + length items → count < 100000 → Lies text at (items_text items ++ (number_text "end=" count ++ []))
      → (bad_from text seen at left ≡ None) × AllSay (body_from text at left) items
  unfolding bad_from body_from
  body_good items zero seen count good enough e short l = absurd (omega arith)
  body_good [] (suc left) seen count {at = at} good enough e short l =
      let same : count ≡ seen = omega arith in
      let w = last_lies seen (omega arith) (subst (λ (c : ℕ). Lies text at (number_text "end=" c ++ [])) same l) in
      rw w.0 (w.1, tt)
  body_good (item ∷ rest) (suc left) seen count good enough e short l =
      let end = number_text "end=" count ++ [] in
      let w = item_lies item (items_text rest ++ end) good.0 (split (item_text item) (items_text rest) end l) in
      let more = body_good rest left (seen + 1) count good.1 (omega arith) (omega arith) short w.2 in
      rw w.0 (more.0, (w.1, more.1))

  -- ---- the head

  parties_lies : (n : ℕ) (ahead : List ℕ) → (1 ≤ n) × (n ≤ 16) → Lies text 0 (number_text "parties=" n ++ ahead)
      → ((parties_line text).value ≡ n) × Lies text (parties_line text).next ahead
  unfolding parties_line
  parties_lies n ahead good l =
      line_lies "parties=" (λ v. leb 1 v && leb v 16) n ahead (omega (arith, good))
      (rw (le-leb 1 n good.0, le-leb n 16 good.1) refl) l

  nodes_test : (n : ℕ) → (n ≡ 0) ⊎ ((4 ≤ n) × (n ≤ 4096)) → (n < 100000) × (eqb n 0 || (leb 4 n && leb n 4096) ≡ true)
  nodes_test n h = (grind (arith, h), grind (arith, nat_tests, h))

  nodes_lies : (n : ℕ) (ahead : List ℕ) {at : ℕ} → (n ≡ 0) ⊎ ((4 ≤ n) × (n ≤ 4096))
      → Lies text at (number_text "nodes=" n ++ ahead)
      → ((nodes_line text at).value ≡ rows_of n) × Lies text (nodes_line text at).next ahead
  unfolding nodes_line
  nodes_lies n ahead good l =
      let t = nodes_test n good in
      let m = line_lies "nodes=" (λ v. eqb v 0 || (leb 4 v && leb v 4096)) n ahead t.0 t.1 l in
      (ap rows_of m.0, m.1)

  -- if an order lies ahead, its code is read
  order_lies : (order : ℕ) (ahead : List ℕ) {at : ℕ} → order < 2 → Lies text at (order_text order ++ ahead)
      → ((order_line text at).value ≡ order) × Lies text (order_line text at).next ahead
  unfolding order_line order_text
  order_lies zero ahead known l = let w = word_lies (bytes "order=big\n") ahead l in rw (kept w) (refl, w)
  order_lies (suc zero) ahead known l =
      let little = bytes "order=little\n" in
      let w = word_lies little ahead l in
      rw (off (bytes "order=big\n") little ahead refl l) (refl, w)
  order_lies (suc (suc more)) ahead known l = absurd (omega (arith, known))

-- ---- fuel enough

item_long : (item : Item) → 6 ≤ length (item_text item)
item_long (calls party code ds) = simp length-append (omega arith)
item_long (steps party) = simp length-append (omega arith)

items_long : (items : List Item) → 6 * length items ≤ length (items_text items)
items_long [] = omega arith
items_long (item ∷ rest) = simp length-append (omega (arith, item_long item, items_long rest))

text_long : (s : Schedule) → 6 * length s.items + 6 ≤ length (text_of s)
text_long s = simp length-append (omega (arith, items_long s.items))

most_enough : (text : List ℕ) (n : ℕ) → 6 * n + 6 ≤ length text → n < most_lines text
unfolding most_lines
most_enough text n h = omega arith

-- ---- the whole text

text_read : (text : List ℕ) (s : Schedule) → length text ≤ 65536 → GoodSchedule s → text ≡ text_of s → ReadAs text s
unfolding first_bad head_of first_lost
text_read text s L good e =
    let parties = number_text "parties=" s.parties in
    let nodes = number_text "nodes=" s.nodes in
    let order = order_text s.order in
    let items = items_text s.items in
    let end = number_text "end=" (length s.items) in
    let long : 6 * length s.items + 6 ≤ length text = omega (arith, text_long s, ap length e) in
    let start : Lies text 0 (text_of s ++ []) = record { fits = omega arith; path = e ∙ sym (append-nil (text_of s)) } in
    let a = split (parties ++ nodes ++ order ++ items) end [] start in
    let b = split (parties ++ nodes ++ order) items (end ++ []) a in
    let c = split (parties ++ nodes) order (items ++ (end ++ [])) b in
    let d = split parties nodes (order ++ (items ++ (end ++ []))) c in
    let p = parties_lies text L s.parties (nodes ++ (order ++ (items ++ (end ++ [])))) good.parties d in
    let n = nodes_lies text L s.nodes (order ++ (items ++ (end ++ []))) good.nodes p.1 in
    let o = order_lies text L s.order (items ++ (end ++ [])) good.order n.1 in
    let all = body_good text L s.items (most_lines text) 0 (length s.items) good.items
    (most_enough text (length s.items) long) (omega arith) (omega (arith, long)) o.1 in
    record {
      none_bad = rw (kept text L p.1, kept text L n.1, kept text L o.1) all.0;
      parties = p.0;
      nodes = n.0;
      order = o.0;
      body = all.1;
    }

pub written : Written
written s good L = text_read (text_of s) s L good refl

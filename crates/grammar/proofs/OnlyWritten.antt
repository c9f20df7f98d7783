-- A text without a bad line is the text of a schedule: line by line, what was read is an item, and stands as it is written.
-- Assumes nothing.
use Rattle.std.proofs.lemmas.Bool.Decides.{nat_tests}
use Rattle.std.proofs.lemmas.Option.{none-some}
use Rattle.std.proofs.Common.{Option, None, ◌≡◌, refl, ap, sym, subst, ◌∙◌, ◌≢◌, ◌⊎◌, inl}
use Rattle.std.proofs.Common.{inr, Bool, true, false, cond, ◌&&◌, ◌||◌, true≢false, List, [], ◌∷◌, ◌++◌}
use Rattle.std.proofs.Common.{append-nil, ℕ, zero, suc, ◌+◌, ◌<◌, ◌≤◌, arith, length, eqb, leb, leb-true}
use Rattle.std.proofs.Math.Seq.{drop-length}
use Rattle.std.proofs.lemmas.Bool.{eqb-false}
use Rattle.text.specs.Reading.{lost, word, number_at, field_at}
use Rattle.logic.specs.Quoted.{bytes}
use Rattle.logic.proofs.Cases.{on_cond}
use Rattle.text.specs.declared.Reading.{Reading}
use Rattle.calls.specs.declared.Call.TheVariants.{Add, Remove, Contains}
use Rattle.calls.specs.Calls.{code_of}
use Rattle.script.specs.Lines.{line_end, verb, verb_at, call_line, step_line, end_line, line_at, ends_body, next_of}
use Rattle.script.specs.Head.{parties_line, nodes_line, order_line, head_of}
use Rattle.script.specs.Body.{most_lines, end_bad, last_bad, bad_from, first_bad}
use Rattle.script.specs.declared.Line.{Line}
use Rattle.script.proofs.Progress.{kept}
use Rattle.grammar.specs.Schedule.{
  Item,
  calls,
  steps,
  Schedule,
  number_text,
  order_text,
  verb_text,
  item_text,
  items_text,
  text_of,
  GoodItem,
  GoodItems,
}
use Rattle.grammar.specs.Claims.{OnlyWritten}
use Rattle.grammar.proofs.Stands.{taken, Stands, then, upto, word_stands, number_stands, field_stands, line_stands}

-- a good item stands here
pub record ItemAt (text : List ℕ) (at next : ℕ) : Type 0 where
  pub item : Item
  pub good : GoodItem item
  pub stands : Stands text at (item_text item) next

-- good items stand here, and behind them the last line of a text, which gives their number
record BodyAt (text : List ℕ) (seen at : ℕ) : Type 0 where
  items : List Item
  good : GoodItems items
  last : ℕ
  stands : Stands text at (items_text items) last
  ends : Stands text last (number_text "end=" (seen + length items)) (length text)

-- `end=` is good if it gives the number of lines and is the last
end_good : (seen count next len : ℕ) → end_bad seen count next len ≡ None → (count ≡ seen) × (next ≡ len)
unfolding end_bad
end_good seen count next len z = (grind arith, grind arith)

-- the same number by another name
renumber : {text : List ℕ} {at n m next : ℕ} → n ≡ m
    → Stands text at (number_text "end=" n) next → Stands text at (number_text "end=" m) next
renumber {text = text} {at = at} {next = next} e s = subst (λ (n : ℕ). Stands text at (number_text "end=" n) next) e s

module _ (text : List ℕ) (L : length text ≤ 65536) where
  -- ---- a call

  -- if the reading of a call's name is not lost, the name stands here
  abbrev VerbAt : (at code next : ℕ) → Type 0
  VerbAt at code next = next ≢ lost → (code < 3) × Stands text at (verb_text code) next

  verb_if : (at : ℕ) (a r : Bool) →
      let contains = word text at (bytes " contains ") in
      let remove = word text at (bytes " remove ") in
      let v = cond a (cond r (verb Contains contains) (verb Remove remove)) (verb Add (word text at (bytes " add "))) in
      VerbAt at (code_of v.value) v.next
  unfolding verb_text
  verb_if at true true h = (omega arith, word_stands text L (bytes " contains ") at h)
  verb_if at true false h = (omega arith, word_stands text L (bytes " remove ") at h)
  verb_if at false r h = (omega arith, word_stands text L (bytes " add ") at h)

  verb_stands : (at : ℕ) → VerbAt at (code_of (verb_at text at).value) (verb_at text at).next
  unfolding verb_at
  verb_stands at = verb_if at (eqb (word text at (bytes " add ")) lost) (eqb (word text at (bytes " remove ")) lost)

  -- its name was found, and it is a good item
  pub call_stands : (at : ℕ) → (call_line text at).next ≢ lost
      → (word text at (bytes "call=") ≢ lost) × ItemAt text at (call_line text at).next
  unfolding call_line
  call_stands at h =
      let n = number_at text (word text at (bytes "call=")) in
      let v = verb_at text n.next in
      let f = field_at text v.next in
      let t = taken (leb n.value 99) (line_end text f.next) lost (λ p. p) refl h in
      let end = word_stands text L (bytes "\n") f.next (λ e. h (t.1 ∙ e)) in
      let field = field_stands text L v.next end.kept in
      let named = verb_stands n.next field.stands.kept in
      let number = number_stands text L (word text at (bytes "call=")) named.1.kept in
      let front = word_stands text L (bytes "call=") at number.kept in (
        number.kept,
        record {
          item = calls n.value (code_of v.value) field.digits;
          good = (leb-true n.value 99 t.0, named.0, field.long, field.hex);
          stands = upto (then (then (then (then front number) named.1) field.stands) end) (sym t.1);
        },
      )

  -- ---- a step and the end

  step_stands : (at : ℕ) → (step_line text at).next ≢ lost → ItemAt text at (step_line text at).next
  unfolding step_line
  step_stands at h =
      let n = number_at text (word text at (bytes "step=")) in
      let s = line_stands text L "step=" (λ v. leb v 99) at h in
      record { item = steps n.value; good = leb-true n.value 99 s.0; stands = s.1 }

  end_stands : (at : ℕ) → (end_line text at).next ≢ lost
      → Stands text at (number_text "end=" (end_line text at).value) (end_line text at).next
  unfolding end_line
  end_stands at h = (line_stands text L "end=" (λ v. true) at h).1

  -- ---- a line, and all lines behind the head

  -- a call or a step is a good item; any other line is the last one, if it is good
  abbrev LineAt : ℕ → Line → Type 0
  LineAt at l =
      (ends_body l ≡ false → ItemAt text at (next_of l))
      × ((seen : ℕ) → last_bad seen l (length text) ≡ None → Stands text at (number_text "end=" seen) (length text))

  line_at_lem : (at : ℕ) → LineAt at (line_at text at)
  unfolding line_at last_bad
  line_at_lem at =
      let c = call_line text at in
      let s = step_line text at in
      let e = end_line text at in
      on_cond (LineAt at) (eqb c.next lost) _ _
      (λ p. on_cond (LineAt at) (eqb s.next lost) _ _
      (λ q. on_cond (LineAt at) (eqb e.next lost) _ _
      (λ r. (λ t. absurd (true≢false t), λ seen z. absurd (none-some _ (sym z))))
      (λ r. (
        λ t. absurd (true≢false t),
        λ seen z.
            let g = end_good seen e.value e.next (length text) z in
            renumber g.0 (upto (end_stands at (eqb-false e.next lost r)) g.1),
      )))
      (λ q. (λ t. step_stands at (eqb-false s.next lost q), λ seen z. absurd (none-some _ (sym z)))))
      (λ p. (λ t. (call_stands at (eqb-false c.next lost p)).1, λ seen z. absurd (none-some _ (sym z))))

  abbrev BodyIf : (seen at : ℕ) → Option ℕ → Type 0
  BodyIf seen at bad = bad ≡ None → BodyAt text seen at

  none_before : (seen at : ℕ) → Stands text at (number_text "end=" seen) (length text) → BodyAt text seen at
  none_before seen at s =
      record {
        items = [];
        good = tt;
        last = at;
        stands = record { kept = s.kept; path = refl };
        ends = renumber (omega arith) s;
      }

  one_before : (seen at next : ℕ) → ItemAt text at next → BodyAt text (seen + 1) next → BodyAt text seen at
  one_before seen at next i b =
      record {
        items = i.item ∷ b.items;
        good = (i.good, b.good);
        last = b.last;
        stands = then i.stands b.stands;
        ends = renumber (omega arith) b.ends;
      }

  body_at : (left seen at : ℕ) → BodyIf seen at (bad_from text seen at left)
  unfolding bad_from
  body_at zero seen at = λ z. absurd (none-some _ (sym z))
  body_at (suc left) seen at =
      let l = line_at text at in
      let w = line_at_lem at in
      on_cond (BodyIf seen at) (ends_body l) _ _
      (λ t z. none_before seen at (w.1 seen z))
      (λ t z. one_before seen at (next_of l) (w.0 t) (body_at left (seen + 1) (next_of l) z))

  -- ---- the head

  order_stands : (at : ℕ) → (order_line text at).next ≢ lost
      → ((order_line text at).value < 2) × Stands text at (order_text (order_line text at).value) (order_line text at).next
  unfolding order_line order_text
  order_stands at =
      on_cond (λ (n : Reading ℕ). n.next ≢ lost → (n.value < 2) × Stands text at (order_text n.value) n.next)
      (eqb (word text at (bytes "order=big\n")) lost) _ _
      (λ b h. (omega arith, word_stands text L (bytes "order=little\n") at h))
      (λ b h. (omega arith, word_stands text L (bytes "order=big\n") at h))

  parties_stands : (parties_line text).next ≢ lost
      → let p = parties_line text in
      ((1 ≤ p.value) × (p.value ≤ 16)) × Stands text 0 (number_text "parties=" p.value) p.next
  unfolding parties_line
  parties_stands h =
      let s = line_stands text L "parties=" (λ v. leb 1 v && leb v 16) 0 h in
      ((grind (arith, nat_tests, s.0), grind (arith, nat_tests, s.0)), s.1)

  -- 0, or 4 to 4,096
  nodes_good : (v : ℕ) (z : Bool) → eqb v 0 ≡ z → z || (leb 4 v && leb v 4096) ≡ true → (v ≡ 0) ⊎ ((4 ≤ v) × (v ≤ 4096))
  nodes_good v true e h = inl (grind arith)
  nodes_good v false e h = inr (grind (arith, nat_tests), grind (arith, nat_tests))

  nodes_stands : (at : ℕ) → (nodes_line text at).next ≢ lost
      → let v = (number_at text (word text at (bytes "nodes="))).value in
      ((v ≡ 0) ⊎ ((4 ≤ v) × (v ≤ 4096))) × Stands text at (number_text "nodes=" v) (nodes_line text at).next
  unfolding nodes_line
  nodes_stands at h =
      let v = (number_at text (word text at (bytes "nodes="))).value in
      let s = line_stands text L "nodes=" (λ v. eqb v 0 || (leb 4 v && leb v 4096)) at h in
      (nodes_good v (eqb v 0) refl s.0, s.1)

-- a head that is good, and a body that is
head_good : (text : List ℕ) → first_bad text (head_of text) ≡ None
    → ((head_of text).bad ≡ None) × (bad_from text 0 (head_of text).next (most_lines text) ≡ None)
unfolding first_bad
head_good text z = (grind arith, grind arith)

pub only_written : OnlyWritten
unfolding head_of
only_written text L z =
    let g = head_good text z in
    let k = kept text g.0 in
    let from = (parties_line text).next in
    let on = (nodes_line text from).next in
    let p = parties_stands text L (eqb-false from lost k.0) in
    let n = nodes_stands text L from (eqb-false on lost k.1) in
    let o = order_stands text L on (eqb-false (order_line text on).next lost k.2) in
    let b = body_at text L (most_lines text) 0 (order_line text on).next g.1 in
    let s : Schedule =
    record {
      parties = (parties_line text).value;
      nodes = (number_at text (word text from (bytes "nodes="))).value;
      order = (order_line text on).value;
      items = b.items;
    } in
    let e : Stands text b.last (number_text "end=" (length b.items)) (length text) = renumber (omega arith) b.ends in
    let whole = then (then (then (then p.1 n.1) o.1) b.stands) e in
    record {
      schedule = s;
      good = record { parties = p.0; nodes = n.0; order = o.0; items = b.good };
      path = whole.path ∙ ap (λ (l : List ℕ). text_of s ++ l) (drop-length text) ∙ append-nil (text_of s);
    }

-- A write keeps the rows' part of good form, and the move of each place writes what fits and gives a party record that fits.
-- Assumes nothing.
use Prim.{Unit, tt}
use mathlib.Core.Path.{◌≡◌, refl, ◌∙◌}
use mathlib.Core.Bool.{Bool, true, false, not, cond, ◌&&◌, ◌||◌, false≢true}
use mathlib.Core.Logic.{◌≢◌, dite}
use mathlib.Core.List.{List}
use Prim.Native.Nat.{ℕ, ◌<◌, ◌≤◌}
use native.Mathlib.Decide.{ℕ_discrete, dec_lt}
use native.Mathlib.Omega.{arith}
use lib.Dec.{eqb, ltb, leb}
use lib.ListN.{length, get_or, set, length-set}
use lib.Seq.{set_out, get_or-set_same, get_or-set_other}
use borrow.Author.Tests.{ltb-true, leb-true, lt-ltb, le-ltb, not-true}
use Rattle.columns.specs.Column.{at, put}
use Rattle.logic.proofs.Tests.{and_left, and_right, and_both}
use Rattle.list_rows.specs.declared.Write.{Write}
use Rattle.list_rows.specs.declared.Write.TheVariants.{Untouched, Link, Splice, Item}
use Rattle.list_rows.specs.Table.{Table, next_at, back_at, is_splice, link, with_row}
use Rattle.list_rows.specs.Order.{below_key, equals_key}
use Rattle.list_rows.specs.Writes.{written}
use Rattle.calls.specs.declared.Call.{Call}
use Rattle.calls.specs.declared.Call.TheVariants.{Add, Remove, Contains}
use Rattle.list_party.specs.declared.Place.{Place}
use Rattle.list_party.specs.declared.Place.TheVariants.{Idle, Walk, Skip, AddSwap, Mark, Reread, Clean, Back, Look}
use Rattle.list_party.specs.declared.Party.{Party}
use Rattle.list_party.specs.Party.{blank}
use Rattle.list_moves.specs.declared.Moved.{Moved}
use Rattle.calls.specs.declared.Said.{Said}
use Rattle.calls.specs.declared.Said.TheVariants.{Yes, No}
use Rattle.list_moves.specs.Moves.{
  answers,
  prepare_of,
  onward_of,
  landed_add_of,
  landed_unmarked_of,
  landed_marked_of,
  landed_remove_of,
  landed_contains_of,
  walk_of,
  skip_of,
  add_swap_of,
  mark_of,
  reread_of,
  clean_of,
  back_of,
  look_on_of,
  look_of,
  move_at,
}
use Rattle.list_form.specs.Form.{kind_fits, key_fits, link_fits, kept_at, others_zero, can_reach, none_or_spare, own_fits, record_fits, party_fits}
use Rattle.calls.specs.Calls.{is_remove, is_add, is_contains}
use Rattle.list_form.proofs.Good.{Each, Rows, Below, Fits, fits, record_fits_lem}

-- ---- writes

-- a write in a column, where every other row fits
put_fits : (test : ℕ → ℕ → Bool) (column : List ℕ) (row value : ℕ) →
    ((other : ℕ) → other < length column → other ≢ row → test other (at column other) ≡ true) → test row value ≡ true → Each test (put column row value)
put_fits test column row value rest here other below =
    let inside : other < length column = omega (arith, length-set column row value) in
    dite (ℕ_discrete other row)
    (λ (same : other ≡ row). rw (same, get_or-set_same column row value 0 (omega arith)) here)
    (λ (apart : other ≡ row → ⊥). rw (get_or-set_other column row other value 0 apart) (rest other inside apart))

-- next of a row below T becomes a row below T
link_keeps : (T : ℕ) (t : Table) (row to : ℕ) → Rows T t → row < T → to < T → Rows T (link t row to)
link_keeps T t row to g inside below =
    record {
      key_long = g.key_long;
      next_long = length-set t.next row to ∙ g.next_long;
      back_long = g.back_long;
      ends = g.ends;
      room = g.room;
      kinds = g.kinds;
      keys = g.keys;
      nexts = put_fits (link_fits T) t.next row to (λ other p e. g.nexts other p) (rw (lt-ltb row T inside) (lt-ltb to T below));
      backs = g.backs;
    }

more_link : (T T' to : ℕ) (taken : Bool) → T ≤ T' → cond taken (ltb to T) (eqb to 0) ≡ true → cond taken (ltb to T') (eqb to 0) ≡ true
more_link T T' to true more h = lt-ltb to T' (omega (arith, ltb-true to T h))
more_link T T' to false more h = h

-- all four entries of a row below T', where T' is T or one more and no other row is taken
pub row_keeps : (T T' : ℕ) (t : Table) (row kind key next back : ℕ) → Rows T t →
    T ≤ T' → T' ≤ length t.kind → ((other : ℕ) → other ≢ row → ltb other T' ≡ ltb other T) →
    row < T' → kind_fits T' row kind ≡ true → next < T' → back < T' → Rows T' (with_row t row kind key next back)
row_keeps T T' t row kind key next back g more room same inside its_kind next_below back_below =
    record {
      key_long = length-set t.key row key ∙ g.key_long ∙ rw (length-set t.kind row kind);
      next_long = length-set t.next row next ∙ g.next_long ∙ rw (length-set t.kind row kind);
      back_long = length-set t.back row back ∙ g.back_long ∙ rw (length-set t.kind row kind);
      ends = omega arith;
      room = rw (length-set t.kind row kind) room;
      kinds = put_fits (kind_fits T') t.kind row kind (λ other p e. rw (same other e) (g.kinds other p)) its_kind;
      keys = put_fits (key_fits T') t.key row key (λ other p e. rw (same other e) (g.keys other p)) (rw (lt-ltb row T' inside));
      nexts = put_fits (link_fits T') t.next row next
          (λ other p e. rw (same other e) (more_link T T' (at t.next other) (ltb other T) more (g.nexts other p)))
          (rw (lt-ltb row T' inside) (lt-ltb next T' next_below));
      backs = put_fits (link_fits T') t.back row back
          (λ other p e. rw (same other e) (more_link T T' (at t.back other) (ltb other T) more (g.backs other p)))
          (rw (lt-ltb row T' inside) (lt-ltb back T' back_below));
    }

-- a row from 4 on and below T may be an item or a splice
pub item_fits : (T row : ℕ) → 4 ≤ row → row < T → kind_fits T row 2 ≡ true
item_fits T row from inside = rw (le-ltb row 4 from, lt-ltb row T inside)

splice_fits : (T row : ℕ) → 4 ≤ row → row < T → kind_fits T row 3 ≡ true
splice_fits T row from inside = rw (le-ltb row 4 from, lt-ltb row T inside)

-- what may be written where T rows are taken and stay taken
abbrev pub FitWrite : ℕ → Write → Type 0
FitWrite T Untouched = Unit {0}
FitWrite T (Link row to) = (row < T) × (to < T)
FitWrite T (Splice row to from) = (4 ≤ row) × (row < T) × (to < T) × (from < T)
FitWrite T (Item row key) = (4 ≤ row) × (row < T)

pub write_keeps : (T : ℕ) (t : Table) (write : Write) → FitWrite T write → Rows T t → Rows T (written write t)
write_keeps T t Untouched w g = g
write_keeps T t (Link row to) w g = link_keeps T t row to g w.0 w.1
write_keeps T t (Splice row to from) w g =
    row_keeps T T t row 3 0 to from g (omega arith) g.room (λ other e. refl) w.1 (splice_fits T row w.0 w.1) w.2 w.3
write_keeps T t (Item row key) w g =
    row_keeps T T t row 2 key 0 0 g (omega arith) g.room (λ other e. refl) w.1 (item_fits T row w.0 w.1) (omega arith) (omega arith)

-- ---- the party table

-- a record that fits still fits where more rows are taken
more_fits : (T T' P i : ℕ) (q : Party) → T ≤ T' → party_fits T P i q ≡ true → party_fits T' P i q ≡ true
more_fits T T' P i q more h =
    let f : Fits T q = fits T q (and_left (record_fits T q) _ h) in
    and_both (record_fits_lem T' q (record { below = omega arith; others = f.others; reach = f.reach; keeps_own = f.keeps_own }))
    (and_right (record_fits T q) _ h)

-- party i has a new record that fits (past the end of the table nothing is written), the others have their old ones
pub party_keeps : (T T' P : ℕ) (parties : List Party) (i : ℕ) (q : Party) → T ≤ T' → i < P → Fits T' q →
    ((j : ℕ) → j < 16 → party_fits T P j (get_or parties j blank) ≡ true) → (j : ℕ) → j < 16 → party_fits T' P j (get_or (set parties i q) j blank) ≡ true
party_keeps T T' P parties i q more known f old j small =
    let kept : party_fits T' P j (get_or parties j blank) ≡ true = more_fits T T' P j (get_or parties j blank) more (old j small) in
    dite (dec_lt i (length parties))
    (λ (inside : i < length parties). dite (ℕ_discrete j i)
    (λ (same : j ≡ i). rw (same, get_or-set_same parties i q blank inside) (and_both (record_fits_lem T' q f) (rw (lt-ltb i P known))))
    (λ (apart : j ≡ i → ⊥). rw (get_or-set_other parties i j q blank apart) kept))
    (λ (past : i < length parties → ⊥). rw (set_out parties i q (omega arith)) kept)

-- ---- the moves

-- what a move writes fits, and so does the party's record after it
pub record FitMove (T : ℕ) (moved : Moved) : Type 0 where
  pub write : FitWrite T moved.write
  pub party : Fits T moved.party

-- whatever a test says
either : {T : ℕ} {x y : Moved} (test : Bool) → FitMove T x → FitMove T y → FitMove T (cond test x y)
either true p q = p
either false p q = q

fit : {T : ℕ} {moved : Moved} → FitWrite T moved.write → Below T moved.party → others_zero (kept_at moved.party.place) moved.party ≡ true →
    can_reach moved.party.place ≡ true → own_fits moved.party.place moved.party.own moved.party.unpublished ≡ true → FitMove T moved
fit write below others reach keeps_own =
    record { write = write; party = record { below = below; others = others; reach = reach; keeps_own = keeps_own } }

-- the only call that can be there
is_add_lem : (call : Call) → is_add call ≡ true → call ≡ Add
is_add_lem Add e = refl
is_add_lem Remove e = absurd (false≢true e)
is_add_lem Contains e = absurd (false≢true e)

is_remove_lem : (call : Call) → is_remove call ≡ true → call ≡ Remove
is_remove_lem Add e = absurd (false≢true e)
is_remove_lem Remove e = refl
is_remove_lem Contains e = absurd (false≢true e)

is_contains_lem : (call : Call) → is_contains call ≡ true → call ≡ Contains
is_contains_lem Add e = absurd (false≢true e)
is_contains_lem Remove e = absurd (false≢true e)
is_contains_lem Contains e = refl

module _ (T : ℕ) (t : Table) (g : Rows T t) where
  next_below : (row : ℕ) → row < T → next_at t row < T
  next_below row inside = ltb-true (next_at t row) T (rw (lt-ltb row T inside) at (g.nexts row (omega arith)))

  back_below : (row : ℕ) → row < T → back_at t row < T
  back_below row inside = ltb-true (back_at t row) T (rw (lt-ltb row T inside) at (g.backs row (omega arith)))

  -- a party that answers keeps an unpublished own
  answer_fits : (q : Party) (said : Said) → q.own < T → none_or_spare q.own q.unpublished ≡ true → FitMove T (answers q said)
  answer_fits q said inside spare =
      fit tt
      (record { p = omega arith; n = omega arith; c = omega arith; s = omega arith; r = omega arith; own = bound q.unpublished })
      refl refl (own_fits_lem q.unpublished spare)
    where
      bound : (unpublished : Bool) → cond unpublished q.own 0 < T
      bound true = inside
      bound false = omega arith

      own_fits_lem : (unpublished : Bool) → none_or_spare q.own unpublished ≡ true → none_or_spare (cond unpublished q.own 0) unpublished ≡ true
      own_fits_lem true h = h
      own_fits_lem false h = refl

  -- at each place the call and whether own is published are those that good form allows
  module _ (p n c s r own : ℕ) where
    abbrev who : Place → Bool → Party
    who place unpublished = record { place = place; p = p; n = n; c = c; s = s; r = r; own = own; unpublished = unpublished }

    walk_add : (k : ℕ) → Fits T (who (Walk Add k) true) → FitMove T (walk_of t (who (Walk Add k) true) Add k)
    unfolding walk_of onward_of landed_add_of prepare_of
    walk_add k f =
        let s₁ : next_at t c < T = next_below c f.below.c in
        let s₂ : next_at t (next_at t c) < T = next_below (next_at t c) s₁ in
        let no_r : eqb r 0 ≡ true = and_right (eqb s 0) (eqb r 0) f.others in
        either (below_key t c k)
        (either (is_splice t (next_at t c)) (fit tt (omega arith) no_r refl f.keeps_own) (fit tt (omega arith) no_r refl f.keeps_own))
        (either (is_splice t (next_at t c)) (fit tt (omega arith) refl refl f.keeps_own)
        (either (equals_key t c k) (answer_fits (who (Walk Add k) true) No f.below.own (and_left (leb 4 own) true f.keeps_own))
        (fit (omega arith) (omega arith) refl refl f.keeps_own)))

    walk_remove : (k : ℕ) → Fits T (who (Walk Remove k) true) → FitMove T (walk_of t (who (Walk Remove k) true) Remove k)
    unfolding walk_of onward_of landed_remove_of landed_unmarked_of
    walk_remove k f =
        let s₁ : next_at t c < T = next_below c f.below.c in
        let s₂ : next_at t (next_at t c) < T = next_below (next_at t c) s₁ in
        let no_r : eqb r 0 ≡ true = and_right (eqb s 0) (eqb r 0) f.others in
        let from : leb 4 own ≡ true = and_left (leb 4 own) true f.keeps_own in
        let row : 4 ≤ own = leb-true 4 own from in
        let no : FitMove T (answers (who (Walk Remove k) true) No) = answer_fits (who (Walk Remove k) true) No f.below.own from in
        either (below_key t c k)
        (either (is_splice t (next_at t c)) (fit tt (omega arith) no_r refl f.keeps_own) (fit tt (omega arith) no_r refl f.keeps_own))
        (either (not (equals_key t c k) || is_splice t (next_at t c)) no (fit (omega arith) (omega arith) refl refl f.keeps_own))

    walk_marked : (k : ℕ) → Fits T (who (Walk Remove k) false) → FitMove T (walk_of t (who (Walk Remove k) false) Remove k)
    unfolding walk_of onward_of landed_remove_of landed_marked_of
    walk_marked k f =
        let s₁ : next_at t c < T = next_below c f.below.c in
        let s₂ : next_at t (next_at t c) < T = next_below (next_at t c) s₁ in
        either (below_key t c k)
        (either (is_splice t (next_at t c)) (fit tt (omega arith) refl refl f.keeps_own) (fit tt (omega arith) refl refl f.keeps_own))
        (either (not (eqb (next_at t c) own)) (fit tt (omega arith) refl refl refl) (fit tt (omega arith) refl refl f.keeps_own))

    skip : (k : ℕ) → Fits T (who (Skip Add k) true) → FitMove T (skip_of t (who (Skip Add k) true) Add k)
    unfolding skip_of prepare_of
    skip k f =
        let s₁ : next_at t c < T = next_below c f.below.c in
        let s₂ : next_at t (next_at t c) < T = next_below (next_at t c) s₁ in
        either (is_splice t (next_at t c)) (fit tt (omega arith) refl refl f.keeps_own) (fit (omega arith) (omega arith) refl refl f.keeps_own)

    add_swap : (k : ℕ) → Fits T (who (AddSwap Add k) true) → FitMove T (add_swap_of t (who (AddSwap Add k) true) Add k)
    unfolding add_swap_of
    add_swap k f =
        either (eqb (next_at t p) n) (fit (omega arith) (omega arith) refl refl refl)
        (fit tt (omega arith) (and_right (eqb c 0 && eqb s 0) (eqb r 0) f.others) refl f.keeps_own)

    mark : (k : ℕ) → Fits T (who (Mark Remove k) true) → FitMove T (mark_of t (who (Mark Remove k) true) Remove k)
    unfolding mark_of
    mark k f =
        either (eqb (next_at t c) s) (fit (omega arith) (omega arith) refl refl f.keeps_own) (fit tt (omega arith) refl refl f.keeps_own)

    reread : (k : ℕ) → Fits T (who (Reread Remove k) true) → FitMove T (reread_of t (who (Reread Remove k) true) Remove k)
    unfolding reread_of
    reread k f =
        let s₁ : next_at t c < T = next_below c f.below.c in
        either (is_splice t (next_at t c)) (answer_fits (who (Reread Remove k) true) No f.below.own (and_left (leb 4 own) true f.keeps_own))
        (fit (omega arith) (omega arith) refl refl f.keeps_own)

    clean : (k : ℕ) → Fits T (who (Clean Remove k) false) → FitMove T (clean_of t (who (Clean Remove k) false) Remove k)
    unfolding clean_of
    clean k f = either (eqb (next_at t p) n) (fit (omega arith) (omega arith) refl refl refl) (fit tt (omega arith) refl refl f.keeps_own)

    back_add : (k : ℕ) → Fits T (who (Back Add k) true) → FitMove T (back_of t (who (Back Add k) true) Add k)
    unfolding back_of
    back_add k f =
        let n₁ : next_at t p < T = next_below p f.below.p in
        let p₁ : back_at t (next_at t p) < T = back_below (next_at t p) n₁ in
        let no_r : eqb r 0 ≡ true = and_right (eqb n 0 && eqb c 0 && eqb s 0) (eqb r 0) f.others in
        either (is_splice t (next_at t p)) (fit tt (omega arith) no_r refl f.keeps_own) (fit tt (omega arith) no_r refl f.keeps_own)

    back_remove : (k : ℕ) → Fits T (who (Back Remove k) false) → FitMove T (back_of t (who (Back Remove k) false) Remove k)
    unfolding back_of
    back_remove k f =
        let n₁ : next_at t p < T = next_below p f.below.p in
        let p₁ : back_at t (next_at t p) < T = back_below (next_at t p) n₁ in
        either (is_splice t (next_at t p)) (fit tt (omega arith) refl refl f.keeps_own) (fit tt (omega arith) refl refl f.keeps_own)

    look : (k : ℕ) (unpublished : Bool) → Fits T (who (Look Contains k) unpublished) → FitMove T (look_of t (who (Look Contains k) unpublished) Contains k)
    unfolding look_of look_on_of landed_contains_of
    look k unpublished f =
        let s₁ : next_at t c < T = next_below c f.below.c in
        let s₂ : next_at t (next_at t c) < T = next_below (next_at t c) s₁ in
        let says : (said : Said) → FitMove T (answers (who (Look Contains k) unpublished) said) =
        λ said. answer_fits (who (Look Contains k) unpublished) said f.below.own f.keeps_own in
        either (below_key t c k)
        (either (is_splice t (next_at t c)) (fit tt (omega arith) refl refl f.keeps_own) (fit tt (omega arith) refl refl f.keeps_own))
        (either (equals_key t c k && not (is_splice t (next_at t c))) (says Yes) (says No))

    walk : (k : ℕ) (call : Call) (unpublished : Bool) → Fits T (who (Walk call k) unpublished) → FitMove T (walk_of t (who (Walk call k) unpublished) call k)
    walk k Add true f = walk_add k f
    walk k Add false f = absurd (false≢true (and_right (leb 4 own) false f.keeps_own))
    walk k Remove true f = walk_remove k f
    walk k Remove false f = walk_marked k f
    walk k Contains unpublished f = absurd (false≢true f.reach)

    back : (k : ℕ) (call : Call) (unpublished : Bool) → Fits T (who (Back call k) unpublished) → FitMove T (back_of t (who (Back call k) unpublished) call k)
    back k Add true f = back_add k f
    back k Add false f = absurd (false≢true (and_right (leb 4 own) false f.keeps_own))
    back k Remove true f = absurd (false≢true (and_right (leb 4 own) false f.keeps_own))
    back k Remove false f = back_remove k f
    back k Contains unpublished f = absurd (false≢true f.reach)

    fit_place : (place : Place) (unpublished : Bool) → Fits T (who place unpublished) → FitMove T (move_at place t (who place unpublished))
    fit_place Idle u f = record { write = tt; party = f }
    fit_place (Walk call k) u f = walk k call u f
    fit_place (Skip call k) u f =
        let is : call ≡ Add = is_add_lem call f.reach in
        let so : u ≡ true = and_right (leb 4 own) u f.keeps_own in
        rw (is, so) (skip k (rw (is, so) at f))
    fit_place (AddSwap call k) u f =
        let is : call ≡ Add = is_add_lem call f.reach in
        let so : u ≡ true = and_right (leb 4 own) u f.keeps_own in
        rw (is, so) (add_swap k (rw (is, so) at f))
    fit_place (Mark call k) u f =
        let is : call ≡ Remove = is_remove_lem call f.reach in
        let so : u ≡ true = and_right (leb 4 own) u f.keeps_own in
        rw (is, so) (mark k (rw (is, so) at f))
    fit_place (Reread call k) u f =
        let is : call ≡ Remove = is_remove_lem call f.reach in
        let so : u ≡ true = and_right (leb 4 own) u f.keeps_own in
        rw (is, so) (reread k (rw (is, so) at f))
    fit_place (Clean call k) u f =
        let is : call ≡ Remove = is_remove_lem call f.reach in
        let so : u ≡ false = not-true u (and_right (leb 4 own) (not u) f.keeps_own) in
        rw (is, so) (clean k (rw (is, so) at f))
    fit_place (Back call k) u f = back k call u f
    fit_place (Look call k) u f = let is : call ≡ Contains = is_contains_lem call f.reach in rw is (look k u (rw is at f))

  -- whatever the place
  pub move_fits : (q : Party) → Fits T q → FitMove T (move_at q.place t q)
  move_fits q f = fit_place q.p q.n q.c q.s q.r q.own q.place q.unpublished f

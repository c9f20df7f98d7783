-- Good form as facts: from the test that computes to a record of facts, and back.
-- Assumes nothing.
use mathlib.Core.Path.{◌≡◌}
use mathlib.Core.Bool.{Bool, true, ◌&&◌}
use mathlib.Core.List.{List}
use Prim.Native.Nat.{ℕ, ◌+◌, ◌<◌, ◌≤◌}
use lib.Dec.{eqb, ltb, leb}
use lib.ListN.{length}
use borrow.Author.Tests.{ltb-true, leb-true, eqb-true, lt-ltb, le-leb, eq-eqb}
use Rattle.columns.specs.Column.{at}
use Rattle.logic.proofs.Every.{every_at, every_of}
use Rattle.logic.proofs.Tests.{and_left, and_right, and_parts, and_both}
use Rattle.list_rows.specs.Table.{Table}
use Rattle.list_party.specs.declared.Party.{Party}
use Rattle.list_party.specs.State.{party_at}
use Rattle.list_unchecked.specs.Unchecked.{Machine}
use Rattle.list_form.specs.Form.{
  columns_agree,
  taken_fits,
  kind_fits,
  key_fits,
  link_fits,
  kinds_fit,
  keys_fit,
  links_fit,
  good_rows,
  rows_below,
  kept_at,
  others_zero,
  can_reach,
  own_fits,
  record_fits,
  party_fits,
  parties_fit,
  count_fits,
  tallies_fit,
  good_parties,
  good_form,
}

-- ---- a chain of tests, taken apart

three : (a b c : Bool) → a && b && c ≡ true → (a ≡ true) × (b ≡ true) × (c ≡ true)
three a b c h = let ab = and_parts a b (and_left (a && b) c h) in (ab.0, ab.1, and_right (a && b) c h)

four : (a b c d : Bool) → a && b && c && d ≡ true → (a ≡ true) × (b ≡ true) × (c ≡ true) × (d ≡ true)
four a b c d h = let abc = three a b c (and_left (a && b && c) d h) in (abc.0, abc.1, abc.2, and_right (a && b && c) d h)

six : (a b c d e f : Bool) → a && b && c && d && e && f ≡ true →
    (a ≡ true) × (b ≡ true) × (c ≡ true) × (d ≡ true) × (e ≡ true) × (f ≡ true)
six a b c d e f h =
    let front = four a b c d (and_left (a && b && c && d) e (and_left (a && b && c && d && e) f h)) in
    let back = three (a && b && c && d) e f h in
    (front.0, front.1, front.2, front.3, back.1, back.2)

-- ---- the rows

-- every entry of a column fits its row
abbrev pub Each : (ℕ → ℕ → Bool) → List ℕ → Type 0
Each fits column = (row : ℕ) → row < length column → fits row (at column row) ≡ true

pub record Rows (taken : ℕ) (t : Table) : Type 0 where
  pub key_long : length t.key ≡ length t.kind
  pub next_long : length t.next ≡ length t.kind
  pub back_long : length t.back ≡ length t.kind
  pub ends : 4 ≤ taken
  pub room : taken ≤ length t.kind
  pub kinds : Each (kind_fits taken) t.kind
  pub keys : Each (key_fits taken) t.key
  pub nexts : Each (link_fits taken) t.next
  pub backs : Each (link_fits taken) t.back

-- ---- a party record

-- every row number in it is below T
pub record Below (taken : ℕ) (q : Party) : Type 0 where
  pub p : q.p < taken
  pub n : q.n < taken
  pub c : q.c < taken
  pub s : q.s < taken
  pub r : q.r < taken
  pub own : q.own < taken

pub record Fits (taken : ℕ) (q : Party) : Type 0 where
  pub below : Below taken q
  pub others : others_zero (kept_at q.place) q ≡ true
  pub reach : can_reach q.place ≡ true
  pub keeps_own : own_fits q.place q.own q.unpublished ≡ true

module _ (taken : ℕ) (q : Party) where
  below_of : rows_below taken q ≡ true → Below taken q
  below_of h =
      let all = six (ltb q.p taken) (ltb q.n taken) (ltb q.c taken) (ltb q.s taken) (ltb q.r taken) (ltb q.own taken) h in
      record {
        p = ltb-true q.p taken all.0;
        n = ltb-true q.n taken all.1;
        c = ltb-true q.c taken all.2;
        s = ltb-true q.s taken all.3;
        r = ltb-true q.r taken all.4;
        own = ltb-true q.own taken all.5;
      }

  rows_below_lem : Below taken q → rows_below taken q ≡ true
  rows_below_lem b =
      let p = lt-ltb q.p taken b.p in
      let n = lt-ltb q.n taken b.n in
      let c = lt-ltb q.c taken b.c in
      let s = lt-ltb q.s taken b.s in
      let r = lt-ltb q.r taken b.r in
      and_both (and_both (and_both (and_both (and_both p n) c) s) r) (lt-ltb q.own taken b.own)

  pub fits : record_fits taken q ≡ true → Fits taken q
  unfolding record_fits
  fits h =
      let all = four (rows_below taken q) (others_zero (kept_at q.place) q) (can_reach q.place) (own_fits q.place q.own q.unpublished) h in
      record { below = below_of all.0; others = all.1; reach = all.2; keeps_own = all.3 }

  pub record_fits_lem : Fits taken q → record_fits taken q ≡ true
  unfolding record_fits
  record_fits_lem f = and_both (and_both (and_both (rows_below_lem f.below) f.others) f.reach) f.keeps_own

-- ---- the whole

pub record Good (m : Machine) : Type 0 where
  pub rows : Rows m.state.taken m.table
  pub some : 1 ≤ m.state.count
  pub few : m.state.count ≤ 16
  pub parties : (i : ℕ) → i < 16 → party_fits m.state.taken m.state.count i (party_at m.state i) ≡ true
  pub tallies : m.state.tallies.won + m.state.tallies.lost ≤ m.state.tallies.moves
  pub spent : m.state.tallies.moves ≤ 16777216

module _ (m : Machine) where
  abbrev T : ℕ
  T = m.state.taken

  abbrev agree : Bool
  agree = columns_agree (length m.table.kind) (length m.table.key) (length m.table.next) (length m.table.back)

  -- the nine sentences of good form
  sentences : good_form m ≡ true →
      (agree ≡ true) × (taken_fits T (length m.table.kind) ≡ true) × (kinds_fit m.table.kind T ≡ true) × (keys_fit m.table.key T ≡ true)
      × (links_fit m.table.next T ≡ true) × (links_fit m.table.back T ≡ true) × (count_fits m.state.count ≡ true)
      × (parties_fit m.state ≡ true) × (tallies_fit m.state.tallies ≡ true)
  unfolding good_form good_rows good_parties
  sentences h =
      let fit : Bool = taken_fits T (length m.table.kind) in
      let kinds : Bool = kinds_fit m.table.kind T in
      let keys : Bool = keys_fit m.table.key T in
      let nexts : Bool = links_fit m.table.next T in
      let backs : Bool = links_fit m.table.back T in
      let count : Bool = count_fits m.state.count in
      let parties : Bool = parties_fit m.state in
      let tallies : Bool = tallies_fit m.state.tallies in
      let whole = and_parts (agree && fit && kinds && keys && nexts && backs) (count && parties && tallies) h in
      let first = six agree fit kinds keys nexts backs whole.0 in
      let last = three count parties tallies whole.1 in
      (first.0, first.1, first.2, first.3, first.4, first.5, last.0, last.1, last.2)

  rows_of : good_form m ≡ true → Rows T m.table
  unfolding kinds_fit keys_fit links_fit
  rows_of h =
      let all = sentences h in
      let N : ℕ = length m.table.kind in
      let long = three (eqb (length m.table.key) N) (eqb (length m.table.next) N) (eqb (length m.table.back) N) all.0 in
      let taken = and_parts (leb 4 T) (leb T N) all.1 in
      record {
        key_long = eqb-true (length m.table.key) N long.0;
        next_long = eqb-true (length m.table.next) N long.1;
        back_long = eqb-true (length m.table.back) N long.2;
        ends = leb-true 4 T taken.0;
        room = leb-true T N taken.1;
        kinds = every_at (λ row. kind_fits T row (at m.table.kind row)) (length m.table.kind) all.2;
        keys = every_at (λ row. key_fits T row (at m.table.key row)) (length m.table.key) all.3;
        nexts = every_at (λ row. link_fits T row (at m.table.next row)) (length m.table.next) all.4;
        backs = every_at (λ row. link_fits T row (at m.table.back row)) (length m.table.back) all.5;
      }

  pub good : good_form m ≡ true → Good m
  unfolding parties_fit
  good h =
      let all = sentences h in
      let count = and_parts (leb 1 m.state.count) (leb m.state.count 16) all.6 in
      let tally =
      and_parts (leb (m.state.tallies.won + m.state.tallies.lost) m.state.tallies.moves) (leb m.state.tallies.moves 16777216)
      all.8 in
      record {
        rows = rows_of h;
        some = leb-true 1 m.state.count count.0;
        few = leb-true m.state.count 16 count.1;
        parties = every_at (λ i. party_fits T m.state.count i (party_at m.state i)) 16 all.7;
        tallies = leb-true (m.state.tallies.won + m.state.tallies.lost) m.state.tallies.moves tally.0;
        spent = leb-true m.state.tallies.moves 16777216 tally.1;
      }

  -- the sentences that the rows give
  agree_of : Rows T m.table → agree && taken_fits T (length m.table.kind) ≡ true
  agree_of g =
      let N : ℕ = length m.table.kind in
      let key = eq-eqb (length m.table.key) N g.key_long in
      let next = eq-eqb (length m.table.next) N g.next_long in
      let back = eq-eqb (length m.table.back) N g.back_long in
      and_both (and_both (and_both key next) back) (and_both (le-leb 4 T g.ends) (le-leb T N g.room))

  columns_of : Rows T m.table →
      agree && taken_fits T (length m.table.kind) && kinds_fit m.table.kind T && keys_fit m.table.key T && links_fit m.table.next T
      && links_fit m.table.back T
      ≡ true
  unfolding kinds_fit keys_fit links_fit
  columns_of g =
      let kinds = every_of (λ row. kind_fits T row (at m.table.kind row)) (length m.table.kind) g.kinds in
      let keys = every_of (λ row. key_fits T row (at m.table.key row)) (length m.table.key) g.keys in
      let nexts = every_of (λ row. link_fits T row (at m.table.next row)) (length m.table.next) g.nexts in
      let backs = every_of (λ row. link_fits T row (at m.table.back row)) (length m.table.back) g.backs in
      and_both (and_both (and_both (and_both (agree_of g) kinds) keys) nexts) backs

  pub good_form_lem : Good m → good_form m ≡ true
  unfolding good_form good_rows good_parties parties_fit
  good_form_lem g =
      let count = and_both (le-leb 1 m.state.count g.some) (le-leb m.state.count 16 g.few) in
      let parties = every_of (λ i. party_fits T m.state.count i (party_at m.state i)) 16 g.parties in
      let tally = le-leb (m.state.tallies.won + m.state.tallies.lost) m.state.tallies.moves g.tallies in
      let spent = le-leb m.state.tallies.moves 16777216 g.spent in
      and_both (columns_of g.rows) (and_both (and_both count parties) (and_both tally spent))

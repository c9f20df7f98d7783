-- What the tests of the layout tell of bytes that fit, and of columns that have the lengths of the layout.
-- Assumes nothing.
use mathlib.Core.Path.{◌≡◌, ap, sym, ◌∙◌}
use mathlib.Core.Bool.{Bool, true, ◌&&◌}
use mathlib.Core.List.{List}
use Prim.Native.Nat.{ℕ, ◌+◌, ◌*◌, ◌<◌, ◌≤◌}
use lib.ListN.{length, get_or, take}
use native.Mathlib.Nat.{zero-add}
use native.Mathlib.Omega.{arith}
use Rattle.std.specs.List.{list_all, range_with_len}
use Rattle.std.proofs.Math.Seq.{take-length}
use Rattle.std.proofs.lemmas.List.FromFn.{length-range_with_len, get_or-range_with_len}
use lib.Dec.{eqb, ltb, leb}
use borrow.Author.Tests.{ltb-true, leb-true, eqb-true, eq-eqb}
use Rattle.logic.specs.Every.{every}
use Rattle.logic.proofs.Every.{every_at, every_same, every_taken}
use Rattle.logic.proofs.Tests.{and_left, and_right}
use Rattle.list_rows.specs.Table.{Table}
use Rattle.probe_layout.specs.Bytes.{four_at}
use Rattle.probe_layout.specs.Records.{record_fits}
use Rattle.probe_layout.specs.Layout.{what_in, places_in, kinds_in, keys_in, nexts_in, backs_in, end_of, table_in, rooms_fit, table_into, few, fits}

-- a test of the numbers from 0 on, one after another
pub every_counted : (test : ℕ → Bool) (n : ℕ) → list_all test (range_with_len 0 n) ≡ every test n
every_counted test n =
    let numbers = range_with_len 0 n in
    let long : length numbers ≡ n = length-range_with_len 0 n in
    let whole : take n numbers ≡ numbers = rw (ap (λ (m : ℕ). take m numbers) (sym long)) (take-length numbers) in
    ap (list_all test) (sym whole)
    ∙ every_taken test numbers 0 n (omega (arith, long))
    ∙ every_same (λ i. test (get_or numbers i 0)) test n (λ k inside. ap test (get_or-range_with_len 0 n k 0 inside ∙ zero-add k))

-- each test as a fact
pub record Fit (bytes : List ℕ) : Type 0 where
  pub places : places_in bytes ≤ 4200
  pub kinds : kinds_in bytes ≤ 4200
  pub keys : keys_in bytes ≤ 4200
  pub nexts : nexts_in bytes ≤ 4200
  pub backs : backs_in bytes ≤ 4200
  pub long : length bytes ≡ end_of bytes
  pub count : four_at bytes 23 < 256
  pub taken : four_at bytes 27 < 65536
  pub records : (i : ℕ) → i < 16 → record_fits bytes (43 + 20 * i) ≡ true

pub fit_of : (bytes : List ℕ) → fits bytes ≡ true → Fit bytes
unfolding fits
fit_of bytes all =
    let what = leb (what_in bytes) 3 in
    let p = few (places_in bytes) in
    let k = few (kinds_in bytes) in
    let y = few (keys_in bytes) in
    let n = few (nexts_in bytes) in
    let b = few (backs_in bytes) in
    let long = eqb (length bytes) (end_of bytes) in
    let count = ltb (four_at bytes 23) 256 in
    let taken = ltb (four_at bytes 27) 65536 in
    let test : ℕ → Bool = λ i. record_fits bytes (43 + 20 * i) in
    let to_tallies = and_left (what && (p && k && y && n && b) && long && (count && taken)) (every test 16) all in
    let to_length = and_left (what && (p && k && y && n && b) && long) (count && taken) to_tallies in
    let tallies = and_right (what && (p && k && y && n && b) && long) (count && taken) to_tallies in
    let to_lengths = and_left (what && (p && k && y && n && b)) long to_length in
    let five = and_right what (p && k && y && n && b) to_lengths in
    let four = and_left (p && k && y && n) b five in
    let three = and_left (p && k && y) n four in
    let two = and_left (p && k) y three in
    record {
      places = leb-true (places_in bytes) 4200 (and_left p k two);
      kinds = leb-true (kinds_in bytes) 4200 (and_right p k two);
      keys = leb-true (keys_in bytes) 4200 (and_right (p && k) y three);
      nexts = leb-true (nexts_in bytes) 4200 (and_right (p && k && y) n four);
      backs = leb-true (backs_in bytes) 4200 (and_right (p && k && y && n) b five);
      long = eqb-true (length bytes) (end_of bytes) (and_right (what && (p && k && y && n && b)) long to_length);
      count = ltb-true (four_at bytes 23) 256 (and_left count taken tallies);
      taken = ltb-true (four_at bytes 27) 65536 (and_right count taken tallies);
      records = every_at test 16 (and_right (what && (p && k && y && n && b) && long && (count && taken)) (every test 16) all);
    }

-- columns to read a table into: each as long as the layout says
pub record Rooms (bytes : List ℕ) (t : Table) : Type 0 where
  pub kinds : length t.kind ≡ kinds_in bytes
  pub keys : length t.key ≡ keys_in bytes
  pub nexts : length t.next ≡ nexts_in bytes
  pub backs : length t.back ≡ backs_in bytes

pub rooms_of : (bytes : List ℕ) (t : Table) → rooms_fit bytes t ≡ true → Rooms bytes t
unfolding rooms_fit
rooms_of bytes t all =
    let k = eqb (length t.kind) (kinds_in bytes) in
    let y = eqb (length t.key) (keys_in bytes) in
    let n = eqb (length t.next) (nexts_in bytes) in
    let b = eqb (length t.back) (backs_in bytes) in
    let three = and_left (k && y && n) b all in
    let two = and_left (k && y) n three in
    record {
      kinds = eqb-true (length t.kind) (kinds_in bytes) (and_left k y two);
      keys = eqb-true (length t.key) (keys_in bytes) (and_right k y two);
      nexts = eqb-true (length t.next) (nexts_in bytes) (and_right (k && y) n three);
      backs = eqb-true (length t.back) (backs_in bytes) (and_right (k && y && n) b all);
    }

pub rooms_fit_lem : (bytes : List ℕ) (t : Table) → Rooms bytes t → rooms_fit bytes t ≡ true
unfolding rooms_fit
rooms_fit_lem bytes t rooms =
    rw (
      eq-eqb (length t.kind) (kinds_in bytes) rooms.kinds,
      eq-eqb (length t.key) (keys_in bytes) rooms.keys,
      eq-eqb (length t.next) (nexts_in bytes) rooms.nexts,
      eq-eqb (length t.back) (backs_in bytes) rooms.backs,
    )

-- a table is read
pub table_read : (bytes : List ℕ) (t : Table) → rooms_fit bytes t ≡ true → table_in bytes ≡ table_into bytes t
unfolding table_into
table_read bytes t fit = rw fit

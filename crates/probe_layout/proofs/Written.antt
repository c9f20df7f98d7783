-- Nothing is lost by reading: the bytes of what was read are the bytes that it was read from; and the numbers are fields.
-- Assumes nothing.
use mathlib.Core.Path.{◌≡◌, refl, ap, sym, ◌∙◌}
use mathlib.Core.Bool.{Bool, true, cond, not, ◌&&◌, ◌||◌}
use mathlib.Core.List.{List, [], ◌∷◌, ◌++◌, append_assoc, append-nil}
use Prim.Native.Nat.{ℕ, zero, suc, ◌+◌, ◌*◌, ◌/◌, ◌%◌, ◌<◌, ◌≤◌}
use native.Mathlib.Nat.{mul-zero, mul-suc}
use native.Mathlib.Numerals.{add-one}
use native.Mathlib.Omega.{arith}
use lib.ListN.{length, take, drop}
use lib.Seq.{drop-cons, drop-length}
use lib.Dec.{eqb, leb}
use borrow.Author.Tests.{leb-true, eqb-true}
use Rattle.logic.proofs.Tests.{and_left, and_right}
use Rattle.field.specs.Layout.{number_in, bytes_in, Bytes}
use Rattle.field.specs.Field.{field_at}
use Rattle.calls.specs.Calls.{call_named}
use Rattle.calls.proofs.Told.{code_of_its_call}
use Rattle.probe_layout.specs.Bytes.{byte_at, two_at, four_at, each, low, one_by_one}
use Rattle.probe_layout.specs.Records.{place_numbered, place_bytes, record_at, record_fits, record_bytes}
use Rattle.probe_layout.specs.Layout.{
  kinds_in,
  keys_in,
  nexts_in,
  backs_in,
  keys_from,
  nexts_from,
  backs_from,
  end_of,
  table_in,
  state_in,
  machine_in,
  state_bytes,
  machine_bytes,
}
use Rattle.probe_layout.specs.Claims.{NumbersAreFields, ReadIsWritten}
use Rattle.probe_layout.proofs.Fitting.{Fit, fit_of}
use Rattle.probe_layout.proofs.Laws.{one_byte}

-- from one place to another the bytes are these
record Stands (bytes : List ℕ) (at : ℕ) (these : List ℕ) (to : ℕ) : Type 0 where
  path : these ++ drop to bytes ≡ drop at bytes

join : {bytes : List ℕ} {at mid to : ℕ} {a b : List ℕ} → Stands bytes at a mid → Stands bytes mid b to → Stands bytes at (a ++ b) to
join {bytes} {at} {mid} {to} {a} {b} first second =
    record { path = append_assoc a b (drop to bytes) ∙ ap (λ (l : List ℕ). a ++ l) second.path ∙ first.path }

-- the same bytes by another name
named : {bytes : List ℕ} {at to : ℕ} {a b : List ℕ} → a ≡ b → Stands bytes at a to → Stands bytes at b to
named {bytes} {at} {to} same stands = record { path = ap (λ (l : List ℕ). l ++ drop to bytes) (sym same) ∙ stands.path }

-- the same places by other numbers
moved : {bytes : List ℕ} (g : ℕ → List ℕ) {at at' to to' : ℕ} → at ≡ at' → to ≡ to' → Stands bytes at (g at) to → Stands bytes at' (g at') to'
moved g from to stands = rw (← from, ← to) stands

-- ---- numbers

low_two : (a b : ℕ) → a < 256 → b < 256 → a ∷ b ∷ [] ≡ low 2 (a + 256 * b)
unfolding bytes_in
low_two a b a_small b_small =
    let first : (a + 256 * b) / 1 % 256 ≡ a = omega arith in
    let second : (a + 256 * b) / 256 % 256 ≡ b = omega arith in
    rw (first, second)

low_four : (a b c d : ℕ) → a < 256 → b < 256 → c < 256 → d < 256 → a ∷ b ∷ c ∷ d ∷ [] ≡ low 4 (a + 256 * b + 65536 * (c + 256 * d))
unfolding bytes_in
low_four a b c d a_small b_small c_small d_small =
    let over_one : (a + 256 * b + 65536 * (c + 256 * d)) / 256 ≡ b + 256 * (c + 256 * d) = omega arith in
    let over_two : (a + 256 * b + 65536 * (c + 256 * d)) / 65536 ≡ c + 256 * d = omega arith in
    let over_three : (a + 256 * b + 65536 * (c + 256 * d)) / 16777216 ≡ d = omega arith in
    let first : (a + 256 * b + 65536 * (c + 256 * d)) / 1 % 256 ≡ a = omega arith in
    let second : (b + 256 * (c + 256 * d)) % 256 ≡ b = omega arith in
    let third : (c + 256 * d) % 256 ≡ c = omega arith in
    let fourth : d % 256 ≡ d = omega arith in
    rw (over_one, over_two, over_three, first, second, third, fourth)

module _ (bytes : List ℕ) where
  one : (at to : ℕ) → at + 1 ≡ to → to ≤ length bytes → Stands bytes at (byte_at bytes at ∷ []) to
  one at to on inside = record { path = rw (← on, add-one at) (sym (drop-cons bytes at 0 (omega arith))) }

  pair : (at to : ℕ) → at + 2 ≡ to → to ≤ length bytes → Stands bytes at (byte_at bytes at ∷ byte_at bytes (at + 1) ∷ []) to
  pair at to on inside = join (one at (at + 1) refl (omega arith)) (one (at + 1) to (omega arith) inside)

  module _ (all : Bytes bytes) where
    two : (at to : ℕ) → at + 2 ≡ to → to ≤ length bytes → Stands bytes at (low 2 (two_at bytes at)) to
    two at to on inside = named (low_two (byte_at bytes at) (byte_at bytes (at + 1)) (all at) (all (at + 1))) (pair at to on inside)

    four : (at to : ℕ) → at + 4 ≡ to → to ≤ length bytes → Stands bytes at (low 4 (four_at bytes at)) to
    four at to on inside =
        named (low_four (byte_at bytes at) (byte_at bytes (at + 1)) (byte_at bytes (at + 2)) (byte_at bytes (at + 2 + 1)) (all at) (all (at + 1)) (all (at + 2))
        (all (at + 2 + 1)))
        (join (pair at (at + 2) refl (omega arith)) (pair (at + 2) to (omega arith) inside))

-- ---- columns and party records

-- entries one behind another
rows : {A : Type 0} (bytes : List ℕ) (bytes_of : A → List ℕ) (read : ℕ → A) (width count from : ℕ) →
    ((i : ℕ) → i < count → Stands bytes (from + width * i) (bytes_of (read (from + width * i))) (from + width * i + width)) →
    Stands bytes from (one_by_one bytes_of (each read width count from)) (from + width * count)
unfolding one_by_one each
rows bytes bytes_of read width zero from all =
    let here : from + width * 0 ≡ from = omega (arith, mul-zero width) in
    record { path = ap (λ (n : ℕ). drop n bytes) here }
rows bytes bytes_of read width (suc count) from all =
    let here : from + width * 0 ≡ from = omega (arith, mul-zero width) in
    let first = moved (λ at. bytes_of (read at)) here (ap (λ (n : ℕ). n + width) here) (all 0 (omega arith)) in
    let rest = rows bytes bytes_of read width count (from + width)
    (λ i below.
    let there : from + width * suc i ≡ from + width + width * i = omega (arith, mul-suc width i) in
    moved (λ at. bytes_of (read at)) there (ap (λ (n : ℕ). n + width) there) (all (suc i) (omega arith))) in
    let end : from + width + width * count ≡ from + width * suc count = omega (arith, mul-suc width count) in
    moved (λ at. bytes_of (read from) ++ one_by_one bytes_of (each read width count (from + width))) refl end (join first rest)

pub long_each : {A : Type 0} (read : ℕ → A) (width count at : ℕ) → length (each read width count at) ≡ count
unfolding each
long_each read width zero at = refl
long_each read width (suc count) at = ap suc (long_each read width count (at + width))

-- a known place's bytes are those that named it; the numbers from 1 to 8 alike
place_back : (number call key : ℕ) → number ≤ 8 → call ≤ 2 → (number ≡ 0 → (call ≡ 0) × (key ≡ 0)) →
    number ∷ call ∷ low 4 key ≡ place_bytes (place_numbered number (call_named call) key)
place_back zero call key known calls idle = rw ((idle refl).0, (idle refl).1)
place_back (suc zero) call key known calls idle = ap (λ (n : ℕ). 1 ∷ n ∷ low 4 key) (sym (code_of_its_call call calls))
place_back (suc (suc zero)) call key known calls idle = ap (λ (n : ℕ). 2 ∷ n ∷ low 4 key) (sym (code_of_its_call call calls))
place_back (suc (suc (suc zero))) call key known calls idle = ap (λ (n : ℕ). 3 ∷ n ∷ low 4 key) (sym (code_of_its_call call calls))
place_back (suc (suc (suc (suc zero)))) call key known calls idle = ap (λ (n : ℕ). 4 ∷ n ∷ low 4 key) (sym (code_of_its_call call calls))
place_back (suc (suc (suc (suc (suc zero))))) call key known calls idle = ap (λ (n : ℕ). 5 ∷ n ∷ low 4 key) (sym (code_of_its_call call calls))
place_back (suc (suc (suc (suc (suc (suc zero)))))) call key known calls idle = ap (λ (n : ℕ). 6 ∷ n ∷ low 4 key) (sym (code_of_its_call call calls))
place_back (suc (suc (suc (suc (suc (suc (suc zero))))))) call key known calls idle = ap (λ (n : ℕ). 7 ∷ n ∷ low 4 key) (sym (code_of_its_call call calls))
place_back (suc (suc (suc (suc (suc (suc (suc (suc zero)))))))) call key known calls idle = ap (λ (n : ℕ). 8 ∷ n ∷ low 4 key)
    (sym (code_of_its_call call calls))
place_back (suc (suc (suc (suc (suc (suc (suc (suc (suc more))))))))) call key known calls idle = absurd (omega arith)

flag_back : (flag : ℕ) → flag ≤ 1 → flag ≡ cond (eqb flag 1) 1 0
flag_back zero small = refl
flag_back (suc zero) small = refl
flag_back (suc (suc more)) small = absurd (omega arith)

-- where one test holds or two others do, and the first does not
else_both : (a b c : Bool) → not a || (b && c) ≡ true → a ≡ true → (b ≡ true) × (c ≡ true)
else_both a b c h is = let both = rw is at h in (and_left b c both, and_right b c both)

module _ (bytes : List ℕ) (all : Bytes bytes) (at : ℕ) where
  place_stands : at + 6 ≤ length bytes → byte_at bytes at ≤ 8 → byte_at bytes (at + 1) ≤ 2 →
      (byte_at bytes at ≡ 0 → (byte_at bytes (at + 1) ≡ 0) × (four_at bytes (at + 2) ≡ 0)) →
      Stands bytes at (place_bytes (record_at bytes at).place) (at + 6)
  unfolding record_at
  place_stands inside known calls idle =
      named (place_back (byte_at bytes at) (byte_at bytes (at + 1)) (four_at bytes (at + 2)) known calls idle)
      (join (pair bytes at (at + 2) refl (omega arith)) (four bytes all (at + 2) (at + 6) (omega arith) inside))

  record_stands : at + 20 ≤ length bytes → record_fits bytes at ≡ true → Stands bytes at (record_bytes (record_at bytes at)) (at + 20)
  unfolding record_fits record_at record_bytes
  record_stands inside fit =
      let known = leb (byte_at bytes at) 8 in
      let calls = leb (byte_at bytes (at + 1)) 2 in
      let idle = eqb (byte_at bytes at) 0 in
      let no_call = eqb (byte_at bytes (at + 1)) 0 in
      let no_key = eqb (four_at bytes (at + 2)) 0 in
      let flag = leb (byte_at bytes (at + 18)) 1 in
      let last = eqb (byte_at bytes (at + 19)) 0 in
      let to_flag = and_left (known && calls && (not idle || (no_call && no_key)) && flag) last fit in
      let to_idle = and_left (known && calls && (not idle || (no_call && no_key))) flag to_flag in
      let to_calls = and_left (known && calls) (not idle || (no_call && no_key)) to_idle in
      let zero_last = eqb-true (byte_at bytes (at + 19)) 0 (and_right (known && calls && (not idle || (no_call && no_key)) && flag) last fit) in
      let small_flag = leb-true (byte_at bytes (at + 18)) 1 (and_right (known && calls && (not idle || (no_call && no_key))) flag to_flag) in
      let none : byte_at bytes at ≡ 0 → (byte_at bytes (at + 1) ≡ 0) × (four_at bytes (at + 2) ≡ 0) =
      λ is. let both = else_both idle no_call no_key (and_right (known && calls) (not idle || (no_call && no_key)) to_idle) (rw is) in
      (eqb-true (byte_at bytes (at + 1)) 0 both.0, eqb-true (four_at bytes (at + 2)) 0 both.1) in
      let place = place_stands (omega arith) (leb-true (byte_at bytes at) 8 (and_left known calls to_calls))
      (leb-true (byte_at bytes (at + 1)) 2 (and_right known calls to_calls)) none in
      let numbers = join (join (join (join (join (join place
      (two bytes all (at + 6) (at + 8) (omega arith) (omega arith)))
      (two bytes all (at + 8) (at + 10) (omega arith) (omega arith)))
      (two bytes all (at + 10) (at + 12) (omega arith) (omega arith)))
      (two bytes all (at + 12) (at + 14) (omega arith) (omega arith)))
      (two bytes all (at + 14) (at + 16) (omega arith) (omega arith)))
      (two bytes all (at + 16) (at + 18) (omega arith) (omega arith)) in
      let ends = join (one bytes (at + 18) (at + 19) (omega arith) (omega arith)) (one bytes (at + 19) (at + 20) (omega arith) inside) in
      join numbers (named (ap (λ (n : ℕ). n ∷ byte_at bytes (at + 19) ∷ []) (flag_back (byte_at bytes (at + 18)) small_flag)
      ∙ ap (λ (n : ℕ). cond (eqb (byte_at bytes (at + 18)) 1) 1 0 ∷ n ∷ []) zero_last) ends)

-- ---- the whole

module _ (bytes : List ℕ) (all : Bytes bytes) (fit : Fit bytes) where
  state_stands : Stands bytes 23 (state_bytes (state_in bytes)) 363
  unfolding state_bytes state_in
  state_stands =
      let whole = fit.long in
      let count : four_at bytes 23 ≡ byte_at bytes 23 = omega (arith, fit.count) in
      let taken : four_at bytes 27 ≡ two_at bytes 27 = omega (arith, fit.taken) in
      let records = rows bytes record_bytes (record_at bytes) 20 16 43
      (λ i below. record_stands bytes all (43 + 20 * i) (omega arith) (fit.records i below)) in
      join (join (join (join (join
      (named (ap (low 4) count) (four bytes all 23 27 refl (omega arith)))
      (named (ap (low 4) taken) (four bytes all 27 31 refl (omega arith))))
      (four bytes all 31 35 refl (omega arith)))
      (four bytes all 35 39 refl (omega arith)))
      (four bytes all 39 43 refl (omega arith)))
      records

  machine_stands : Stands bytes 15 (machine_bytes (machine_in bytes)) (end_of bytes)
  unfolding machine_bytes table_in
  machine_stands =
      let whole = fit.long in
      let kinds = rows bytes (low 1) (byte_at bytes) 1 (kinds_in bytes) 363
      (λ i below. named (sym (one_byte (byte_at bytes (363 + 1 * i)) (all (363 + 1 * i)))) (one bytes (363 + 1 * i) (363 + 1 * i + 1) refl (omega arith))) in
      let keys = rows bytes (low 4) (four_at bytes) 4 (keys_in bytes) (keys_from bytes)
      (λ i below. four bytes all (keys_from bytes + 4 * i) (keys_from bytes + 4 * i + 4) refl (omega arith)) in
      let nexts = rows bytes (low 2) (two_at bytes) 2 (nexts_in bytes) (nexts_from bytes)
      (λ i below. two bytes all (nexts_from bytes + 2 * i) (nexts_from bytes + 2 * i + 2) refl (omega arith)) in
      let backs = rows bytes (low 2) (two_at bytes) 2 (backs_in bytes) (backs_from bytes)
      (λ i below. two bytes all (backs_from bytes + 2 * i) (backs_from bytes + 2 * i + 2) refl (omega arith)) in
      let kinds_to : 363 + 1 * kinds_in bytes ≡ keys_from bytes = omega arith in
      join (join (join (join (join (join (join (join
      (named (ap (low 2) (sym (long_each (byte_at bytes) 1 (kinds_in bytes) 363))) (two bytes all 15 17 refl (omega arith)))
      (named (ap (low 2) (sym (long_each (four_at bytes) 4 (keys_in bytes) (keys_from bytes)))) (two bytes all 17 19 refl (omega arith))))
      (named (ap (low 2) (sym (long_each (two_at bytes) 2 (nexts_in bytes) (nexts_from bytes)))) (two bytes all 19 21 refl (omega arith))))
      (named (ap (low 2) (sym (long_each (two_at bytes) 2 (backs_in bytes) (backs_from bytes)))) (two bytes all 21 23 refl (omega arith))))
      state_stands)
      (moved (λ at. one_by_one (low 1) (each (byte_at bytes) 1 (kinds_in bytes) 363)) refl kinds_to kinds))
      keys)
      nexts)
      backs

pub read_is_written : ReadIsWritten
read_is_written bytes all fit =
    let f = fit_of bytes fit in
    sym (append-nil (machine_bytes (machine_in bytes))) ∙ ap (λ (r : List ℕ). machine_bytes (machine_in bytes) ++ r)
    (sym (ap (λ (n : ℕ). drop n bytes) (sym f.long) ∙ drop-length bytes))
    ∙ (machine_stands bytes all f).path

-- ---- numbers are fields

module _ (bytes : List ℕ) (at : ℕ) where
  taken_two : at + 2 ≤ length bytes → take 2 (drop at bytes) ≡ byte_at bytes at ∷ byte_at bytes (at + 1) ∷ []
  taken_two inside = ap (take 2) (sym (pair bytes at (at + 2) refl inside).path)

  taken_four : at + 4 ≤ length bytes →
      take 4 (drop at bytes) ≡ byte_at bytes at ∷ byte_at bytes (at + 1) ∷ byte_at bytes (at + 2) ∷ byte_at bytes (at + 2 + 1) ∷ []
  taken_four inside =
      ap (take 4) (sym (join (pair bytes at (at + 2) refl (omega arith)) (pair bytes (at + 2) (at + 4) (omega arith) inside)).path)

pub numbers_are_fields : NumbersAreFields
unfolding field_at number_in
numbers_are_fields bytes at = (
  λ inside. rw (taken_two bytes at inside) (omega arith),
  λ inside. rw (taken_four bytes at inside) (omega arith),
)

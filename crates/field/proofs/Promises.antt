-- The promises of the two entry points: when each refusal is given, store then load, load then store, and that an answer tells its case.
-- Assumes nothing.
use Prim.{tt}
use mathlib.Core.Path.{◌≡◌, refl, ap, sym, ◌∙◌}
use mathlib.Core.List.{List}
use Prim.Native.Nat.{ℕ, ◌+◌, ◌<◌, ◌≤◌}
use lib.ListN.{length}
use borrow.Author.Tests.{lt-ltb, le-ltb}
use Rattle.refusal.specs.Answer.{accepted, refused, left, passed}
use Rattle.refusal.proofs.Laws.{answer_past, change_past}
use Rattle.refusal.proofs.Told.{answers_differ}
use Rattle.field.specs.Field.{field_at, stored, order_of, field_tests, load_of, store_of}
use Rattle.field.specs.Claims.{StoreThenLoad, LoadThenStore, LoadsExactly, StoresExactly, LoadedDiffer}
use Rattle.field.proofs.Fields.{store_touches_no_other, stored_is_held, held_is_stored}
use Rattle.field.proofs.Entry.{tests_refuse_11, tests_refuse_10, tests_pass, is_inside, load_accepts, load_refuses, store_accepts, store_refuses}

-- ---- the refusals, exactly

module _ (len place code : ℕ) where
  finds_11 : 1 < code → field_tests len place code ≡ refused 11
  finds_11 unknown = sym (tests_refuse_11 len place code (lt-ltb 1 code unknown))

  finds_10 : code ≤ 1 → len < place + 4 → field_tests len place code ≡ refused 10
  finds_10 known past = sym (tests_refuse_10 len place code (le-ltb 1 code known) (lt-ltb len (place + 4) past))

  finds_none : code ≤ 1 → place + 4 ≤ len → field_tests len place code ≡ passed
  finds_none known inside = sym (tests_pass len place code (le-ltb 1 code known) (le-ltb len (place + 4) inside))

pub loads_exactly : LoadsExactly
loads_exactly bytes place code = (
  λ unknown. sym (load_refuses bytes place code (finds_11 (length bytes) place code unknown)),
  λ known past. sym (load_refuses bytes place code (finds_10 (length bytes) place code known past)),
  λ known inside. sym (load_accepts bytes place code (finds_none (length bytes) place code known inside) refl refl),
)

pub stores_exactly : StoresExactly
stores_exactly bytes place code key = (
  λ unknown. sym (store_refuses bytes place code key (finds_11 (length bytes) place code unknown)),
  λ known past. sym (store_refuses bytes place code key (finds_10 (length bytes) place code known past)),
  λ known inside. sym (store_accepts bytes place code key (finds_none (length bytes) place code known inside) refl refl),
)

-- ---- store then load, load then store

-- a store is accepted only where its tests pass
store_passes : (bytes : List ℕ) (place code key : ℕ) → (store_of bytes place code key).answer ≡ passed → field_tests (length bytes) place code ≡ passed
unfolding store_of
store_passes bytes place code key =
    change_past (field_tests (length bytes) place code) bytes (left (stored (order_of code) 4 bytes place key) passed) tt

-- a load is accepted only where its tests pass, and then the key is what the field holds
load_passes : (bytes : List ℕ) (place code key : ℕ) → load_of bytes place code ≡ accepted key →
    (field_tests (length bytes) place code ≡ passed) × (field_at (order_of code) 4 bytes place ≡ key)
unfolding load_of
load_passes bytes place code key = answer_past (field_tests (length bytes) place code) (field_at (order_of code) 4 bytes place) key

pub store_then_load : StoreThenLoad
store_then_load bytes place code key small accepts =
    let passes : field_tests (length bytes) place code ≡ passed = store_passes bytes place code key accepts in
    let inside : place + 4 ≤ length bytes = is_inside (length bytes) place code passes in
    let after : List ℕ = stored (order_of code) 4 bytes place key in
    let long : length (stored (order_of code) 4 bytes place key) ≡ length bytes = (store_touches_no_other (order_of code) 4 bytes place key inside).0 in
    let left_so : left (stored (order_of code) 4 bytes place key) passed ≡ store_of bytes place code key =
    store_accepts bytes place code key passes refl refl in
    let held : key ≡ field_at (order_of code) 4 after place = sym (stored_is_held (order_of code) 4 bytes place key inside small) in
    rw (← left_so) (sym (load_accepts after place code (ap (λ (n : ℕ). field_tests n place code) long ∙ passes) refl held))

pub load_then_store : LoadThenStore
load_then_store bytes place code key all accepts =
    let told = load_passes bytes place code key accepts in
    let inside : place + 4 ≤ length bytes = is_inside (length bytes) place code told.0 in
    let same : bytes ≡ stored (order_of code) 4 bytes place key = rw (← told.1) (sym (held_is_stored (order_of code) 4 bytes place all inside)) in
    sym (store_accepts bytes place code key told.0 refl same)

pub loaded_differ : LoadedDiffer
loaded_differ = answers_differ _ _ (λ key. key) (λ x y same. same)

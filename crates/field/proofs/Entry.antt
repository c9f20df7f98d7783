-- The two entry points case by case: what the tests found, and what is then answered and left.
-- Assumes nothing.
use mathlib.Core.Path.{◌≡◌}
use mathlib.Core.Bool.{true, false}
use mathlib.Core.List.{List}
use Prim.Native.Nat.{ℕ, ◌+◌, ◌≤◌}
use lib.ListN.{length}
use borrow.Author.Tests.{ltb-false}
use Rattle.refusal.specs.Answer.{accepted, refused, left, passed, refusing}
use Rattle.refusal.proofs.Laws.{past_test}
use Rattle.field.specs.declared.ByteOrder.{ByteOrder}
use Rattle.field.specs.Field.{field_at, stored, order_of, no_such_order, runs_past, field_tests, load_of, store_of}

-- ---- the tests, in their order

module _ (len place code : ℕ) where
  pub tests_refuse_11 : no_such_order code ≡ true → refused 11 ≡ field_tests len place code
  unfolding field_tests
  tests_refuse_11 no_order = rw no_order

  pub tests_refuse_10 : no_such_order code ≡ false → runs_past len place ≡ true → refused 10 ≡ field_tests len place code
  unfolding field_tests
  tests_refuse_10 order past_the_end = rw (order, past_the_end)

  pub tests_pass : no_such_order code ≡ false → runs_past len place ≡ false → passed ≡ field_tests len place code
  unfolding field_tests
  tests_pass order inside = rw (order, inside)

-- a field that passes them lies inside its record
pub is_inside : (len place code : ℕ) → field_tests len place code ≡ passed → place + 4 ≤ len
unfolding field_tests
is_inside len place code passes =
    let past_order : refusing (runs_past len place) 10 passed ≡ passed =
    (past_test (no_such_order code) 11 (refusing (runs_past len place) 10 passed) passes).1 in
    ltb-false len (place + 4) (past_test (runs_past len place) 10 passed past_order).0

-- ---- a load

module _ (bytes : List ℕ) (place code : ℕ) where
  pub load_accepts : {order : ByteOrder} {key : ℕ} →
      field_tests (length bytes) place code ≡ passed → order ≡ order_of code → key ≡ field_at order 4 bytes place → accepted key ≡ load_of bytes place code
  unfolding load_of
  load_accepts passes named held = rw (passes, ← named, held)

  pub load_refuses : {number : ℕ} → field_tests (length bytes) place code ≡ refused number → refused number ≡ load_of bytes place code
  unfolding load_of
  load_refuses stops = rw stops

-- ---- a store

module _ (bytes : List ℕ) (place code key : ℕ) where
  pub store_accepts : {order : ByteOrder} {after : List ℕ} →
      field_tests (length bytes) place code ≡ passed → order ≡ order_of code → after ≡ stored order 4 bytes place key →
      left after passed ≡ store_of bytes place code key
  unfolding store_of
  store_accepts passes named left = rw (passes, ← named, left)

  pub store_refuses : {number : ℕ} → field_tests (length bytes) place code ≡ refused number → left bytes (refused number) ≡ store_of bytes place code key
  unfolding store_of
  store_refuses stops = rw stops

-- The code's own values in the document's terms: its answer to a load, what its store leaves.
use Prim.{Unit}
use Rattle.std.specs.Prelude.{List, ℕ, Result}
use Rattle.refusal.specs.declared.Refusal.{Refusal}
use Rattle.refusal.specs.Answer.{Answer, answer_is, Left, left, verdict_is}
use Rattle.field.specs.declared.ByteOrder.{ByteOrder}

-- what the tests of a field give: the order, or the refusal's number
abbrev pub order_is : Result ByteOrder Refusal → Answer ByteOrder
order_is asked = answer_is (λ order. order) asked

-- a load's answer: the key, or the refusal's number
abbrev pub loaded_is : Result ℕ Refusal → Answer ℕ
loaded_is loaded = answer_is (λ key. key) loaded

-- what a store leaves: the record afterwards, and that it was done or the refusal's number
abbrev pub store_leaves : List ℕ → Result (Unit {0}) Refusal → Left (List ℕ) (Unit {0})
store_leaves bytes answer = left bytes (verdict_is answer)

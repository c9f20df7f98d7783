-- The contracts of the entry points leave one outcome each.
-- Assumes nothing.
use Prim.{Unit}
use mathlib.Core.Path.{◌≡◌, ap, refl}
use mathlib.Core.List.{List}
use Prim.Native.Nat.{ℕ}
use Rattle.std.specs.Prelude.{Result}
use Rattle.logic.specs.Outcome.{OneOutcome}
use Rattle.logic.proofs.Outcome.{by_equation}
use Rattle.refusal.specs.declared.Refusal.{Refusal}
use Rattle.refusal.specs.Answer.{Left, left, answer_is}
use Rattle.refusal.proofs.Told.{answers_differ}
use Rattle.calls.specs.declared.Said.{Said}
use Rattle.calls.specs.declared.Call.{Call}
use Rattle.calls.specs.Words.{word_of}
use Rattle.calls.proofs.Told.{words_differ}
use Rattle.std.specs.Borrow.{GName}
use Rattle.list_rows.specs.declared.ColumnsMut.{ColumnsMut}
use Rattle.list_rows.specs.Table.{SameColumns}
use Rattle.list_rows.proofs.Lent.{names, one_lent}
use Rattle.list_unchecked.specs.Unchecked.{Machine, columns_of, machine_of}
use Rattle.list.proofs.set_up.Reads as set_up
use Rattle.list.proofs.call_asks.Reads as call_asks
use Rattle.list.proofs.call.Reads as call
use Rattle.list.proofs.move_asks.Reads as move_asks
use Rattle.list.proofs.step.Reads as step
use Rattle.list.proofs.listing.Reads as listing

-- two outcomes that read the same in the document's terms are the same
pub left_told : (M A B : Type 0) (read : A → B) → ((x y : A) → read x ≡ read y → x ≡ y) →
    (m₁ m₂ : M) (answer₁ answer₂ : Result A Refusal) → left m₁ (answer_is read answer₁) ≡ left m₂ (answer_is read answer₂) →
    ◌≡◌ {A = M × Result A Refusal} (m₁, answer₁) (m₂, answer₂)
left_told M A B read told m₁ m₂ answer₁ answer₂ e =
    let memory : m₁ ≡ m₂ = ap (λ (l : Left M B). l.memory) e in
    let answer : answer₁ ≡ answer₂ = answers_differ A B read told answer₁ answer₂ (ap (λ (l : Left M B). l.answer) e) in
    rw (memory, answer)

-- the same with whose the columns are
pub engine_told : (A B : Type 0) (read : A → B) → ((x y : A) → read x ≡ read y → x ≡ y) →
    {is : Left Machine B} {was left₁ left₂ : ColumnsMut} {m₁ m₂ : Machine} {answer₁ answer₂ : Result A Refusal} →
    left m₁ (answer_is read answer₁) ≡ is → left m₂ (answer_is read answer₂) ≡ is → SameColumns was left₁ → SameColumns was left₂ →
    ◌≡◌ {A = (Machine × Result A Refusal) × (GName × GName × GName × GName)} ((m₁, answer₁), names left₁) ((m₂, answer₂), names left₂)
engine_told A B read told e f first second = one_lent (left_told Machine A B read told _ _ _ _ (by_equation e f)) refl first second

-- ---- the entry points: the four columns and whose they are, the state and the answer; of a listing its places and the answer

pub set_up_fixed : OneOutcome {Seen = (Machine × Result (Unit {0}) Refusal) × (GName × GName × GName × GName)} set_up.Post
    (λ κs answer exit. ((machine_of exit.0.now, answer), names (columns_of exit.0.now)))
set_up_fixed κs given answer₁ answer₂ exit₁ exit₂ p q = engine_told _ _ (λ done. done) (λ x y same. same) p.0 q.0 p.1 q.1

pub call_fixed : OneOutcome {Seen = (Machine × Result (Unit {0}) Refusal) × (GName × GName × GName × GName)} call.Post
    (λ κs answer exit. ((machine_of exit.0.now, answer), names (columns_of exit.0.now)))
call_fixed κs given answer₁ answer₂ exit₁ exit₂ p q = engine_told _ _ (λ done. done) (λ x y same. same) p.0 q.0 p.1 q.1

pub step_fixed : OneOutcome {Seen = (Machine × Result Said Refusal) × (GName × GName × GName × GName)} step.Post
    (λ κs answer exit. ((machine_of exit.0.now, answer), names (columns_of exit.0.now)))
step_fixed κs given answer₁ answer₂ exit₁ exit₂ p q = engine_told _ _ word_of words_differ p.0 q.0 p.1 q.1

pub listing_fixed : OneOutcome {Seen = List ℕ × Result ℕ Refusal} listing.Post (λ κs answer exit. (exit.1.1.0.now, answer))
listing_fixed κs given answer₁ answer₂ exit₁ exit₂ p q =
    left_told _ _ _ (λ count. count) (λ x y same. same) _ _ answer₁ answer₂ (by_equation p q)

-- ---- the tests that a program on a grown list makes by itself

pub call_asks_fixed : OneOutcome {Seen = Result Call Refusal} call_asks.Post (λ κs answer exit. answer)
call_asks_fixed κs given answer₁ answer₂ exit₁ exit₂ p q =
    answers_differ _ _ (λ call. call) (λ x y same. same) answer₁ answer₂ (by_equation p q)

pub move_asks_fixed : OneOutcome {Seen = Result (Unit {0}) Refusal} move_asks.Post (λ κs answer exit. answer)
move_asks_fixed κs given answer₁ answer₂ exit₁ exit₂ p q =
    answers_differ _ _ (λ done. done) (λ x y same. same) answer₁ answer₂ (by_equation p q)

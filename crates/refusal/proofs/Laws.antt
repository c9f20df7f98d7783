-- What an answer tells of the tests before it.
-- Assumes nothing.
use mathlib.Core.Path.{◌≡◌, refl, sym, ap}
use mathlib.Core.Bool.{Bool, true, false}
use Prim.Native.Nat.{ℕ}
use native.Mathlib.Omega.{arith}
use Rattle.refusal.specs.Answer.{accepted, refused, Left, left, Tests, passed, refusing, answering, leaving}

-- nothing is both accepted and refused
pub not_both : {A : Type 0} {value : A} {number : ℕ} → accepted value ≡ refused number → ⊥
not_both e = let z : ◌≡◌ {A = ℕ} 0 1 = cc in omega arith

-- where the tests pass, this one did not hold and the later ones pass
pub past_test : (test : Bool) (number : ℕ) (later : Tests) → refusing test number later ≡ passed → (test ≡ false) × (later ≡ passed)
past_test true number later e = absurd (not_both (sym e))
past_test false number later e = (refl, e)

-- a value is answered only where the tests pass, and then it is the one that comes after them
pub answer_past : {A : Type 0} (tests : Tests) (value answer : A) → answering tests (accepted value) ≡ accepted answer → (tests ≡ passed) × (value ≡ answer)
answer_past (accepted done) value answer e = (refl, cc)
answer_past (refused number) value answer e = absurd (not_both (sym e))

-- and a number only where they give it
pub refused_past : {A : Type 0} (tests : Tests) (value : A) {number : ℕ} → refused number ≡ answering tests (accepted value) → tests ≡ refused number
refused_past (accepted done) value e = absurd (not_both (sym e))
refused_past (refused other) value e = let same : other ≡ _ = cc in ap refused same

-- memory is changed only where the tests pass
pub change_past : {M A : Type 0} (tests : Tests) (found : M) (changed : Left M A) (value : A) →
    (leaving tests found changed).answer ≡ accepted value → tests ≡ passed
change_past (accepted done) found changed value e = refl
change_past (refused number) found changed value e = absurd (not_both (sym e))

-- what an entry point leaves where its tests pass, and where they refuse
pub leaves_changed : {M A : Type 0} (tests : Tests) (found : M) (changed : Left M A) → tests ≡ passed → changed ≡ leaving tests found changed
leaves_changed tests found changed passes = rw passes

pub leaves_found : {M A : Type 0} (tests : Tests) (found : M) (changed : Left M A) {number : ℕ} →
    tests ≡ refused number → left found (refused number) ≡ leaving tests found changed
leaves_found tests found changed stops = rw stops

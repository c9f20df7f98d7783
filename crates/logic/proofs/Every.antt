-- From a test at every row to the fact at each row, and back.
-- Assumes nothing.
use mathlib.Core.Path.{◌≡◌, refl, ap, sym, ◌∙◌}
use mathlib.Core.Bool.{Bool, true, ◌&&◌}
use mathlib.Core.List.{List}
use mathlib.Core.Logic.{⊎_elim}
use lib.ListN.{length, get_or, take}
use Prim.Native.Nat.{ℕ, zero, suc, ◌<◌, ◌≤◌}
use native.Mathlib.Numerals.{add-one}
use native.Mathlib.Nat.{zero-add, not-suc-le-zero, eq-or-lt_of_le, le_of_suc-le-suc, lt-suc_self, lt_trans}
use Rattle.std.specs.List.{list_all, enumerate_from}
use Rattle.std.proofs.Math.Seq.{take-length}
use Rattle.std.proofs.lemmas.List.Folds.{list_all_more}
use Rattle.std.proofs.lemmas.List.FromFn.{length-enumerate_from, get_or-enumerate_from}
use native.Mathlib.Omega.{arith}
use Rattle.logic.specs.Every.{every}
use Rattle.logic.proofs.Tests.{and_left, and_right, and_both}

pub every_at : (test : ℕ → Bool) (n : ℕ) → every test n ≡ true → (k : ℕ) → k < n → test k ≡ true
every_at test zero h k p = absurd (not-suc-le-zero p)
every_at test (suc n) h k p =
    ⊎_elim (λ (e : k ≡ n). rw e (and_right (every test n) (test n) h)) (λ (l : k < n). every_at test n (and_left (every test n) (test n) h) k l)
    (eq-or-lt_of_le (le_of_suc-le-suc p))

pub every_of : (test : ℕ → Bool) (n : ℕ) → ((k : ℕ) → k < n → test k ≡ true) → every test n ≡ true
every_of test zero h = refl
every_of test (suc n) h = and_both (every_of test n (λ k p. h k (lt_trans p (lt-suc_self n)))) (h n (lt-suc_self n))

-- tests that agree below a limit
pub every_same : (f g : ℕ → Bool) (n : ℕ) → ((k : ℕ) → k < n → f k ≡ g k) → every f n ≡ every g n
every_same f g zero same = refl
every_same f g (suc n) same = rw (every_same f g n (λ k p. same k (lt_trans p (lt-suc_self n))), same n (lt-suc_self n)) refl

-- the first n of a list, tested one after another
pub every_taken : {X : Type 0} (p : X → Bool) (xs : List X) (d : X) (n : ℕ) → n ≤ length xs →
    list_all p (take n xs) ≡ every (λ i. p (get_or xs i d)) n
every_taken p xs d zero within = refl
every_taken p xs d (suc n) within =
    let step : list_all p (take (suc n) xs) ≡ (list_all p (take n xs) && p (get_or xs n d)) = rw (sym (add-one n)) (list_all_more p xs n d within) in
    step ∙ ap (λ b. b && p (get_or xs n d)) (every_taken p xs d n (omega (arith, within)))

-- a whole list, tested with the place of each
pub every_listed : {X : Type 0} (test : ℕ → X → Bool) (xs : List X) (d : X) →
    list_all (λ (x : ℕ × X). test x.0 x.1) (enumerate_from 0 xs) ≡ every (λ i. test i (get_or xs i d)) (length xs)
every_listed {X} test xs d =
    let long : length (enumerate_from 0 xs) ≡ length xs = length-enumerate_from 0 xs in
    let whole : take (length xs) (enumerate_from 0 xs) ≡ enumerate_from 0 xs = rw (sym long) (take-length (enumerate_from 0 xs)) in
    let one_by_one = every_taken (λ (x : ℕ × X). test x.0 x.1) (enumerate_from 0 xs) (0, d) (length xs) (omega (arith, long)) in
    ap (list_all (λ (x : ℕ × X). test x.0 x.1)) (sym whole) ∙ one_by_one
    ∙ every_same _ (λ i. test i (get_or xs i d)) (length xs)
    (λ k p. rw (get_or-enumerate_from 0 xs k (0, d) p, zero-add k) refl)

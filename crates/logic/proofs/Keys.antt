-- The laws of lists of keys: a rising list is known by its keys, and a key put in or taken out changes that key alone.
-- Assumes nothing.
use Prim.{tt}
use Prim.Native.Nat.{ℕ, suc, ◌≤◌}
use mathlib.Core.Path.{◌≡◌, refl, sym, subst, ◌∙◌}
use mathlib.Core.Logic.{◌⊎◌, inl, inr, ⊎_elim, ⊎_swap, ◌≢◌}
use mathlib.Core.List.{List, [], ◌∷◌}
use mathlib.Core.Bool.{true, false, false≢true, true≢false, or-true}
use native.Mathlib.Omega.{arith}
use lib.Dec.{eqb, ltb}
use borrow.Author.Tests.{ltb-true, ltb-false, eqb-true, eqb-false, eq-eqb}
use Rattle.logic.specs.Keys.{RisingFrom, extra, has, placed, without}
use Rattle.logic.proofs.Cases.{by_row, on_cond}
use Rattle.logic.proofs.Tests.{or_cases, is_false}

-- ---- what is in a list

pub has_nil : (key : ℕ) → has key [] ≡ true → ⊥
unfolding has
has_nil key h = false≢true h

pub has_cons : (key first : ℕ) (rest : List ℕ) → has key (first ∷ rest) ≡ true → (key ≡ first) ⊎ (has key rest ≡ true)
unfolding has
has_cons key first rest h = ⊎_elim (λ e. inl (eqb-true key first e)) (λ e. inr e) (or_cases (eqb key first) (has key rest) h)

pub has_head : (key first : ℕ) (rest : List ℕ) → key ≡ first → has key (first ∷ rest) ≡ true
unfolding has
has_head key first rest e = rw (eq-eqb key first e) refl

pub has_tail : (key first : ℕ) (rest : List ℕ) → has key rest ≡ true → has key (first ∷ rest) ≡ true
unfolding has
has_tail key first rest h = rw h (or-true (eqb key first))

pub has_not : (key : ℕ) (keys : List ℕ) → (has key keys ≡ true → ⊥) → has key keys ≡ false
has_not key keys n = is_false (has key keys) n

not_cons : (key first : ℕ) (rest : List ℕ) → has key (first ∷ rest) ≡ false → (key ≢ first) × (has key rest ≡ false)
not_cons key first rest n =
    (λ e. true≢false (sym (has_head key first rest e) ∙ n), has_not key rest (λ h. true≢false (sym (has_tail key first rest h) ∙ n)))

-- ---- rising lists

pub rising_weaken : (a b : ℕ) (keys : List ℕ) → a ≤ b → RisingFrom b keys → RisingFrom a keys
rising_weaken a b [] h r = tt
rising_weaken a b (first ∷ rest) h r = (omega (arith, r.0), r.1)

pub rising_above : (least key : ℕ) (keys : List ℕ) → RisingFrom least keys → has key keys ≡ true → least ≤ key
rising_above least key [] r h = absurd (has_nil key h)
rising_above least key (first ∷ rest) r h =
    ⊎_elim (λ (e : key ≡ first). omega (arith, r.0)) (λ k. omega (arith, r.0, rising_above (suc first) key rest r.1 k)) (has_cons key first rest h)

-- a rising list is known by its keys
pub rising_ext : (least : ℕ) (xs ys : List ℕ) → RisingFrom least xs → RisingFrom least ys →
    ((k : ℕ) → has k xs ≡ true → has k ys ≡ true) → ((k : ℕ) → has k ys ≡ true → has k xs ≡ true) → xs ≡ ys
rising_ext least [] [] p q f g = refl
rising_ext least [] (y ∷ ys) p q f g = absurd (has_nil y (g y (has_head y y ys refl)))
rising_ext least (x ∷ xs) [] p q f g = absurd (has_nil x (f x (has_head x x xs refl)))
rising_ext least (x ∷ xs) (y ∷ ys) p q f g =
    let e : x ≡ y = heads (has_cons x y ys (f x (has_head x x xs refl))) (has_cons y x xs (g y (has_head y y ys refl))) in
    let t : xs ≡ ys = rising_ext (suc x) xs ys p.1 (rw e q.1)
    (λ k h. rest (λ (d : k ≡ y). absurd (omega (arith, rising_above (suc x) k xs p.1 h))) (has_cons k y ys (f k (has_tail k x xs h))))
    (λ k h. rest (λ (d : k ≡ x). absurd (omega (arith, rising_above (suc y) k ys q.1 h))) (has_cons k x xs (g k (has_tail k y ys h)))) in cc
  where
    heads : (x ≡ y) ⊎ (has x ys ≡ true) → (y ≡ x) ⊎ (has y xs ≡ true) → x ≡ y
    heads (inl e) k = e
    heads (inr h) (inl e) = sym e
    heads (inr h) (inr k) = absurd (omega (arith, rising_above (suc y) x ys q.1 h, rising_above (suc x) y xs p.1 k))

    rest : {A B : Type 0} → (A → B) → A ⊎ B → B
    rest h (inl a) = h a
    rest h (inr b) = b

-- ---- a key put in its place

pub placed_new : (key : ℕ) (keys : List ℕ) → has key (placed key keys) ≡ true
unfolding placed
placed_new key [] = has_head key key [] refl
placed_new key (first ∷ rest) = on_cond (λ l. has key l ≡ true) (ltb key first) _ _
    (λ l. has_head key key (first ∷ rest) refl) (λ l. has_tail key first (placed key rest) (placed_new key rest))

pub placed_old : (key y : ℕ) (keys : List ℕ) → has y keys ≡ true → has y (placed key keys) ≡ true
unfolding placed
placed_old key y [] h = absurd (has_nil y h)
placed_old key y (first ∷ rest) h = on_cond (λ l. has y l ≡ true) (ltb key first) _ _
    (λ l. has_tail y key (first ∷ rest) h)
    (λ l. ⊎_elim (λ e. has_head y first (placed key rest) e)
    (λ k. has_tail y first (placed key rest) (placed_old key y rest k)) (has_cons y first rest h))

pub placed_has : (key y : ℕ) (keys : List ℕ) → has y (placed key keys) ≡ true → (has y keys ≡ true) ⊎ (y ≡ key)
unfolding placed
placed_has key y [] = λ h. ⊎_swap (has_cons y key [] h)
placed_has key y (first ∷ rest) = on_cond (λ l. has y l ≡ true → (has y (first ∷ rest) ≡ true) ⊎ (y ≡ key)) (ltb key first) _ _
    (λ l h. ⊎_swap (has_cons y key (first ∷ rest) h))
    (λ l h. ⊎_elim (λ e. inl (has_head y first rest e))
    (λ k. ⊎_elim (λ d. inl (has_tail y first rest d)) (λ d. inr d) (placed_has key y rest k)) (has_cons y first (placed key rest) h))

pub placed_rising : (least key : ℕ) (keys : List ℕ) → least ≤ key → has key keys ≡ false → RisingFrom least keys → RisingFrom least (placed key keys)
unfolding placed
placed_rising least key [] h n r = (h, tt)
placed_rising least key (first ∷ rest) h n r = on_cond (RisingFrom least) (ltb key first) _ _
    (λ l. (h, (ltb-true key first l, r.1)))
    (λ l. let o = not_cons key first rest n in (r.0, placed_rising (suc first) key rest (omega (arith, ltb-false key first l, o.0)) o.1 r.1))

-- ---- a key taken out

pub without_has : (key y : ℕ) (keys : List ℕ) → has y (without key keys) ≡ true → (has y keys ≡ true) × (y ≢ key)
unfolding without
without_has key y [] = λ h. absurd (has_nil y h)
without_has key y (first ∷ rest) = on_cond (λ l. has y l ≡ true → (has y (first ∷ rest) ≡ true) × (y ≢ key)) (eqb key first) _ _
    (λ e h. let k = without_has key y rest h in (has_tail y first rest k.0, k.1))
    (λ e h. ⊎_elim (λ d. (has_head y first rest d, λ q. eqb-false key first e (sym q ∙ d)))
    (λ d. let k = without_has key y rest d in (has_tail y first rest k.0, k.1)) (has_cons y first (without key rest) h))

pub without_old : (key y : ℕ) (keys : List ℕ) → has y keys ≡ true → y ≢ key → has y (without key keys) ≡ true
unfolding without
without_old key y [] h n = absurd (has_nil y h)
without_old key y (first ∷ rest) h n = on_cond (λ l. has y l ≡ true) (eqb key first) _ _
    (λ e. ⊎_elim (λ d. absurd (n (d ∙ sym (eqb-true key first e)))) (λ d. without_old key y rest d n) (has_cons y first rest h))
    (λ e. ⊎_elim (λ d. has_head y first (without key rest) d)
    (λ d. has_tail y first (without key rest) (without_old key y rest d n)) (has_cons y first rest h))

pub without_rising : (least key : ℕ) (keys : List ℕ) → RisingFrom least keys → RisingFrom least (without key keys)
unfolding without
without_rising least key [] r = tt
without_rising least key (first ∷ rest) r = on_cond (RisingFrom least) (eqb key first) _ _
    (λ e. rising_weaken least (suc first) (without key rest) (omega (arith, r.0)) (without_rising (suc first) key rest r.1))
    (λ e. (r.0, without_rising (suc first) key rest r.1))

-- ---- how many keys of one list are not in another

pub extra_none : (xs ys : List ℕ) → ((k : ℕ) → has k xs ≡ true → has k ys ≡ true) → extra xs ys ≡ 0
unfolding extra
extra_none [] ys f = refl
extra_none (x ∷ xs) ys f = rw (f x (has_head x x xs refl)) (omega (arith, extra_none xs ys (λ k h. f k (has_tail k x xs h))))

-- a key that is not in ys, put into a list whose keys are all in ys
extra_one : (key : ℕ) (xs ys : List ℕ) → has key ys ≡ false → ((k : ℕ) → has k xs ≡ true → has k ys ≡ true) → extra (placed key xs) ys ≡ 1
unfolding extra placed
extra_one key [] ys n f = rw n (omega arith)
extra_one key (x ∷ xs) ys n f =
    let t : (k : ℕ) → has k xs ≡ true → has k ys ≡ true = λ k h. f k (has_tail k x xs h) in
    on_cond (λ l. extra l ys ≡ 1) (ltb key x) _ _
    (λ l. rw (n, f x (has_head x x xs refl), extra_none xs ys t) refl)
    (λ l. rw (f x (has_head x x xs refl)) (omega (arith, extra_one key xs ys n t)))

pub extra_placed : (key : ℕ) (keys : List ℕ) → has key keys ≡ false → (extra (placed key keys) keys ≡ 1) × (extra keys (placed key keys) ≡ 0)
extra_placed key keys n = (extra_one key keys keys n (λ k h. h), extra_none keys (placed key keys) (λ k h. placed_old key k keys h))

without_not : (key : ℕ) (keys : List ℕ) → has key (without key keys) ≡ false
without_not key keys = has_not key (without key keys) (λ h. (without_has key key keys h).1 refl)

-- what is taken out and put in again
placed_without : (least key : ℕ) (keys : List ℕ) → RisingFrom least keys → has key keys ≡ true → placed key (without key keys) ≡ keys
placed_without least key keys r h = rising_ext least (placed key (without key keys)) keys
    (placed_rising least key (without key keys) (rising_above least key keys r h) (without_not key keys) (without_rising least key keys r)) r
    (λ k d. ⊎_elim (λ q. (without_has key k keys q).0) (λ q. subst (λ z. has z keys ≡ true) (sym q) h) (placed_has key k (without key keys) d))
    (λ k d. by_row k key
    (λ q. subst (λ z. has z (placed key (without key keys)) ≡ true) (sym q) (placed_new key (without key keys)))
    (λ n. placed_old key k (without key keys) (without_old key k keys d n)))

pub extra_without : (least key : ℕ) (keys : List ℕ) → RisingFrom least keys → has key keys ≡ true →
    (extra keys (without key keys) ≡ 1) × (extra (without key keys) keys ≡ 0)
extra_without least key keys r h =
    let e : placed key (without key keys) ≡ keys = placed_without least key keys r h in
    rw e at (extra_placed key (without key keys) (without_not key keys))

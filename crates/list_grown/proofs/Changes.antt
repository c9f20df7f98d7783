-- What a event does to the listed keys, and how many it brings in and takes out, from what its deed does to the live ranks.
-- Assumes nothing.
use Prim.Native.Nat.{ℕ, ◌+◌}
use mathlib.Core.Path.{◌≡◌, subst}
use mathlib.Core.Logic.{inl, inr, ⊎_elim}
use mathlib.Core.List.{List}
use mathlib.Core.Bool.{Bool, true, false}
use native.Mathlib.Omega.{arith}
use Rattle.list_unchecked.specs.Unchecked.{Machine}
use Rattle.list.specs.Engine.{live_keys}
use Rattle.list_world.proofs.World.{World}
use Rattle.list_world.proofs.Live.{Effect, still, gain, lose}
use Rattle.logic.specs.Keys.{Rising, has, placed, without, extra}
use Rattle.logic.proofs.Keys.{
  has_not,
  rising_ext,
  placed_new,
  placed_old,
  placed_has,
  placed_rising,
  without_has,
  without_old,
  without_rising,
  extra_none,
  extra_placed,
  extra_without,
}
use Rattle.list_grown.specs.Deeds.{Deed, called, read, add_won, mark_won, clean_won, lost}
use Rattle.list_grown.specs.Demands.{Changes}
use Rattle.list_grown.proofs.View.{Inv}
use Rattle.list_grown.proofs.Machine.{view_of, world_of, change_of, ins_of, outs_of}
use Rattle.list_grown.proofs.Listing.{keys_rise, keys_live, live_keys_lem}

-- ---- the counts

no_extra : {xs ys : List ℕ} → ys ≡ xs → (extra ys xs ≡ 0) × (extra xs ys ≡ 0)
no_extra {xs} e = rw e (extra_none xs xs (λ k h. h), extra_none xs xs (λ k h. h))

counted : (deed : Deed) (xs ys : List ℕ) → Rising xs → Changes deed xs ys → (extra ys xs ≡ ins_of deed) × (extra xs ys ≡ outs_of deed)
counted called xs ys up change = no_extra change
counted read xs ys up change = no_extra change
counted (add_won key) xs ys up change = rw change.1 (extra_placed key xs change.0)
counted (mark_won key) xs ys up change = let one = extra_without 0 key xs up change.0 in rw change.1 (one.1, one.0)
counted clean_won xs ys up change = no_extra change
counted lost xs ys up change = no_extra change

-- ---- the keys

module _ (orphan : ℕ → Bool) (m m' : Machine) (v : Inv (view_of orphan m)) (v' : Inv (view_of orphan m')) where
  abbrev w : World
  w = world_of orphan m

  abbrev w' : World
  w' = world_of orphan m'

  abbrev before : List ℕ
  before = live_keys m

  abbrev after : List ℕ
  after = live_keys m'

  keys_stay : Effect w w' still → after ≡ before
  keys_stay e = rising_ext 0 after before (keys_rise orphan m' v') (keys_rise orphan m v)
      (λ k h. live_keys_lem orphan m v k ((e (3 + k)).0 (keys_live orphan m' v' k h)))
      (λ k h. live_keys_lem orphan m' v' k ((e (3 + k)).1 (keys_live orphan m v k h)))

  key_comes : (key : ℕ) → Effect w w' (gain (3 + key)) → (has key before ≡ false) × (after ≡ placed key before)
  key_comes key e =
      let absent : has key before ≡ false = has_not key before (λ h. e.0 (keys_live orphan m v key h)) in (
        absent,
        rising_ext 0 after (placed key before) (keys_rise orphan m' v') (placed_rising 0 key before (omega arith) absent (keys_rise orphan m v))
            (λ k h. ⊎_elim
            (λ l. placed_old key k before (live_keys_lem orphan m v k l))
            (λ (is : 3 + k ≡ 3 + key). subst (λ z. has z (placed key before) ≡ true) (omega arith) (placed_new key before))
            ((e.1 (3 + k)).0 (keys_live orphan m' v' k h)))
            (λ k h. live_keys_lem orphan m' v' k ((e.1 (3 + k)).1 (⊎_elim
            (λ old. inl (keys_live orphan m v k old)) (λ (is : k ≡ key). inr (omega arith)) (placed_has key k before h)))),
      )

  key_goes : (key own : ℕ) → Effect w w' (lose (3 + key) own) → (has key before ≡ true) × (after ≡ without key before)
  key_goes key own e = (
    live_keys_lem orphan m v key e.0,
    rising_ext 0 after (without key before) (keys_rise orphan m' v') (without_rising 0 key before (keys_rise orphan m v))
        (λ k h. let l = (e.1 (3 + k)).0 (keys_live orphan m' v' k h) in
        without_old key k before (live_keys_lem orphan m v k l.0) (λ (is : k ≡ key). l.1 (omega arith)))
        (λ k h. let old = without_has key k before h in
        live_keys_lem orphan m' v' k ((e.1 (3 + k)).1 (keys_live orphan m v k old.0, λ (is : 3 + k ≡ 3 + key). old.1 (omega arith)))),
  )

  pub changes : (deed : Deed) (own : ℕ) → Effect w w' (change_of deed own) → Changes deed before after
  changes called own e = keys_stay e
  changes read own e = keys_stay e
  changes (add_won key) own e = key_comes key e
  changes (mark_won key) own e = key_goes key own e
  changes clean_won own e = keys_stay e
  changes lost own e = keys_stay e

  pub ins_outs : (deed : Deed) (own : ℕ) → Effect w w' (change_of deed own) → (extra after before ≡ ins_of deed) × (extra before after ≡ outs_of deed)
  ins_outs deed own e = counted deed before after (keys_rise orphan m v) (changes deed own e)

-- The proofs of the demands, each from what holds along a history.
-- Assumes nothing.
use Prim.Native.Nat.{ℕ, zero, suc, ◌+◌, ◌-◌, ◌*◌, ◌≤◌, ◌<◌}
use mathlib.Core.Path.{◌≡◌, refl, ap}
use mathlib.Core.Bool.{true}
use mathlib.Core.Logic.{dite}
use native.Mathlib.Nat.{zero-add}
use native.Mathlib.Decide.{dec_lt}
use native.Mathlib.Omega.{arith}
use lib.Dec.{eqb}
use lib.ListN.{length, get_or-eq_default}
use borrow.Author.Tests.{le-ltb}
use Rattle.logic.proofs.Tests.{and_left, and_right}
use Rattle.list_party.specs.declared.Place.TheVariants.{Idle}
use Rattle.list_party.specs.Party.{blank, is_idle}
use Rattle.list_unchecked.specs.Unchecked.{Machine, party_of}
use Rattle.list_form.specs.Form.{record_fits}
use Rattle.list_form.proofs.Good.{Good, good}
use Rattle.list.specs.Run.{event_of}
use Rattle.list_grown.specs.History.{History, start, Grows, grown}
use Rattle.list_grown.specs.Counts.{Counts, plus, no_counts}
use Rattle.list_grown.specs.Deeds.{deed_of, counts_of}
use Rattle.list_grown.specs.Rest.{AtRest}
use Rattle.list_grown.specs.Demands.{GoodFormKept, ListsLiveKeys, Demand2, Demand3, RowsTaken}
use Rattle.list_grown.proofs.Grown.{Healthy, Start, Balanced, advance_of, healthy_along, balanced_along, start_balanced}
use Rattle.list_grown.proofs.SetUp.{none, set_up, start_is}
use Rattle.list_grown.proofs.Listing.{listing_is, keys_rise, keys_live, live_keys_lem, live_row, row_live}
use Rattle.list_grown.proofs.Changes.{changes}
use Rattle.list_grown.proofs.Neat.{rest_clean}
use Rattle.list_grown.proofs.Events.{whose, idle_is}

none_plus : (c : Counts) → plus no_counts c ≡ c
none_plus c = simp zero-add refl

module _ (came : Machine) (parties : ℕ) (history : History) (g : Grows came parties history) where
  begins : Start none parties (start came parties)
  begins = set_up came parties g.set

  healthy : Healthy none parties (grown came parties history)
  healthy = healthy_along none parties history (start came parties) begins.healthy g.accepted

  -- the books against the counts from set-up on; set-up has taken the four ends
  balanced : Balanced parties 4 (grown came parties history) (counts_of (start came parties) history)
  balanced =
      let taken : (start came parties).state.taken ≡ 4 = ap (λ m. m.state.taken) (start_is came parties g.set) in
      rw (← taken, ← none_plus (counts_of (start came parties) history))
      (balanced_along none parties (start came parties).state.taken history (start came parties) no_counts begins.healthy
      (start_balanced none parties (start came parties) begins) g.accepted)

pub good_form_kept : GoodFormKept
good_form_kept came parties history g = let s = healthy came parties history g in (s.form, s.fits)

pub lists_live_keys : ListsLiveKeys
lists_live_keys came parties history g =
    let s = healthy came parties history g in
    let m = grown came parties history in (
      λ places. listing_is none m s.inv s.form s.fits places,
      keys_rise none m s.inv,
      λ key. (
        λ is. live_row none m s.inv key (keys_live none m s.inv key is),
        λ row. live_keys_lem none m s.inv key
            (row_live m s.inv s.small key row),
      ),
    )

pub demand2 : Demand2
demand2 came parties history event g accepted =
    let s = healthy came parties history g in
    let m = grown came parties history in
    let advance = advance_of none parties m event s accepted in
    changes none m (event_of m event).memory s.inv advance.steady.inv (deed_of m event) (party_of m (whose event)).own advance.steady.live

-- one factor less
fewer : (parties lost won : ℕ) → 1 ≤ parties → lost + won ≤ parties * won → lost ≤ (parties - 1) * won
fewer zero lost won some bound = absurd (omega arith)
fewer (suc others) lost won some bound = let less : suc others - 1 ≡ others = omega arith in rw less (omega arith)

pub demand3 : Demand3
demand3 came parties history g =
    let s = healthy came parties history g in
    let b = balanced came parties history g in
    let c = counts_of (start came parties) history in
    let some : 1 ≤ parties = omega (arith, (good (grown came parties history) s.form).some, s.count) in
    (fewer parties c.lost c.won some (omega (arith, b.bound)), omega (arith, b.paid), b.moves, b.won, b.lost)

pub rows_taken : RowsTaken
rows_taken came parties history g = let s = healthy came parties history g in rw s.count (omega (arith, (balanced came parties history g).rows))

-- places of the party table that no party uses are idle as well
all_idle : (m : Machine) → Good m → length m.state.parties ≡ 16 → ((party : ℕ) → party < m.state.count → is_idle (party_of m party).place ≡ true) →
    (j : ℕ) → (party_of m j).place ≡ Idle
all_idle m g sixteen idle j = dite (dec_lt j m.state.count)
    (λ (known : j < m.state.count). idle_is (party_of m j).place (idle j known))
    (λ (past : j < m.state.count → ⊥). dite (dec_lt j 16)
    (λ (unused : j < 16). idle_is (party_of m j).place
    (and_left (is_idle (party_of m j).place) (eqb (party_of m j).own 0)
    (rw (le-ltb j m.state.count (omega arith)) at (and_right (record_fits m.state.taken (party_of m j)) _ (g.parties j unused)))))
    (λ (none : j < 16 → ⊥). ap (λ q. q.place) (get_or-eq_default m.state.parties blank {n = j} (omega arith))))

pub at_rest : AtRest
at_rest came parties history g idle steps =
    let s = healthy came parties history g in
    let m = grown came parties history in
    let form = good m s.form in
    rest_clean none m s.inv form.rows s.neat (all_idle m form s.sixteen (rw s.count idle)) steps

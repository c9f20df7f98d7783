-- What holds along every accepted history from a start: the invariant, and the books against the counts of the history.
-- Assumes nothing.
use Prim.Native.Nat.{ℕ, ◌+◌, ◌*◌, ◌≤◌, ◌<◌}
use mathlib.Core.Path.{◌≡◌, refl, ◌∙◌}
use mathlib.Core.List.{[], ◌∷◌}
use mathlib.Core.Bool.{Bool, true, false}
use native.Mathlib.Nat.{add-zero, add_assoc}
use native.Mathlib.Omega.{arith}
use lib.ListN.{length}
use Rattle.logic.proofs.Tests.{and_left, and_right}
use Rattle.list_rows.specs.Table.{next_at}
use Rattle.list_party.specs.declared.Place.TheVariants.{Idle}
use Rattle.list_unchecked.specs.Unchecked.{Machine, party_of}
use Rattle.list_form.specs.Form.{good_form}
use Rattle.list_form.proofs.Good.{Good, good}
use Rattle.list.specs.Engine.{bad_table, live_keys}
use Rattle.list.specs.Run.{Event, event_of, run}
use Rattle.logic.specs.Sum.{sum}
use Rattle.logic.specs.Keys.{extra}
use Rattle.logic.proofs.Sum.{sum_zero, sum_one, sum_step}
use Rattle.list_grown.specs.History.{History, accepts, accepts_all, AllAccepted}
use Rattle.list_grown.specs.Counts.{Counts, no_counts, plus}
use Rattle.list_grown.specs.Deeds.{deed_of, deed_counts, event_counts, counts_of}
use Rattle.list_grown.proofs.View.{Inv}
use Rattle.list_grown.proofs.Machine.{view_of, world_of, ins_of, outs_of}
use Rattle.list_grown.proofs.Books.{others_stale}
use Rattle.list_grown.proofs.Advance.{stale_of, owes_of, held_of, KeysSmall, Advanced, advanced}
use Rattle.list_grown.proofs.Neat.{Neat, neat_event}
use Rattle.list_grown.proofs.Events.{whose, Happens, happens}
use Rattle.list_grown.proofs.Changes.{ins_outs}

-- ---- what holds of a machine whatever came before

pub record Healthy (orphan : ℕ → Bool) (parties : ℕ) (m : Machine) : Type 0 where
  pub inv : Inv (view_of orphan m)
  pub form : good_form m ≡ true
  pub fits : bad_table m.table ≡ false
  pub small : KeysSmall m.table
  pub sixteen : length m.state.parties ≡ 16
  pub count : m.state.count ≡ parties
  pub neat : Neat (view_of orphan m)

-- a list at rest that nobody has moved in yet: set-up is one, and an imported list can be another
pub record Start (orphan : ℕ → Bool) (parties : ℕ) (m : Machine) : Type 0 where
  pub healthy : Healthy orphan parties m
  pub idles : (j : ℕ) → (party_of m j).place ≡ Idle
  pub none : (j : ℕ) → (party_of m j).unpublished ≡ false
  pub moves : m.state.tallies.moves ≡ 0
  pub won : m.state.tallies.won ≡ 0
  pub lost : m.state.tallies.lost ≡ 0

-- the books against the counts since a start at which so many rows were taken
pub record Balanced (parties taken : ℕ) (m : Machine) (c : Counts) : Type 0 where
  -- each won swap makes at most one swap of each other party stale
  pub bound : c.lost + sum (stale_of m) parties + c.won ≤ parties * c.won
  pub paid : c.won + sum (owes_of m) parties ≤ c.ins + 2 * c.outs
  pub rows : m.state.taken ≡ taken + c.adds + c.marks + sum (held_of m) parties
  pub moves : m.state.tallies.moves ≡ c.moves
  pub won : m.state.tallies.won ≡ c.won
  pub lost : m.state.tallies.lost ≡ c.lost

-- ---- one event

module _ (orphan : ℕ → Bool) (parties : ℕ) (m : Machine) (event : Event) (s : Healthy orphan parties m) (e : accepts m event ≡ true) where
  abbrev m' : Machine
  m' = (event_of m event).memory

  h : Happens m event
  h = happens m event e

  form : Good m
  form = good m s.form

  pub inside : whose event < length m.state.parties
  inside = omega (arith, h.known, form.few, s.sixteen)

  pub advance_of : Advanced orphan m (whose event) m' (deed_of m event)
  advance_of = advanced orphan m s.inv form.rows (whose event) inside (omega (arith, form)) (omega (arith, form)) (omega (arith, form)) h.advance

  pub healthy_event : Healthy orphan parties m'
  healthy_event = let t = advance_of in record {
    inv = t.steady.inv;
    form = h.kept;
    fits = h.still_fits;
    small = t.small s.small;
    sixteen = t.sixteen ∙ s.sixteen;
    count = t.count ∙ s.count;
    neat = neat_event orphan m s.inv form.rows (whose event) inside s.neat h.advance t;
  }

  pub keys_event : (extra (live_keys m') (live_keys m) ≡ ins_of (deed_of m event)) × (extra (live_keys m) (live_keys m') ≡ outs_of (deed_of m event))
  keys_event = let t = advance_of in ins_outs orphan m m' s.inv t.steady.inv (deed_of m event) (party_of m (whose event)).own t.steady.live

  pub balanced_event : (taken : ℕ) (c : Counts) → Balanced parties taken m c → Balanced parties taken m' (plus c (event_counts m event))
  balanced_event taken c k =
      let t = advance_of in
      let i = whose event in
      let deed = deed_of m event in
      let known : i < parties = omega (arith, h.known, s.count) in
      let stales = sum_step (stale_of m) (stale_of m') (deed_counts deed).won (deed_counts deed).lost 0 i
      (λ j n. rw (t.others j n) (others_stale (world_of orphan m) s.inv.good (λ row. next_at m'.table row) t.cell (deed_counts deed).won t.but
      (party_of m j) (party_of m j).place (s.inv.holds j)))
      (omega (arith, t.mine)) parties known in
      let owings = sum_step (owes_of m) (owes_of m') 0 (deed_counts deed).won (ins_of deed + 2 * outs_of deed) i
      (λ j n. rw (t.others j n) (omega arith)) t.pays parties known in
      let holdings = sum_one (held_of m) (held_of m') i parties known (λ j n. rw (t.others j n)) in
      record {
        bound = omega (arith, k.bound, stales);
        paid = omega (arith, k.paid, owings, keys_event);
        rows = omega (arith, k.rows, t.rows, holdings);
        moves = omega (arith, k.moves, t.made);
        won = omega (arith, k.won, t.won);
        lost = omega (arith, k.lost, t.lost);
      }

-- ---- a history

plus_none : (c : Counts) → plus c no_counts ≡ c
plus_none c = simp add-zero refl

plus_plus : (a b c : Counts) → plus (plus a b) c ≡ plus a (plus b c)
plus_plus a b c = simp add_assoc refl

-- what every accepted event keeps holds after every accepted history
pub along : (P : Machine → Type 0) → ((m : Machine) (event : Event) → P m → accepts m event ≡ true → P (event_of m event).memory) →
    (history : History) (m : Machine) → P m → AllAccepted m history → P (run m history)
unfolding run accepts_all
along P keeps [] m start ok = start
along P keeps (first ∷ rest) m start ok =
    let this : accepts m first ≡ true = and_left (accepts m first) (accepts_all (event_of m first).memory rest) ok in
    along P keeps rest (event_of m first).memory (keeps m first start this) (and_right (accepts m first) (accepts_all (event_of m first).memory rest) ok)

module _ (orphan : ℕ → Bool) (parties : ℕ) where
  pub healthy_along : (history : History) (m : Machine) → Healthy orphan parties m → AllAccepted m history → Healthy orphan parties (run m history)
  healthy_along history m s ok = along (Healthy orphan parties) (λ m event s e. healthy_event orphan parties m event s e) history m s ok

  pub balanced_along : (taken : ℕ) (history : History) (m : Machine) (c : Counts) → Healthy orphan parties m → Balanced parties taken m c →
      AllAccepted m history →
      Balanced parties taken (run m history) (plus c (counts_of m history))
  unfolding run accepts_all counts_of
  balanced_along taken [] m c s k ok = rw (plus_none c) k
  balanced_along taken (first ∷ rest) m c s k ok =
      let this : accepts m first ≡ true = and_left (accepts m first) (accepts_all (event_of m first).memory rest) ok in
      let m' = (event_of m first).memory in
      rw (plus_plus c (event_counts m first) (counts_of m' rest)) at
      (balanced_along taken rest m' (plus c (event_counts m first)) (healthy_event orphan parties m first s this)
      (balanced_event orphan parties m first s this taken c k)
      (and_right (accepts m first) (accepts_all m' rest) ok))

  -- at a start nothing is stale, owed or held
  pub start_balanced : (m : Machine) → Start orphan parties m → Balanced parties m.state.taken m no_counts
  start_balanced m s =
      let stales : sum (stale_of m) parties ≡ 0 = sum_zero (stale_of m) parties (λ j n. rw (s.idles j)) in
      let owings : sum (owes_of m) parties ≡ 0 = sum_zero (owes_of m) parties (λ j n. rw (s.idles j)) in
      let holdings : sum (held_of m) parties ≡ 0 = sum_zero (held_of m) parties (λ j n. rw (s.none j)) in
      record { bound = omega arith; paid = omega arith; rows = omega arith; moves = s.moves; won = s.won; lost = s.lost }

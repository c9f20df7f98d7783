-- A chain that rises visits a row once, so the rows taken are fuel enough for a listing.
-- Assumes nothing.
use mathlib.Core.Path.{◌≡◌, refl, ap}
use mathlib.Core.Bool.{Bool, true, false, cond, ◌&&◌, ◌||◌}
use mathlib.Core.List.{List, []}
use mathlib.Core.Logic.{⊎_elim}
use Prim.Native.Nat.{ℕ, zero, suc, ◌+◌, ◌-◌, ◌≤◌, ◌<◌, min}
use native.Mathlib.Nat.{eq-or-lt_of_le, le_of_suc-le-suc}
use native.Mathlib.Omega.{arith}
use lib.Dec.{eqb, ltb}
use borrow.Author.Tests.{ltb-true, lt-ltb}
use Rattle.logic.proofs.Tests.{and_right}
use Rattle.list_rows.specs.Table.{Table, key_at, next_at, is_splice}
use Rattle.list_rows.specs.Order.{rank_at}
use Rattle.list_unchecked.specs.Unchecked.{Machine}
use Rattle.list_form.proofs.Good.{Good, good}
use Rattle.list_chain.specs.Chain.{behind, is_live, rises, with_key, live_from}
use Rattle.list.specs.Claims.{FuelNeverDecides}

-- ---- how many of the first rows have a rank above a bound

above : (ℕ → ℕ) → (rows bound : ℕ) → ℕ
above rank_of zero bound = 0
above rank_of (suc rows) bound = min 1 (rank_of rows - bound) + above rank_of rows bound

module _ (rank_of : ℕ → ℕ) where
  above_small : (rows bound : ℕ) → above rank_of rows bound ≤ rows
  unfolding above
  above_small zero bound = omega arith
  above_small (suc rows) bound = omega (arith, above_small rows bound)

  -- a higher bound leaves no more rows
  above_shrinks : (rows low high : ℕ) → low ≤ high → above rank_of rows high ≤ above rank_of rows low
  unfolding above
  above_shrinks zero low high up = omega arith
  above_shrinks (suc rows) low high up = omega (arith, above_shrinks rows low high up)

  -- a step up to a row leaves fewer
  above_falls : (rows low row : ℕ) → row < rows → low < rank_of row → above rank_of rows (rank_of row) < above rank_of rows low
  unfolding above
  above_falls zero low row inside up = omega arith
  above_falls (suc rows) low row inside up =
      ⊎_elim
      (λ (e : row ≡ rows). omega (arith, ap rank_of e, above_shrinks rows low (rank_of row) (omega arith)))
      (λ (l : row < rows). omega (arith, above_falls rows low row l up))
      (eq-or-lt_of_le (le_of_suc-le-suc inside))

-- ---- laws of the tests, whatever they say

or_nothing : (last up on : Bool) → (up ≡ true → ⊥) → last || (up && on) ≡ last
or_nothing true up on never = refl
or_nothing false true on never = absurd (never refl)
or_nothing false false on never = refl

or_same : (last up on other : Bool) → (up ≡ true → on ≡ other) → last || (up && on) ≡ last || (up && other)
or_same true up on other same = refl
or_same false true on other same = same refl
or_same false false on other same = refl

none_at_last : (last : Bool) (some : List ℕ) → last ≡ true → cond last [] some ≡ []
none_at_last last some ended = rw ended

same_before_last : (last up on : Bool) (some other : List ℕ) → last || (up && on) ≡ true → (on ≡ true → some ≡ other) → cond last [] some ≡ cond last [] other
same_before_last true up on some other climbing same = refl
same_before_last false up on some other climbing same = same (and_right up on climbing)

either_below : (splice : Bool) (far near limit : ℕ) → far < limit → near < limit → cond splice far near < limit
either_below true far near limit far_below near_below = far_below
either_below false far near limit far_below near_below = near_below

-- ---- more fuel finds no other key

-- the row behind stands higher
abbrev climbs : Table → ℕ → Bool
climbs t row = ltb (rank_at t row) (rank_at t (behind t row))

-- a row's key, if it counts, before those found behind it
abbrev found : Table → (fuel row : ℕ) → List ℕ
found t fuel row = with_key (is_live t row) (key_at t row) (live_from t fuel (behind t row))

same_keys : (t : Table) (fuel full row : ℕ) → fuel ≤ full → rises t fuel row ≡ true → live_from t full row ≡ live_from t fuel row
unfolding rises live_from
same_keys t zero zero row more up = refl
same_keys t zero (suc full) row more up = none_at_last (eqb row 2) (found t full row) up
same_keys t (suc fuel) zero row more up = absurd (omega arith)
same_keys t (suc fuel) (suc full) row more up =
    same_before_last (eqb row 2) (climbs t row) (rises t fuel (behind t row)) (found t full row) (found t fuel row) up
    (λ (on : rises t fuel (behind t row) ≡ true).
    ap (with_key (is_live t row) (key_at t row)) (same_keys t fuel full (behind t row) (le_of_suc-le-suc more) on))

-- ---- fuel for the rows above finds the answer

module _ (t : Table) (taken : ℕ) (links : (row : ℕ) → row < taken → next_at t row < taken) where
  stays : (row : ℕ) → row < taken → behind t row < taken
  stays row inside =
      either_below (is_splice t (next_at t row)) (next_at t (next_at t row)) (next_at t row) taken
      (links (next_at t row) (links row inside)) (links row inside)

  -- a climb leaves fewer rows above
  fewer_above : (row : ℕ) → row < taken → climbs t row ≡ true →
      above (rank_at t) taken (rank_at t (behind t row)) < above (rank_at t) taken (rank_at t row)
  fewer_above row inside up =
      above_falls (rank_at t) taken (rank_at t row) (behind t row) (stays row inside) (ltb-true (rank_at t row) (rank_at t (behind t row)) up)

  same_answer : (fuel full row : ℕ) → fuel ≤ full → row < taken → above (rank_at t) taken (rank_at t row) ≤ fuel → rises t full row ≡ rises t fuel row
  unfolding rises
  same_answer zero zero row more inside enough = refl
  same_answer zero (suc full) row more inside enough =
      or_nothing (eqb row 2) (climbs t row) (rises t full (behind t row))
      (λ (up : climbs t row ≡ true). omega (arith, fewer_above row inside up))
  same_answer (suc fuel) zero row more inside enough = absurd (omega arith)
  same_answer (suc fuel) (suc full) row more inside enough =
      or_same (eqb row 2) (climbs t row) (rises t full (behind t row)) (rises t fuel (behind t row))
      (λ (up : climbs t row ≡ true).
      same_answer fuel full (behind t row) (le_of_suc-le-suc more) (stays row inside) (omega (arith, fewer_above row inside up)))

-- ---- good form keeps every next of a taken row among the taken rows

good_links : (m : Machine) → Good m → (row : ℕ) → row < m.state.taken → next_at m.table row < m.state.taken
good_links m g row inside =
    let fits = g.rows.nexts row (omega (arith, g.rows.room, g.rows.next_long)) in
    ltb-true (next_at m.table row) m.state.taken (rw (lt-ltb row m.state.taken inside) at fits)

pub fuel_never_decides : FuelNeverDecides
fuel_never_decides m more h =
    let taken : ℕ = m.state.taken in
    let g : Good m = good m h in (
      same_answer m.table taken (good_links m g) taken (taken + more) 1 (omega arith) (omega (arith, g.rows.ends))
          (above_small (rank_at m.table) taken (rank_at m.table 1)),
      same_keys m.table taken (taken + more) 1 (omega arith),
    )

-- One step of each walk along the chain: whether it rises, how many keys it has, the keys themselves.
-- Assumes nothing.
use mathlib.Core.Path.{◌≡◌, refl}
use mathlib.Core.Logic.{◌≢◌}
use mathlib.Core.Bool.{true, false}
use mathlib.Core.List.{List, []}
use Prim.Native.Nat.{ℕ, zero, suc, ◌+◌, ◌-◌, ◌<◌}
use native.Mathlib.Nat.{not-suc-le-zero, add-zero}
use native.Mathlib.Numerals.{add-one, sub-one}
use native.Mathlib.Omega.{arith}
use lib.Dec.{eqb}
use lib.ListN.{length, set}
use lib.Seq.{sets}
use borrow.Author.Tests.{eq-eqb, ne_eqb}
use Rattle.list_rows.specs.Table.{Table, key_at}
use Rattle.list_rows.specs.Order.{below}
use Rattle.list_chain.specs.Chain.{behind, is_live, rises, with_key, live_from}

-- one turn of a loop more is one row less that is left
one_turn : (taken turns : ℕ) → taken - (turns + 1) ≡ taken - turns - 1
one_turn taken turns = omega arith

module _ (t : Table) (row : ℕ) where
  -- ---- whether it rises

  pub rises_none : rises t 0 row ≡ eqb row 2
  unfolding rises
  rises_none = refl

  pub rises_end : (left : ℕ) → row ≡ 2 → rises t left row ≡ true
  unfolding rises
  rises_end zero ends = eq-eqb row 2 ends
  rises_end (suc left) ends = rw (eq-eqb row 2 ends)

  pub rises_stop : (left : ℕ) {later : ℕ} → 0 < left → row ≢ 2 → later ≡ behind t row → below t row later ≡ false → rises t left row ≡ false
  unfolding rises
  rises_stop zero some goes is falls = absurd (not-suc-le-zero some)
  rises_stop (suc left) {later} some goes is falls = rw (ne_eqb row 2 goes, ← is, falls)

  rises_more : (left : ℕ) {later : ℕ} → 0 < left → row ≢ 2 → later ≡ behind t row → below t row later ≡ true →
      rises t left row ≡ rises t (left - 1) later
  unfolding rises
  rises_more zero some goes is up = absurd (not-suc-le-zero some)
  rises_more (suc left) {later} some goes is up = rw (ne_eqb row 2 goes, ← is, up, sub-one)

  pub rises_on : (taken turns : ℕ) {later : ℕ} → turns < taken → row ≢ 2 → later ≡ behind t row → below t row later ≡ true →
      rises t (taken - turns) row ≡ rises t (taken - (turns + 1)) later
  rises_on taken turns {later} some goes is up = rw (one_turn taken turns) (rises_more (taken - turns) (omega (arith, some)) goes is up)

  -- ---- its keys

  pub live_none : live_from t 0 row ≡ []
  unfolding live_from
  live_none = refl

  pub live_end : (left : ℕ) → row ≡ 2 → live_from t left row ≡ []
  unfolding live_from
  live_end zero ends = refl
  live_end (suc left) ends = rw (eq-eqb row 2 ends)

  pub live_on : (left : ℕ) → 0 < left → row ≢ 2 → live_from t left row ≡ with_key (is_live t row) (key_at t row) (live_from t (left - 1) (behind t row))
  unfolding live_from
  live_on zero some goes = absurd (not-suc-le-zero some)
  live_on (suc left) some goes = rw (ne_eqb row 2 goes, sub-one)

-- ---- one row more: its key counts, or the row is no live one

pub none_left : (count : ℕ) {keys : List ℕ} → keys ≡ [] → count + length keys ≡ count
none_left count none = rw none (add-zero count)

module _ (t : Table) (row taken turns : ℕ) (some : turns < taken) (goes : row ≢ 2) {later : ℕ} (is_behind : later ≡ behind t row) where
  -- the keys from this row on, by those from the row behind it on
  rest : List ℕ
  rest = live_from t (taken - (turns + 1)) later

  keys_on : live_from t (taken - turns) row ≡ with_key (is_live t row) (key_at t row) rest
  unfolding rest
  keys_on = rw (is_behind, one_turn taken turns) (live_on t row (taken - turns) (omega (arith, some)) goes)

  pub count_live : (count : ℕ) → is_live t row ≡ true →
      count + length (live_from t (taken - turns) row) ≡ count + 1 + length (live_from t (taken - (turns + 1)) later)
  unfolding rest
  count_live count live = let keys = rw live at keys_on in rw keys (omega arith)

  pub count_dead : (count : ℕ) → is_live t row ≡ false →
      count + length (live_from t (taken - turns) row) ≡ count + length (live_from t (taken - (turns + 1)) later)
  unfolding rest
  count_dead count dead = let keys = rw dead at keys_on in rw keys

  pub put_live : (places : List ℕ) (place : ℕ) → is_live t row ≡ true →
      sets places place (live_from t (taken - turns) row) ≡ sets (set places place (key_at t row)) (place + 1) (live_from t (taken - (turns + 1)) later)
  unfolding rest
  put_live places place live = let keys = rw live at keys_on in rw (keys, add-one place)

  pub put_dead : (places : List ℕ) (place : ℕ) → is_live t row ≡ false →
      sets places place (live_from t (taken - turns) row) ≡ sets places place (live_from t (taken - (turns + 1)) later)
  unfolding rest
  put_dead places place dead = let keys = rw dead at keys_on in rw keys

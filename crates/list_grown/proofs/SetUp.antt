-- An accepted set-up is a start.
-- Assumes nothing.
use Prim.{tt}
use Prim.Native.Nat.{ℕ, zero, suc, ◌≤◌, ◌<◌}
use mathlib.Core.Path.{◌≡◌, refl}
use mathlib.Core.Bool.{Bool, true, false, false≢true}
use native.Mathlib.Omega.{arith}
use lib.ListN.{length-set, length-replicate}
use Rattle.refusal.specs.Answer.{left, passed}
use Rattle.refusal.proofs.Laws.{change_past}
use Rattle.list_rows.specs.Table.{Table}
use Rattle.list_rows.specs.Order.{rank}
use Rattle.list_party.specs.Party.{blank}
use Rattle.list_unchecked.specs.Unchecked.{Machine, machine, party_of}
use Rattle.list_form.specs.Form.{rows_in, good_form}
use Rattle.list_fresh.specs.Fresh.{fresh_table}
use Rattle.list_party.specs.State.{resting_state}
use Rattle.list.specs.Engine.{bad_table, set_up_tests, set_up_of}
use Rattle.list.proofs.Laws.{past_set_up, table_fits}
use Rattle.logic.proofs.Lists.{repeat_at}
use Rattle.list.proofs.Kept.{set_up_is_good}
use Rattle.list_world.proofs.World.{World, RowFacts, Removed, stop, step}
use Rattle.list_grown.specs.Demands.{HoldsRow}
use Rattle.list_grown.specs.History.{start}
use Rattle.list_grown.proofs.View.{Inv}
use Rattle.list_grown.proofs.Machine.{view_of, world_of}
use Rattle.list_grown.proofs.Neat.{Neat, neat_start}
use Rattle.list_grown.proofs.Grown.{Start}

-- no row is an orphan
abbrev pub none : ℕ → Bool
none row = false

module _ (parties n : ℕ) where
  -- 4 + n rows
  abbrev fresh : Machine
  fresh = machine (fresh_table (suc (suc (suc (suc n))))) (resting_state parties 4)

  abbrev w : World
  w = world_of none fresh

  nobody : (j row : ℕ) → HoldsRow (party_of fresh j) row → ⊥
  nobody j row held = false≢true (rw (repeat_at blank 16 j) at held).0

  known : (row : ℕ) → row < 4 → w.Pub row
  known row below = (below, λ j. nobody j row, refl)

  -- the four ends, one after another
  ends_sound : (row : ℕ) → row < 4 → RowFacts w row
  unfolding rank
  ends_sound zero below = record {
    closed = known 1 (omega arith);
    first = λ a b. refl;
    last = λ a. absurd (omega (arith, a));
    rises = λ a b. omega arith;
    gone = λ z. absurd (omega (arith, z));
    reach = λ a b o. absurd (omega (arith, a));
  }
  ends_sound (suc zero) below = record {
    closed = known 2 (omega arith);
    first = λ a b. absurd (omega (arith, b));
    last = λ a. absurd (omega (arith, a));
    rises = λ a b. omega arith;
    gone = λ z. absurd (omega (arith, z));
    reach = λ a b o. stop refl;
  }
  ends_sound (suc (suc zero)) below = record {
    closed = known 3 (omega arith);
    first = λ a b. absurd (omega (arith, b));
    last = λ a. refl;
    rises = λ a b. absurd (omega (arith, b));
    gone = λ z. absurd (omega (arith, z));
    reach = λ a b o. step {a = 1} (omega arith) (stop refl);
  }
  ends_sound (suc (suc (suc zero))) below = record {
    closed = known 3 (omega arith);
    first = λ a b. absurd (omega (arith, b));
    last = λ a. refl;
    rises = λ a b. absurd (omega (arith, b));
    gone = λ z. absurd (omega (arith, z));
    reach = λ a b o. absurd (omega (arith, b));
  }
  ends_sound (suc (suc (suc (suc row)))) below = absurd (omega arith)

  fresh_inv : Inv (view_of none fresh)
  unfolding rank
  fresh_inv = record {
    good = record {
      head = record { known = known 0 (omega arith); pos = omega arith };
      one = record { known = known 1 (omega arith); pos = omega arith };
      two = record { known = known 2 (omega arith); pos = omega arith };
      three = record { known = known 3 (omega arith); pos = omega arith };
      start = omega arith;
      order = omega arith;
      each = λ row k. ends_sound row k.0;
    };
    scale = (refl, refl);
    holds = λ j. rw (repeat_at blank 16 j) tt;
    inside = λ j row held. absurd (nobody j row held);
    apart = λ i j row a b. absurd (nobody i row a);
    lost = λ row e. absurd (false≢true e);
  }

  not_removed : (row : ℕ) → row < 4 → Removed w row → ⊥
  unfolding rank
  not_removed zero below z = omega (arith, z)
  not_removed (suc zero) below z = omega (arith, z)
  not_removed (suc (suc zero)) below z = omega (arith, z)
  not_removed (suc (suc (suc zero))) below z = omega (arith, z)
  not_removed (suc (suc (suc (suc row)))) below z = omega arith

  fresh_neat : Neat (view_of none fresh)
  fresh_neat = neat_start (λ row k r z. not_removed row k.0 z)

-- ---- the start

module _ (came : Machine) (parties : ℕ) (ok : (set_up_of came parties).answer ≡ passed) where
  abbrev t : Table
  t = came.table

  abbrev N : ℕ
  N = rows_in t

  abbrev laid : Machine
  laid = machine (fresh_table N) (resting_state parties 4)

  passes : set_up_tests t parties ≡ passed
  unfolding set_up_of
  passes = change_past (set_up_tests t parties) came (left laid passed) tt ok

  pub start_is : start came parties ≡ laid
  unfolding set_up_of
  start_is = rw (passes, start)

  table : bad_table t ≡ false
  table = (past_set_up t parties passes).0

  -- four rows at least are there
  laid_view : (rows : ℕ) → 4 ≤ rows → let view = view_of none (machine (fresh_table rows) (resting_state parties 4)) in Inv view × Neat view
  laid_view zero enough = absurd (omega arith)
  laid_view (suc zero) enough = absurd (omega arith)
  laid_view (suc (suc zero)) enough = absurd (omega arith)
  laid_view (suc (suc (suc zero))) enough = absurd (omega arith)
  laid_view (suc (suc (suc (suc n)))) enough = (fresh_inv parties n, fresh_neat parties n)

  fits : bad_table (fresh_table N) ≡ false
  fits = let same = table_fits t table in simp (length-set, length-replicate) (rw (same.0, same.1, same.2) at table)

  laid_start : good_form laid ≡ true → Start none parties laid
  laid_start form = let view = laid_view N (table_fits t table).3 in record {
    healthy = record {
      inv = view.0;
      form = form;
      fits = fits;
      small = λ row. rw (repeat_at {A = ℕ} 0 N row) (omega arith);
      sixteen = refl;
      count = refl;
      neat = view.1;
    };
    idles = λ j. rw (repeat_at blank 16 j);
    none = λ j. rw (repeat_at blank 16 j);
    moves = refl;
    won = refl;
    lost = refl;
  }

  pub set_up : Start none parties (start came parties)
  set_up = rw start_is (laid_start (rw start_is at (set_up_is_good came parties ok)))

-- Only a splice has a back: no write gives one to another row, and set-up lays none down.
-- Assumes nothing.
use Prim.Native.Nat.{ℕ, ◌<◌, ◌≤◌}
use mathlib.Core.Path.{◌≡◌, refl, sym, subst, ◌∙◌}
use mathlib.Core.Bool.{false, true≢false}
use mathlib.Core.List.{[], ◌∷◌}
use mathlib.Core.Logic.{◌⊎◌, inl, inr, ◌≢◌, dite}
use native.Mathlib.Decide.{dec_lt}
use native.Mathlib.Omega.{arith}
use lib.ListN.{length, length-set}
use Rattle.refusal.specs.Answer.{Tests, passed, accepted, refused, Left, left, leaving}
use Rattle.columns.proofs.Laws.{writes_nothing_past, reads_what_was_put, keeps_other_rows, keeps_length}
use Rattle.list_rows.specs.declared.Write.{Write}
use Rattle.list_rows.specs.declared.Write.TheVariants.{Untouched, Link, Splice, Item}
use Rattle.list_rows.specs.Table.{Table, back_at, is_splice, with_row}
use Rattle.list_rows.specs.Writes.{written}
use Rattle.list_unchecked.specs.Unchecked.{Machine, party_of, begun_of, unchecked_call, unchecked_move}
use Rattle.list_moves.specs.Moves.{move_at}
use Rattle.list_fresh.specs.Fresh.{fresh_table}
use Rattle.list_form.specs.Form.{rows_in}
use Rattle.list.specs.Engine.{call_tests, call_of, move_tests, accepting, move_of}
use Rattle.calls.specs.Calls.{call_named}
use Rattle.list.specs.Run.{Event, calls, moves, event_of, run}
use Rattle.logic.proofs.Lists.{repeat_at}
use Rattle.logic.proofs.Cases.{by_row}
use Rattle.list_grown.specs.History.{History, start}
use Rattle.list_grown.specs.Demands.{Backs}
use Rattle.list_grown.proofs.SetUp.{start_is}

-- the two columns are equally long, so that a row has a kind where it has a back
record Backed (t : Table) : Type 0 where
  even : length t.kind ≡ length t.back
  none : (row : ℕ) → is_splice t row ≡ false → back_at t row ≡ 0

-- ---- a row that is written as a splice, or without a back

module _ (t : Table) (b : Backed t) (row kind key next back : ℕ) (fits : (kind ≡ 3) ⊎ (back ≡ 0)) where
  after : Table
  after = with_row t row kind key next back

  elsewhere : (other : ℕ) → other ≢ row → is_splice after other ≡ false → back_at after other ≡ 0
  unfolding after
  elsewhere other n h = keeps_other_rows t.back row other back n ∙ b.none other (rw (keeps_other_rows t.kind row other kind n) at h)

  inside : row < length t.kind → (kind ≡ 3) ⊎ (back ≡ 0) → is_splice after row ≡ false → back_at after row ≡ 0
  unfolding after
  inside l (inl e) h = absurd (true≢false (rw (reads_what_was_put t.kind row kind l, e) at h))
  inside l (inr e) h = reads_what_was_put t.back row back (rw b.even at l) ∙ e

  outside : length t.kind ≤ row → is_splice after row ≡ false → back_at after row ≡ 0
  unfolding after
  outside l h =
      rw (writes_nothing_past t.back row back (rw b.even at l))
      (b.none row (rw (writes_nothing_past t.kind row kind l) at h))

  here : is_splice after row ≡ false → back_at after row ≡ 0
  here h = dite (dec_lt row (length t.kind)) (λ l. inside l fits h) (λ l. outside (omega (arith, l)) h)

  with_row_lem : Backed after
  unfolding after
  with_row_lem = record {
    even = keeps_length t.kind row kind ∙ b.even ∙ sym (keeps_length t.back row back);
    none = λ other. by_row other row
        (λ e. subst (λ at. is_splice after at ≡ false → back_at after at ≡ 0) (sym e) here)
        (λ n. elsewhere other n);
  }

write_keeps : (write : Write) (t : Table) → Backed t → Backed (written write t)
unfolding after
write_keeps Untouched t b = b
write_keeps (Link row to) t b = record { even = b.even; none = b.none }
write_keeps (Splice row to from) t b = with_row_lem t b row 3 0 to from (inl refl)
write_keeps (Item row key) t b = with_row_lem t b row 2 key 0 0 (inr refl)

-- ---- events

leaving_keeps : {A : Type 0} (tests : Tests) (found : Machine) (changed : Left Machine A) →
    Backed found.table → Backed changed.memory.table → Backed (leaving tests found changed).memory.table
leaving_keeps (accepted done) found changed old new = new
leaving_keeps (refused number) found changed old new = old

event_keeps : (m : Machine) (event : Event) → Backed m.table → Backed (event_of m event).memory.table
unfolding call_of move_of unchecked_call unchecked_move
event_keeps m (calls party code key) b =
    leaving_keeps (call_tests m party code) m (left (unchecked_call m party (call_named code) key) passed) b
    (write_keeps (begun_of m.state (party_of m party) (call_named code) key).write m.table b)
event_keeps m (moves party) b =
    leaving_keeps (move_tests m party) m (accepting (unchecked_move m party)) b
    (write_keeps (move_at (party_of m party).place m.table (party_of m party)).write m.table b)

run_keeps : (history : History) (m : Machine) → Backed m.table → Backed (run m history).table
unfolding run
run_keeps [] m b = b
run_keeps (first ∷ rest) m b = run_keeps rest (event_of m first).memory (event_keeps m first b)

fresh_backed : (rows : ℕ) → Backed (fresh_table rows)
fresh_backed rows = record {
  even = simp length-set refl;
  none = λ row h. repeat_at {A = ℕ} 0 rows row;
}

pub backs : Backs
backs came parties history g =
    (run_keeps history (start came parties) (rw (start_is came parties g.set) (fresh_backed (rows_in came.table)))).none

-- How long what is written is.
-- Assumes nothing.
use mathlib.Core.Path.{◌≡◌, ap, sym}
use mathlib.Core.List.{List, [], ◌∷◌}
use Prim.Native.Nat.{ℕ, suc, ◌+◌, ◌*◌}
use native.Mathlib.Nat.{mul-zero, mul-suc}
use native.Mathlib.Omega.{arith}
use lib.ListN.{length, length-append}
use Rattle.field.specs.declared.ByteOrder.TheVariants.{LowFirst}
use Rattle.field.proofs.Numbers.{long_bytes}
use Rattle.list_party.specs.declared.Party.{Party}
use Rattle.list_party.specs.declared.Place.{Place}
use Rattle.list_party.specs.declared.Place.TheVariants.{Idle, Walk, Skip, AddSwap, Mark, Reread, Clean, Back, Look}
use Rattle.list_party.specs.declared.State.{State}
use Rattle.list_unchecked.specs.Unchecked.{Machine}
use Rattle.probe_layout.specs.Bytes.{low, one_by_one}
use Rattle.probe_layout.specs.Records.{place_bytes, record_bytes}
use Rattle.probe_layout.specs.Layout.{state_bytes, machine_bytes}

pub long_row : {A : Type 0} (bytes_of : A → List ℕ) (width : ℕ) → ((a : A) → length (bytes_of a) ≡ width) → (l : List A) →
    length (one_by_one bytes_of l) ≡ width * length l
unfolding one_by_one
long_row bytes_of width each [] = sym (mul-zero width)
long_row bytes_of width each (first ∷ rest) =
    let more = long_row bytes_of width each rest in
    let here = each first in
    simp length-append (omega (arith, mul-suc width (length rest)))

pub long_low : (width number : ℕ) → length (low width number) ≡ width
long_low width number = long_bytes LowFirst width number

long_place : (place : Place) → length (place_bytes place) ≡ 6
long_place Idle = ap (λ (n : ℕ). suc (suc n)) (long_low 4 0)
long_place (Walk call key) = ap (λ (n : ℕ). suc (suc n)) (long_low 4 key)
long_place (Skip call key) = ap (λ (n : ℕ). suc (suc n)) (long_low 4 key)
long_place (AddSwap call key) = ap (λ (n : ℕ). suc (suc n)) (long_low 4 key)
long_place (Mark call key) = ap (λ (n : ℕ). suc (suc n)) (long_low 4 key)
long_place (Reread call key) = ap (λ (n : ℕ). suc (suc n)) (long_low 4 key)
long_place (Clean call key) = ap (λ (n : ℕ). suc (suc n)) (long_low 4 key)
long_place (Back call key) = ap (λ (n : ℕ). suc (suc n)) (long_low 4 key)
long_place (Look call key) = ap (λ (n : ℕ). suc (suc n)) (long_low 4 key)

long_record : (q : Party) → length (record_bytes q) ≡ 20
unfolding record_bytes
long_record q =
    simp length-append
    (omega (
      arith,
      long_place q.place,
      long_low 2 q.p,
      long_low 2 q.n,
      long_low 2 q.c,
      long_low 2 q.s,
      long_low 2 q.r,
      long_low 2 q.own,
    ))

long_state : (st : State) → length (state_bytes st) ≡ 20 + 20 * length st.parties
unfolding state_bytes
long_state st =
    simp length-append
    (omega (
      arith,
      long_low 4 st.count,
      long_low 4 st.taken,
      long_low 4 st.tallies.moves,
      long_low 4 st.tallies.won,
      long_low 4 st.tallies.lost,
      long_row record_bytes 20 long_record st.parties,
    ))

pub long_machine : (m : Machine) → length (machine_bytes m) ≡
    28 + 20 * length m.state.parties + length m.table.kind + 4 * length m.table.key + 2 * length m.table.next + 2 * length m.table.back
unfolding machine_bytes
long_machine m =
    simp length-append
    (omega (
      arith,
      long_low 2 (length m.table.kind),
      long_low 2 (length m.table.key),
      long_low 2 (length m.table.next),
      long_low 2 (length m.table.back),
      long_state m.state,
      long_row (low 1) 1 (long_low 1) m.table.kind,
      long_row (low 4) 4 (long_low 4) m.table.key,
      long_row (low 2) 2 (long_low 2) m.table.next,
      long_row (low 2) 2 (long_low 2) m.table.back,
    ))

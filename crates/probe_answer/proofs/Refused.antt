-- A refusal shows its number, and else what came.
-- Assumes nothing.
use mathlib.Core.Path.{◌≡◌, ap, sym, ◌∙◌}
use mathlib.Core.List.{List, ◌∷◌, ◌++◌}
use Prim.Native.Nat.{ℕ, zero, suc}
use native.Mathlib.Omega.{arith}
use Rattle.refusal.specs.Answer.{Answer, accepted, refused}
use Rattle.field.specs.Layout.{bytes_in}
use Rattle.list_unchecked.specs.Unchecked.{Machine}
use Rattle.list.specs.Engine.{set_up_of, call_of, move_of, list_of}
use Rattle.list.proofs.Promises.{refused_set_up_leaves, refused_call_leaves, refused_move_leaves, refused_listing_leaves}
use Rattle.probe_layout.specs.Bytes.{lows}
use Rattle.probe_layout.specs.Layout.{what_in, party_in, code_in, key_in, places_in, machine_in}
use Rattle.probe_answer.specs.Probe.{Seen, unwritten, refusal_in, done_shown, move_shown, list_shown, seen_by, seen_of, seen_bytes}
use Rattle.probe_answer.specs.Claims.{RefusedAsFound}
use Rattle.probe_answer.proofs.Laws.{probe_fits}
use Rattle.probe_layout.proofs.Written.{read_is_written}

-- a number that is not 0 is a refusal's
refused_by : {A : Type 0} (answer : Answer A) (number : ℕ) → refusal_in answer ≡ suc number → answer ≡ refused (suc number)
refused_by (accepted value) number is = absurd (omega arith)
refused_by (refused stop) number is = ap refused is

-- what is seen where nothing was done
abbrev untouched : Machine → List ℕ → ℕ → Seen
untouched m places number = record { number = suc number; answer = 0; listed = 0; places = places; after = m }

module _ (m : Machine) (places : List ℕ) (number : ℕ) where
  set_up_untouched : (parties : ℕ) → (done_shown places (set_up_of m parties)).number ≡ suc number →
      done_shown places (set_up_of m parties) ≡ untouched m places number
  unfolding done_shown
  set_up_untouched parties is =
      let stops = refused_by (set_up_of m parties).answer number is in
      rw (stops, refused_set_up_leaves m parties (suc number) stops)

  call_untouched : (party code key : ℕ) → (done_shown places (call_of m party code key)).number ≡ suc number → done_shown places (call_of m party code key)
      ≡ untouched m places number
  unfolding done_shown
  call_untouched party code key is =
      let stops = refused_by (call_of m party code key).answer number is in
      rw (stops, refused_call_leaves m party code key (suc number) stops)

  move_untouched : (party : ℕ) → (move_shown places (move_of m party)).number ≡ suc number → move_shown places (move_of m party) ≡ untouched m places number
  unfolding move_shown
  move_untouched party is =
      let stops = refused_by (move_of m party).answer number is in
      rw (stops, refused_move_leaves m party (suc number) stops)

  listing_untouched : (list_shown m (list_of m places)).number ≡ suc number → list_shown m (list_of m places) ≡ untouched m places number
  unfolding list_shown
  listing_untouched is =
      let stops = refused_by (list_of m places).answer number is in
      rw (stops, refused_listing_leaves m places (suc number) stops)

  all_untouched : (what party code key : ℕ) → (seen_by what m party code key places).number ≡ suc number →
      seen_by what m party code key places ≡ untouched m places number
  all_untouched zero party code key is = set_up_untouched party is
  all_untouched (suc zero) party code key is = call_untouched party code key is
  all_untouched (suc (suc zero)) party code key is = move_untouched party is
  all_untouched (suc (suc (suc more))) party code key is = listing_untouched is

pub refused_as_found : RefusedAsFound
unfolding seen_of seen_bytes bytes_in
refused_as_found bytes number all fit is =
    let places = unwritten (places_in bytes) in
    sym (probe_fits bytes fit)
    ∙ ap seen_bytes (all_untouched (machine_in bytes) places number (what_in bytes) (party_in bytes) (code_in bytes) (key_in bytes) is)
    ∙ ap (λ (l : List ℕ). (suc number ∷ 0 ∷ 0 ∷ 0 ∷ lows 4 (unwritten (places_in bytes))) ++ l) (read_is_written bytes all fit)
